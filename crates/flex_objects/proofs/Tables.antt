-- Keys that are looked up in a table of properties.
use Rattle.std.proofs.Common.{List, [], ◌∷◌, ◌≡◌, ◌∙◌, Bool, true, false, map, refl, ap, sym, subst, cond}
use Rattle.std.proofs.lemmas.Slice.Eq.{bytes_eq-Decides}
use Rattle.std.specs.Cmp.Lexicographic.{nat_list_eq_equiv}
use Rattle.std.specs.List.{position}
use Rattle.std.specs.Map.{lookup}
use Rattle.std.specs.Prelude.{None, Option, Some, String, is_none, option_map, ℕ}
use Rattle.std.specs.Str.{bytes_eq}
use Rattle.std.specs.String.{string_bytes}
use Rattle.flex_base.specs.Lists.{one_later}
use Rattle.flex_world.specs.Objects.{Field, field_named}
use Rattle.flex_objects.specs.Properties.{is_watched, place_of, slot_field}
use Rattle.flex_objects.specs.Tables.{entry_field}
use Rattle.flex_objects.specs.declared.slots.Slot.{Slot}
use Rattle.flex_objects.proofs.Positions.{position_step}

pub bytes_eq_symmetric : (a b : List ℕ) → bytes_eq a b ≡ bytes_eq b a
bytes_eq_symmetric a b = nat_list_eq_equiv.symm a b

pub place_is_position : (key : List ℕ) (fields : List Field) → place_of key fields ≡ position (λ (f : Field). bytes_eq f.name key) fields
place_is_position key [] = refl
place_is_position key (f ∷ fields) = ap (λ r. cond (bytes_eq f.name key) (Some 0) (one_later r)) (place_is_position key fields) ∙ sym (position_step (λ (f : Field). bytes_eq f.name key) f fields)

abbrev pub is_bindable : Option Slot → Bool
is_bindable None = false
is_bindable (Some slot) = slot.bindable

module _ {A : Type 0} (key : List ℕ) where
  abbrev pub is_key : String A → Bool
  is_key k = bytes_eq key (string_bytes k)

  pub watched_found : (es : List (String A × Slot)) → is_watched (field_named key (map entry_field es)) ≡ is_bindable (lookup is_key es)
  watched_found [] = refl
  watched_found (e ∷ es) =
      ap (λ b. is_watched (cond b (Some (entry_field e)) (field_named key (map entry_field es)))) (bytes_eq_symmetric (string_bytes e.0) key)
      ∙ by (watched_found es) (is_key e.0)
    where
      by : is_watched (field_named key (map entry_field es)) ≡ is_bindable (lookup is_key es)
          → (b : Bool) → is_watched (cond b (Some (entry_field e)) (field_named key (map entry_field es))) ≡ is_bindable (cond b (Some e.1) (lookup is_key es))
      by rest true = refl
      by rest false = rest

  -- the property of a key, as a new object has it
  pub found_kept : (es : List (String A × Slot)) → option_map (slot_field key) (lookup is_key es) ≡ field_named key (map entry_field es)
  found_kept [] = refl
  found_kept (e ∷ es) =
      by (found_kept es) (is_key e.0) refl
      ∙ ap (λ b. cond b (Some (entry_field e)) (field_named key (map entry_field es))) (bytes_eq_symmetric key (string_bytes e.0))
    where
      by : option_map (slot_field key) (lookup is_key es) ≡ field_named key (map entry_field es)
          → (b : Bool) → is_key e.0 ≡ b
          → option_map (slot_field key) (cond b (Some e.1) (lookup is_key es)) ≡ cond b (Some (entry_field e)) (field_named key (map entry_field es))
      by rest true is = ap (λ k. Some (slot_field k e.1)) ((bytes_eq-Decides key (string_bytes e.0)).0 is)
      by rest false is = rest

  pub absent : (es : List (String A × Slot)) → is_none (field_named key (map entry_field es)) ≡ true → lookup is_key es ≡ None
  absent [] free = refl
  absent (e ∷ es) free =
      by (absent es) (is_key e.0) (subst (λ b. is_none (cond b (Some (entry_field e)) (field_named key (map entry_field es))) ≡ true) (bytes_eq_symmetric (string_bytes e.0) key) free)
    where
      by : (is_none (field_named key (map entry_field es)) ≡ true → lookup is_key es ≡ None)
          → (b : Bool) → is_none (cond b (Some (entry_field e)) (field_named key (map entry_field es))) ≡ true → cond b (Some e.1) (lookup is_key es) ≡ None
      by rest true f = absurd (cc)
      by rest false f = rest f

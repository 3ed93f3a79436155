-- The properties of a class of the catalog are added one after another.
use Rattle.std.proofs.Common.{List, [], ◌∷◌, ◌++◌, ◌≡◌, ◌∙◌, Bool, true, false, map, refl, ap, sym, cond, get_or, drop, not}
use Rattle.std.proofs.lemmas.List.{append-nil, append_assoc}
use Rattle.std.specs.List.{filter, fold, list_all, list_any}
use Rattle.std.specs.Prelude.{None, Some, is_none, ℕ, ◌&&◌}
use Rattle.std.specs.Str.{bytes_eq}
use Rattle.component_catalog.specs.Laws.{are_distinct}
use Rattle.component_catalog.specs.Properties.{Property, properties, property_of}
use Rattle.component_catalog.specs.declared.class.NativeClass.{NativeClass}
use Rattle.component_catalog.specs.declared.class.NativeClass.TheVariants as class
use Rattle.flex_world.specs.Making.{is_computed, native_field, native_fields}
use Rattle.flex_world.specs.Objects.{Field, field_named}
use Rattle.flex_objects.proofs.Booleans.{both, denied, neither}
use Rattle.flex_objects.specs.Properties.{has_room_for, is_free, with_named, with_row}

abbrev pub name_of : Property → List ℕ
name_of p = p.name

abbrev pub names_of : List Property → List (List ℕ)
names_of ps = map name_of ps

-- each name is found with its own row
abbrev pub RowsFound : NativeClass → List Property → Type 0
RowsFound c ps = map (λ (p : Property). property_of c p.name) ps ≡ map (λ (p : Property). Some p.row) ps

pub rows_found : (c : NativeClass) → RowsFound c (properties c)
rows_found class.EventDispatcher = refl
rows_found class.UIComponent = refl
rows_found class.SkinnableContainer = refl
rows_found class.Group = refl
rows_found class.VGroup = refl
rows_found class.HGroup = refl
rows_found class.Application = refl
rows_found class.Panel = refl
rows_found class.Label = refl
rows_found class.Button = refl
rows_found class.ToggleButton = refl
rows_found class.CheckBox = refl
rows_found class.TextInput = refl
rows_found class.State = refl
rows_found class.Event = refl
rows_found class.MouseEvent = refl
rows_found class.FlexEvent = refl

pub names_distinct : (c : NativeClass) → are_distinct (names_of (properties c)) ≡ true
names_distinct class.EventDispatcher = refl
names_distinct class.UIComponent = refl
names_distinct class.SkinnableContainer = refl
names_distinct class.Group = refl
names_distinct class.VGroup = refl
names_distinct class.HGroup = refl
names_distinct class.Application = refl
names_distinct class.Panel = refl
names_distinct class.Label = refl
names_distinct class.Button = refl
names_distinct class.ToggleButton = refl
names_distinct class.CheckBox = refl
names_distinct class.TextInput = refl
names_distinct class.State = refl
names_distinct class.Event = refl
names_distinct class.MouseEvent = refl
names_distinct class.FlexEvent = refl

abbrev pub kept_rows : List Property → List Field
kept_rows ps = map native_field (filter (λ (p : Property). not (is_computed p.name)) ps)

module _ (c : NativeClass) where
  pub all_named : (ps : List Property) (fields : List Field) → RowsFound c ps → fold (with_named c) fields (names_of ps) ≡ fields ++ kept_rows ps
  all_named [] fields found = sym (append-nil fields)
  all_named (p ∷ ps) fields found =
      let row : property_of c p.name ≡ Some p.row = ap (λ l. get_or l 0 None) found in
      let others : RowsFound c ps = ap (drop 1) found in
      ap (λ r. fold (with_named c) (cond (is_computed p.name) fields (with_row fields p.name r)) (names_of ps)) row
      ∙ by (is_computed p.name) (all_named ps fields others) (all_named ps (fields ++ native_field p ∷ []) others)
    where
      by : (b : Bool)
          → fold (with_named c) fields (names_of ps) ≡ fields ++ kept_rows ps
          → fold (with_named c) (fields ++ native_field p ∷ []) (names_of ps) ≡ (fields ++ native_field p ∷ []) ++ kept_rows ps
          → fold (with_named c) (cond b fields (fields ++ native_field p ∷ [])) (names_of ps) ≡ fields ++ map native_field (cond (not b) (p ∷ filter (λ (q : Property). not (is_computed q.name)) ps) (filter (λ (q : Property). not (is_computed q.name)) ps))
      by true same more = same
      by false same more = more ∙ append_assoc fields (native_field p ∷ []) (kept_rows ps)

  -- each can be added when its turn comes
  abbrev pub Ready : List Field → List (List ℕ) → Type 0
  Ready fields [] = Unit {0}
  Ready fields (name ∷ names) = (is_free fields name ≡ true) × Ready (with_named c fields name) names

free_push : (fields : List Field) (g : Field) (key : List ℕ) → is_free fields key ≡ true → bytes_eq g.name key ≡ false → is_free (fields ++ g ∷ []) key ≡ true
free_push [] g key free other = ap (λ b. is_none (cond b (Some g) None)) other
free_push (f ∷ fields) g key free other = by (free_push fields g key) (bytes_eq f.name key) free
  where
    by : (is_free fields key ≡ true → bytes_eq g.name key ≡ false → is_free (fields ++ g ∷ []) key ≡ true)
        → (b : Bool) → is_none (cond b (Some f) (field_named key fields)) ≡ true → is_none (cond b (Some f) (field_named key (fields ++ g ∷ []))) ≡ true
    by rest true e = absurd (cc)
    by rest false e = rest e other

abbrev pub all_free : List Field → List Property → Bool
all_free fields ps = list_all (λ (p : Property). is_free fields p.name) ps

all_free_push : (g : Field) (ps : List Property) (fields : List Field)
    → all_free fields ps ≡ true → list_any (bytes_eq g.name) (names_of ps) ≡ false → all_free (fields ++ g ∷ []) ps ≡ true
all_free_push g [] fields free other = refl
all_free_push g (p ∷ ps) fields free other =
    let now = both (is_free fields p.name) (all_free fields ps) free in
    let apart = neither (bytes_eq g.name p.name) (list_any (bytes_eq g.name) (names_of ps)) other in
    ap (λ b. b && all_free (fields ++ g ∷ []) ps) (free_push fields g p.name now.0 apart.0) ∙ all_free_push g ps fields now.1 apart.1

module _ (c : NativeClass) where
  pub ready : (ps : List Property) (fields : List Field) → RowsFound c ps → all_free fields ps ≡ true → are_distinct (names_of ps) ≡ true → Ready c fields (names_of ps)
  ready [] fields found free apart = tt
  ready (p ∷ ps) fields found free apart =
      let row : property_of c p.name ≡ Some p.row = ap (λ l. get_or l 0 None) found in
      let now = both (is_free fields p.name) (all_free fields ps) free in
      let alone = both (not (list_any (bytes_eq p.name) (names_of ps))) (are_distinct (names_of ps)) apart in
      let others = denied (list_any (bytes_eq p.name) (names_of ps)) alone.0 in (
        now.0,
        ready ps (with_named c fields p.name) (ap (drop 1) found)
            (ap (λ r. all_free (cond (is_computed p.name) fields (with_row fields p.name r)) ps) row ∙ by (is_computed p.name) now.1 (all_free_push (native_field p) ps fields now.1 others)) alone.1,
      )
    where
      by : (b : Bool) → all_free fields ps ≡ true → all_free (fields ++ native_field p ∷ []) ps ≡ true → all_free (cond b fields (fields ++ native_field p ∷ [])) ps ≡ true
      by true same more = same
      by false same more = more

  pub start_ready : (fields : List Field) → has_room_for c fields ≡ true → Ready c fields (names_of (properties c))
  start_ready fields room = ready (properties c) fields (rows_found c) room (names_distinct c)

  pub start_named : (fields : List Field) → fold (with_named c) fields (names_of (properties c)) ≡ fields ++ native_fields c
  start_named fields = all_named c (properties c) fields (rows_found c)

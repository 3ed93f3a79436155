-- What is gathered of traits is what their keys, members and fields are.
use Rattle.std.proofs.Common.{◌≡◌, ℕ, suc, Bool, true, false, List, [], ◌∷◌, ◌++◌, map, refl, sym, ap, ◌∙◌, subst}
use Rattle.std.specs.List.{filter, flat_map, fold}
use Rattle.std.specs.Prelude.{cond, if◌then◌else◌, not, ◌&&◌}
use Rattle.std.proofs.lemmas.List.{append_assoc, append-nil}
use Rattle.abc_format.specs.declared.records.Trait.{Trait}
use Rattle.avm2_program.specs.Naming.{Naming}
use Rattle.std.specs.Prelude.{Option}
use Rattle.flex_world.specs.Classes.{lineage_in}
use Rattle.flex_world.specs.declared.kind.Class.TheVariants as Class
use Rattle.flex_world.specs.declared.kind.StaticType.{StaticType}
use Rattle.avm2_program.specs.Resolving.{behind_class, class_bases, names_behind, native_behind, own_traits, traits_of, type_bases}
use Rattle.avm2_program.specs.Traits.{KeyedTrait, PlacedTrait, fields_of, hidden_of, is_hidden, is_slot, key_of, keyed, member_of, slot_field, slot_fields, slot_text, with_keys}
use Rattle.avm2_resolver.specs.Gathering.{gathered_of, none_gathered, with_other, with_slot, with_trait}
use Rattle.avm2_resolver.specs.declared.objects.ObjectTraits.{ObjectTraits}

both : (a b c d : Bool) → a ≡ c → b ≡ d → (a && b) ≡ (c && d)
both a b c d e f = ap (λ x. x && b) e ∙ ap (λ y. c && y) f

module _ (g : Naming) where
  module _ (wanted : Trait → Bool) (k : KeyedTrait) (rest : List KeyedTrait) where
    counted : (is_slot k.placed.trait.kind && wanted k.placed.trait) ≡ true → slot_fields g wanted (k ∷ rest) ≡ slot_field g k.key k.placed.trait ∷ slot_fields g wanted rest
    counted e = ap (λ b. map (λ (t : KeyedTrait). slot_field g t.key t.placed.trait) (cond b (k ∷ filter (λ t. is_slot t.placed.trait.kind && wanted t.placed.trait) rest) (filter (λ t. is_slot t.placed.trait.kind && wanted t.placed.trait) rest))) e

    left_out : (is_slot k.placed.trait.kind && wanted k.placed.trait) ≡ false → slot_fields g wanted (k ∷ rest) ≡ slot_fields g wanted rest
    left_out e = ap (λ b. map (λ (t : KeyedTrait). slot_field g t.key t.placed.trait) (cond b (k ∷ filter (λ t. is_slot t.placed.trait.kind && wanted t.placed.trait) rest) (filter (λ t. is_slot t.placed.trait.kind && wanted t.placed.trait) rest))) e

  pub record Told (o : ObjectTraits) (traits : List KeyedTrait) (r : ObjectTraits) : Type 0 where
    pub members : r.members ≡ o.members ++ map (member_of g) traits
    pub fields : r.fields ≡ o.fields ++ fields_of g traits
    pub hidden : r.hidden ≡ o.hidden ++ hidden_of g traits

  -- one more is put behind those before
  pushed : {A : Type 0} (before now all : List A) (x : A) (rest : List A) → now ≡ before ++ x ∷ [] → all ≡ now ++ rest → all ≡ before ++ x ∷ rest
  pushed before now all x rest e f = f ∙ (ap (λ z. z ++ rest) e ∙ append_assoc before (x ∷ []) rest)

  kept : {A : Type 0} (before now all rest : List A) → now ≡ before → all ≡ now ++ rest → all ≡ before ++ rest
  kept before now all rest e f = f ∙ ap (λ z. z ++ rest) e

  module _ (o : ObjectTraits) (t : PlacedTrait) where
    as_slot : (rest : List KeyedTrait) (r : ObjectTraits) → is_slot t.trait.kind ≡ true → (h : Bool) → is_hidden g t.trait ≡ h → Told (with_slot g o t) rest r
        → Told o (keyed g t (key_of o.taken o.slot_count (slot_text g t)) ∷ rest) r
    as_slot rest r s true h told = record {
      members = pushed o.members _ r.members _ _ refl told.members;
      fields =
          kept o.fields _ r.fields _ (ap (λ b. if b then o.fields else o.fields ++ slot_field g (key_of o.taken o.slot_count (slot_text g t)) t.trait ∷ []) h) told.fields
          ∙ ap (λ z. o.fields ++ z) (sym (left_out (λ t. not (is_hidden g t)) _ rest (both _ _ true false s (ap not h))));
      hidden =
          pushed o.hidden _ r.hidden _ _ (ap (λ b. if b then o.hidden ++ slot_field g (key_of o.taken o.slot_count (slot_text g t)) t.trait ∷ [] else o.hidden) h) told.hidden
          ∙ ap (λ z. o.hidden ++ z) (sym (counted (is_hidden g) (keyed g t (key_of o.taken o.slot_count (slot_text g t))) rest (both _ _ true true s h)));
    }
    as_slot rest r s false h told = record {
      members = pushed o.members _ r.members _ _ refl told.members;
      fields =
          pushed o.fields _ r.fields _ _ (ap (λ b. if b then o.fields else o.fields ++ slot_field g (key_of o.taken o.slot_count (slot_text g t)) t.trait ∷ []) h) told.fields
          ∙ ap (λ z. o.fields ++ z) (sym (counted (λ t. not (is_hidden g t)) (keyed g t (key_of o.taken o.slot_count (slot_text g t))) rest (both _ _ true true s (ap not h))));
      hidden =
          kept o.hidden _ r.hidden _ (ap (λ b. if b then o.hidden ++ slot_field g (key_of o.taken o.slot_count (slot_text g t)) t.trait ∷ [] else o.hidden) h) told.hidden
          ∙ ap (λ z. o.hidden ++ z) (sym (left_out (is_hidden g) (keyed g t (key_of o.taken o.slot_count (slot_text g t))) rest (both _ _ true false s h)));
    }

    as_other : (rest : List KeyedTrait) (r : ObjectTraits) → is_slot t.trait.kind ≡ false → Told (with_other g o t) rest r → Told o (keyed g t [] ∷ rest) r
    as_other rest r s told = record {
      members = pushed o.members _ r.members _ _ refl told.members;
      fields = told.fields ∙ ap (λ z. o.fields ++ z) (sym (left_out (λ t. not (is_hidden g t)) (keyed g t []) rest (ap (λ b. b && not (is_hidden g t.trait)) s)));
      hidden = told.hidden ∙ ap (λ z. o.hidden ++ z) (sym (left_out (is_hidden g) (keyed g t []) rest (ap (λ b. b && is_hidden g t.trait) s)));
    }

  pub told : (traits : List PlacedTrait) (o : ObjectTraits) → Told o (with_keys g o.taken o.slot_count traits) (fold (with_trait g) o traits)
  told [] o = record { members = sym (append-nil o.members); fields = sym (append-nil o.fields); hidden = sym (append-nil o.hidden) }
  told (t ∷ traits) o = by (is_slot t.trait.kind) refl (told traits (with_slot g o t)) (told traits (with_other g o t))
    where
      state : Bool → ObjectTraits
      state s = if s then with_slot g o t else with_other g o t

      keys : Bool → List KeyedTrait
      keys s =
          keyed g t (if s then key_of o.taken o.slot_count (slot_text g t) else [])
          ∷ with_keys g (if s then o.taken ++ slot_text g t ∷ [] else o.taken) (if s then suc o.slot_count else o.slot_count) traits

      by : (s : Bool) → is_slot t.trait.kind ≡ s → Told (with_slot g o t) (with_keys g (o.taken ++ slot_text g t ∷ []) (suc o.slot_count) traits) (fold (with_trait g) (with_slot g o t) traits)
          → Told (with_other g o t) (with_keys g o.taken o.slot_count traits) (fold (with_trait g) (with_other g o t) traits) → Told o (with_keys g o.taken o.slot_count (t ∷ traits)) (fold (with_trait g) o (t ∷ traits))
      by true e slot other = subst (λ s. Told o (keys s) (fold (with_trait g) (state s) traits)) (sym e) (as_slot o t _ _ e (is_hidden g t.trait) refl slot)
      by false e slot other = subst (λ s. Told o (keys s) (fold (with_trait g) (state s) traits)) (sym e) (as_other o t _ _ e other)

  module _ (types : List (Option StaticType)) (k : ℕ) (e : types ≡ type_bases g) where
    pub members_are : (gathered_of g types k).members ≡ map (member_of g) (traits_of g k)
    members_are = subst (λ ts. (gathered_of g ts k).members ≡ map (member_of g) (traits_of g k)) (sym e) (told (flat_map (own_traits g) (lineage_in (class_bases (type_bases g)) (Class.File k))) (none_gathered (names_behind (native_behind (behind_class (type_bases g) k))))).members

    pub fields_are : (gathered_of g types k).fields ≡ fields_of g (traits_of g k)
    fields_are = subst (λ ts. (gathered_of g ts k).fields ≡ fields_of g (traits_of g k)) (sym e) (told (flat_map (own_traits g) (lineage_in (class_bases (type_bases g)) (Class.File k))) (none_gathered (names_behind (native_behind (behind_class (type_bases g) k))))).fields

    pub hidden_are : (gathered_of g types k).hidden ≡ hidden_of g (traits_of g k)
    hidden_are = subst (λ ts. (gathered_of g ts k).hidden ≡ hidden_of g (traits_of g k)) (sym e) (told (flat_map (own_traits g) (lineage_in (class_bases (type_bases g)) (Class.File k))) (none_gathered (names_behind (native_behind (behind_class (type_bases g) k))))).hidden

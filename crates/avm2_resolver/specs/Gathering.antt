-- What is gathered of the traits of an object, one after another.
use Rattle.std.specs.Prelude.{List, [], if◌then◌else◌, suc, ℕ, ◌++◌, ◌∷◌}
use Rattle.std.specs.List.{flat_map, fold}
use Rattle.std.specs.Prelude.{Option}
use Rattle.flex_world.specs.Classes.{lineage_in}
use Rattle.flex_world.specs.declared.kind.Class.TheVariants as Class
use Rattle.flex_world.specs.declared.kind.StaticType.{StaticType}
use Rattle.avm2_program.specs.Resolving.{behind_class, class_bases, names_behind, native_behind, own_traits}
use Rattle.avm2_program.specs.Naming.{Naming}
use Rattle.avm2_program.specs.Traits.{PlacedTrait, is_hidden, is_slot, key_of, keyed, member_of, slot_field, slot_text}
use Rattle.avm2_resolver.specs.declared.objects.ObjectTraits.{ObjectTraits}

-- nothing yet, where these texts are taken
abbrev pub none_gathered : List (List ℕ) → ObjectTraits
none_gathered taken = record { taken = taken; slot_count = 0; members = []; fields = []; hidden = [] }

module _ (g : Naming) where
  -- with a slot more as a member and a field, under a key
  abbrev pub with_slot_at : ObjectTraits → PlacedTrait → List ℕ → ObjectTraits
  with_slot_at o t key = record {
    taken = o.taken;
    slot_count = o.slot_count;
    members = o.members ++ member_of g (keyed g t key) ∷ [];
    fields = if is_hidden g t.trait then o.fields else o.fields ++ slot_field g key t.trait ∷ [];
    hidden = if is_hidden g t.trait then o.hidden ++ slot_field g key t.trait ∷ [] else o.hidden;
  }

  -- with a slot more, whose text is taken from then on
  abbrev pub with_slot : ObjectTraits → PlacedTrait → ObjectTraits
  with_slot o t =
      record (with_slot_at o t (key_of o.taken o.slot_count (slot_text g t))) { taken = o.taken ++ slot_text g t ∷ []; slot_count = suc o.slot_count }

  -- with another trait more
  abbrev pub with_other : ObjectTraits → PlacedTrait → ObjectTraits
  with_other o t = record {
    taken = o.taken;
    slot_count = o.slot_count;
    members = o.members ++ member_of g (keyed g t []) ∷ [];
    fields = o.fields;
    hidden = o.hidden;
  }

  abbrev pub with_trait : ObjectTraits → PlacedTrait → ObjectTraits
  with_trait o t = if is_slot t.trait.kind then with_slot o t else with_other o t

  -- what is gathered for the objects of a class, where the bases of the classes have these types
  abbrev pub gathered_of : List (Option StaticType) → ℕ → ObjectTraits
  gathered_of types k =
      fold with_trait (none_gathered (names_behind (native_behind (behind_class types k)))) (flat_map (own_traits g) (lineage_in (class_bases types) (Class.File k)))

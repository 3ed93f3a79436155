-- The traits of the classes and scripts of a file: what they are as members, and the keys of slots.
use Rattle.std.specs.List.{filter, list_any}
use Rattle.std.specs.Prelude.{Bool, List, None, Option, Some, [], codes, decimal, false, if◌then◌else◌, map, not, option_map, slice_get, suc, true, unwrap_or, ℕ, ◌&&◌, ◌++◌, ◌==◌, ◌||◌, ◌∷◌}
use Rattle.std.specs.Str.{bytes_eq}
use Rattle.abc_format.specs.declared.records.ItemInfo.{ItemInfo}
use Rattle.abc_format.specs.declared.records.MetadataInfo.{MetadataInfo}
use Rattle.abc_format.specs.declared.records.Trait.{Trait}
use Rattle.abc_format.specs.declared.records.TraitKind.{TraitKind}
use Rattle.abc_format.specs.declared.records.TraitKind.TheVariants as trait_kind
use Rattle.flex_base.specs.declared.value.Value.{Value}
use Rattle.flex_base.specs.declared.value.Value.TheVariants as value
use Rattle.flex_world.specs.declared.kind.StaticType.{StaticType}
use Rattle.flex_world.specs.Making.{start_of_type}
use Rattle.flex_world.specs.Objects.{Field}
use Rattle.avm2_program.specs.Names.{lies_in_space, public_space, runtime_space}
use Rattle.avm2_program.specs.Naming.{Naming, own_name_at, string_at, text_at, type_at}
use Rattle.avm2_program.specs.declared.member.Member.{Member}
use Rattle.avm2_program.specs.declared.member.NamedMember.{NamedMember}
use Rattle.avm2_program.specs.declared.member.TraitPlace.{TraitPlace}
use Rattle.avm2_program.specs.declared.names.Space.{Space}

abbrev pub is_slot : TraitKind → Bool
is_slot (trait_kind.Slot slot type vindex vkind) = true
is_slot (trait_kind.Const slot type vindex vkind) = true
is_slot _ = false

-- the number of its type; 0 is no type
abbrev pub type_number : TraitKind → ℕ
type_number (trait_kind.Slot slot type vindex vkind) = type
type_number (trait_kind.Const slot type vindex vkind) = type
type_number _ = 0

-- what isn't played: getters, setters, functions and slots with starting values
abbrev pub is_unplayed : TraitKind → Bool
is_unplayed (trait_kind.Slot slot type vindex vkind) = not (vindex == 0)
is_unplayed (trait_kind.Const slot type vindex vkind) = not (vindex == 0)
is_unplayed (trait_kind.Method dispatch method) = false
is_unplayed (trait_kind.Class slot class) = false
is_unplayed _ = true

-- the method that a trait names
abbrev pub method_in : TraitKind → Option ℕ
method_in (trait_kind.Method dispatch method) = Some method
method_in (trait_kind.Getter dispatch method) = Some method
method_in (trait_kind.Setter dispatch method) = Some method
method_in (trait_kind.Function slot method) = Some method
method_in _ = None

-- a trait, and where it stands
pub record PlacedTrait : Type 0 where
  pub place : TraitPlace
  pub trait : Trait

abbrev pub placed_from : ℕ → ℕ → List Trait → List PlacedTrait
placed_from holder n [] = []
placed_from holder n (t ∷ traits) = record { place = record { holder = holder; number = n }; trait = t } ∷ placed_from holder (suc n) traits

-- the traits of a class or a script, with their places
abbrev pub placed : ℕ → List Trait → List PlacedTrait
placed holder traits = placed_from holder 0 traits

-- a trait of an object, and its key where it is a slot
pub record KeyedTrait : Type 0 where
  pub placed : PlacedTrait
  pub key : List ℕ

abbrev pub has_text : List ℕ → List (List ℕ) → Bool
has_text text texts = list_any (λ other. bytes_eq other text) texts

abbrev pub has_dot : List ℕ → Bool
has_dot text = list_any (λ b. b == 46) text

-- the key of a slot is its text, where that has no dot and isn't taken, or else a dot and its number
abbrev pub key_of : List (List ℕ) → ℕ → List ℕ → List ℕ
key_of taken n text = if has_dot text || has_text text taken then 46 ∷ decimal n else text

-- what a trait is that is played, where a slot is this
abbrev pub played : Member → TraitPlace → TraitKind → Member
played slot place (trait_kind.Method dispatch m) = Member.Written m
played slot place (trait_kind.Class number c) = Member.ClassTrait place c
played slot place _ = slot

module _ (g : Naming) where
  abbrev pub slot_text : PlacedTrait → List ℕ
  slot_text t = text_at g.abc t.trait.name

  abbrev pub keyed : PlacedTrait → List ℕ → KeyedTrait
  keyed t key = record { placed = t; key = key }

  -- with the keys of slots, the first of which has this number, where these texts are taken
  abbrev pub with_keys : List (List ℕ) → ℕ → List PlacedTrait → List KeyedTrait
  with_keys taken n [] = []
  with_keys taken n (t ∷ traits) =
      keyed t (if is_slot t.trait.kind then key_of taken n (slot_text t) else [])
      ∷ with_keys (if is_slot t.trait.kind then taken ++ slot_text t ∷ [] else taken) (if is_slot t.trait.kind then suc n else n) traits

  abbrev pub has_no_items : List ItemInfo → Bool
  has_no_items [] = true
  has_no_items _ = false

  abbrev pub is_bindable_mark : MetadataInfo → Bool
  is_bindable_mark m = bytes_eq (string_at g.abc m.name) (codes "Bindable") && has_no_items m.items

  -- its metadata have `Bindable` without items
  abbrev pub is_bindable : Trait → Bool
  is_bindable t = list_any (λ n. unwrap_or (option_map is_bindable_mark (slice_get g.abc.metadata n)) false) t.metadata

  abbrev pub slot_type : Trait → StaticType
  slot_type t = type_at g (type_number t.kind)

  abbrev pub lies_in : Space → Trait → Bool
  lies_in space t = lies_in_space space (own_name_at g.abc t.name)

  -- a slot as an object has it at first
  abbrev pub slot_field : List ℕ → Trait → Field
  slot_field key t = record {
    name = key;
    text = text_at g.abc t.name;
    type = slot_type t;
    public = lies_in public_space t;
    bindable = is_bindable t;
    read_only = false;
    is_slot = true;
    value = start_of_type (slot_type t);
  }

  abbrev pub is_hidden : Trait → Bool
  is_hidden t = lies_in runtime_space t

  abbrev pub slot_fields : (Trait → Bool) → List KeyedTrait → List Field
  slot_fields wanted traits = map (λ t. slot_field t.key t.placed.trait) (filter (λ t. is_slot t.placed.trait.kind && wanted t.placed.trait) traits)

  -- the slots among traits
  abbrev pub fields_of : List KeyedTrait → List Field
  fields_of = slot_fields (λ t. not (is_hidden t))

  -- the hidden ones, which cost no cells and make no records
  abbrev pub hidden_of : List KeyedTrait → List Field
  hidden_of = slot_fields is_hidden

  abbrev pub named_member : Member → PlacedTrait → NamedMember
  named_member slot t = record {
    name = own_name_at g.abc t.trait.name;
    member = if is_unplayed t.trait.kind then Member.Unplayed else played slot t.place t.trait.kind;
  }

  -- a trait of an object
  abbrev pub member_of : KeyedTrait → NamedMember
  member_of t = named_member (if is_hidden t.placed.trait then Member.HiddenSlot t.key else Member.Slot t.key) t.placed

  -- a trait of a class value or a script value
  abbrev pub own_member_of : PlacedTrait → NamedMember
  own_member_of t = named_member (Member.OwnSlot t.place.number (slot_type t.trait)) t

  abbrev pub own_slot : Trait → Value
  own_slot t = if is_slot t.kind then start_of_type (slot_type t) else value.Null

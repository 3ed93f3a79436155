-- An event by its name and its class.
use Rattle.std.proofs.Common.{◌≡◌, ◌∙◌, List, ◌++◌, ap, refl, sym, Bool, true, false, ◌&&◌, not, codes, bytes_eq, length}
use Rattle.std.specs.Prelude.{Option, Some, None, option_map, if◌then◌else◌, ◌==◌}
use Rattle.std.specs.List.{cons_option, list_all}
use Rattle.std.specs.Option.{option_to_list}
use Rattle.as3_parser.specs.declared.tree.MetadataTag as t
use Rattle.flex_world.specs.Classes.{is_event}
use Rattle.flex_world.specs.declared.kind.Class.{Class}
use Rattle.source_sites.specs.declared.names.NamedClass.{NamedClass}
use Rattle.source_sites.specs.Members.{Event, event_at, event_of_class, metadata_value}
use Rattle.source_sites.specs.Names.{class_at, class_of}
use Rattle.source_sites.specs.Texts.{Text, split}
use Rattle.source_sites.specs.Trees.{tag_of}
use Rattle.as3_types.specs.declared.table.ClassTable.{ClassTable}
use Rattle.as3_types.specs.Identifiers.{is_identifier}
use Rattle.class_table.specs.Columns.{event_declared}

pub in_front : {A : Type 0} (o : Option A) (xs : List A) → option_to_list o ++ xs ≡ cons_option o xs
in_front None xs = refl
in_front (Some x) xs = refl

abbrev class_in : Option Event → Option Class
class_in o = option_map (λ (e : Event). e.«class») o

-- an event of this name, and of the class
abbrev named : Text → Option Class → Option Event
named name o = option_map (λ class. record { name = name; class = class }) o

module _ (table : ClassTable) (here : NamedClass) where
  if_event : (name : Text) (class : Class) (b : Bool) → (if b then Some (record { name = name; class = class }) else None) ≡ named name (class_in (if b then Some (record { name = name; class = class }) else None))
  if_event name class true = refl
  if_event name class false = refl

  of_class : (name : Text) (o : Option Class) → event_of_class table.classes table.bases is_identifier name o ≡ named name (class_in (event_of_class table.classes table.bases is_identifier name o))
  of_class name None = refl
  of_class name (Some class) = if_event name class (is_event table.bases class)

  only_if : (name : Text) (e : Option Event) (b : Bool) → e ≡ named name (class_in e) → (if b then e else None) ≡ named name (class_in (if b then e else None))
  only_if name e true is = is
  only_if name e false is = refl

  by_name : (tag : t.MetadataTag) → event_declared table here tag ≡ named (metadata_value (codes "name") (tag_of tag)) (class_in (event_declared table here tag))
  by_name tag =
      let m = tag_of tag in
      let name = metadata_value (codes "name") m in
      let path = split 46 (metadata_value (codes "type") m) in
      only_if name (event_at table.classes table.bases is_identifier here name path) (bytes_eq m.name (codes "Event") && not (length name == 0))
      (only_if name (event_of_class table.classes table.bases is_identifier name (class_of (class_at table.classes here path))) (list_all is_identifier path) (of_class name (class_of (class_at table.classes here path))))

  -- there is one of this class, or none
  pub with_class : (tag : t.MetadataTag) (name : Text) (class : Class) → Some class ≡ class_in (event_declared table here tag) → name ≡ metadata_value (codes "name") (tag_of tag)
      → Some (record { name = name; class = class }) ≡ event_declared table here tag
  with_class tag name class e is =
      ap (λ n. Some (record { name = n; class = class })) is ∙ (ap (named (metadata_value (codes "name") (tag_of tag))) e ∙ sym (by_name tag))

  pub without_class : (tag : t.MetadataTag) → None ≡ class_in (event_declared table here tag) → None ≡ event_declared table here tag
  without_class tag e = ap (named (metadata_value (codes "name") (tag_of tag))) e ∙ sym (by_name tag)

-- The class table: what the source classes declare.
use Rattle.std.specs.Prelude.{ℕ, List, [], ◌∷◌, ◌++◌, length, map, Bool, true, false, not, ◌&&◌, ◌||◌, if◌then◌else◌, ◌==◌, Option, Some, None, option_map, option_and_then, slice_get, unwrap_or, bytes_eq, codes}
use Rattle.std.specs.List.{list_all, find, filter, filter_map, flat_map}
use Rattle.mxml_tree.specs.declared.tree.Attribute.{Attribute}
use Rattle.mxml_tree.specs.declared.tree.Element.{Element}
use Rattle.as3_parser.specs.declared.tree.MetadataArgument.{MetadataArgument}
use Rattle.as3_parser.specs.declared.tree.Modifier.{Modifier}
use Rattle.as3_parser.specs.declared.tree.Modifier.TheVariants as modifier
use Rattle.component_catalog.specs.declared.class.TagPlace.{TagPlace}
use Rattle.component_catalog.specs.declared.class.TagPlace.TheVariants.{Nowhere, Anywhere}
use Rattle.component_catalog.specs.Classes.{tag_place}
use Rattle.flex_world.specs.Classes.{is_event}
use Rattle.flex_world.specs.declared.kind.Class.{Class}
use Rattle.flex_world.specs.declared.kind.Class.TheVariants as Class
use Rattle.source_sites.specs.Texts.{Text, split}
use Rattle.source_sites.specs.Syntax.{TypedName, ResultType, Function, Declares, MetadataTag, Member}
use Rattle.source_sites.specs.Literals.{quoted_text}
use Rattle.source_sites.specs.Types.{ValueType, Signature}
use Rattle.source_sites.specs.Sources.{Reading, Content, SourceFile, Readers, SourceFiles, Holder}
use Rattle.source_sites.specs.Scripts.{elements_in, scripts_in, metadata_in, code_text, language_space}
use Rattle.source_sites.specs.declared.names.NamedClass.{NamedClass}
use Rattle.source_sites.specs.Names.{class_of, named_classes, script_items, class_at, class_of_tag, path_names}
use Rattle.source_sites.specs.Bases.{base_meanings}
use Rattle.source_sites.specs.Functions.{is_constructor, constructor_in, member_in, access_of, same_modifier, is_bindable}

pub record Property : Type 0 where
  pub name : Text
  pub type : ValueType
  pub read_only : Bool
  pub bindable : Bool
  -- of the catalog
  pub native : Bool

pub record Method : Type 0 where
  pub name : Text
  pub signature : Signature
  pub native : Bool

pub data Kind : Type 0 where
  A_property : (property : Property) → Kind
  A_method : (method : Method) → Kind

-- a member that a class declares itself
pub record Owned : Type 0 where
  pub name : Text
  pub access : Modifier
  pub kind : Kind

-- a member with the class that declares it
pub record Found : Type 0 where
  pub owner : Class
  pub member : Owned

-- an event that objects of a class send, and the class of the event
pub record Event : Type 0 where
  pub name : Text
  pub class : Class

-- each list has an element for each source class, at its number
pub record Table : Type 0 where
  pub names : List NamedClass
  pub bases : List (Option Class)
  -- what a written constructor takes
  pub constructors : List (Option Signature)
  -- its own
  pub members : List (List Owned)
  -- its own
  pub events : List (List Event)

abbrev pub nth_list : {A : Type 0} → List (List A) → ℕ → List A
nth_list xss k = unwrap_or (slice_get xss k) []

-- the types that stand for themselves
abbrev pub built_in : Text → Option ValueType
built_in name =
    if bytes_eq name (codes "int") then Some ValueType.Int
    else if bytes_eq name (codes "Boolean") then Some ValueType.Boolean
    else if bytes_eq name (codes "String") then Some ValueType.String
    else if bytes_eq name (codes "Array") then Some ValueType.Array
    else None

abbrev pub type_of_class : Option Class → ValueType
type_of_class None = ValueType.Unknown
type_of_class (Some class) = ValueType.Object class

module _ (names : List NamedClass) where
  -- the type that names joined by dots stand for in the code of a class; Unknown where there is none
  abbrev pub type_at : NamedClass → List Text → ValueType
  type_at here [] = ValueType.Unknown
  type_at here (name ∷ []) = unwrap_or (built_in name) (type_of_class (class_of (class_at names here (name ∷ []))))
  type_at here (name ∷ other ∷ path) = type_of_class (class_of (class_at names here (name ∷ other ∷ path)))

  -- a constructor gives nothing, and a function without a result type, which is another site's fault, no known type
  abbrev pub result_type : NamedClass → Function → ResultType → ValueType
  result_type here f ResultType.No_result = if is_constructor here f then ValueType.Void else ValueType.Unknown
  result_type here f ResultType.Void_result = ValueType.Void
  result_type here f (ResultType.Gives path) = type_at here (path_names path)

  abbrev pub signature_of : NamedClass → Function → Signature
  signature_of here f =
      record {
        parameters = map (λ (p : TypedName). type_at here (path_names p.type_name)) f.parameters;
        optional = 0;
        result = result_type here f f.result;
      }

abbrev pub metadata_read : Reading (List MetadataTag) → List MetadataTag
metadata_read (Reading.Reads tags) = tags
metadata_read (Reading.Faults at code) = []

module _ (readers : Readers) where
  -- the members that the code of a file writes, in text order
  abbrev pub written_members : Content → List Member
  written_members (Content.Unread at code) = []
  written_members (Content.Document root) = flat_map member_in (flat_map (script_items readers) (scripts_in root.nodes))
  written_members (Content.Class_file file) = file.members

  abbrev pub metadata_tags : Holder → List MetadataTag
  metadata_tags h = metadata_read (readers.metadata (code_text h.nodes))

  -- the metadata of the class
  abbrev pub class_metadata : Content → List MetadataTag
  class_metadata (Content.Unread at code) = []
  class_metadata (Content.Document root) = flat_map metadata_tags (metadata_in root.nodes)
  class_metadata (Content.Class_file file) = file.metadata

module _ (names : List NamedClass) (here : NamedClass) where
  -- `[Bindable]` before a variable makes it bindable, and before a class its public variables
  abbrev pub owned_variable : Bool → Member → TypedName → Owned
  owned_variable whole m v =
      record {
        name = v.name.text;
        access = access_of m.modifiers;
        kind =
            A_property
            (record {
              name = v.name.text;
              type = type_at names here (path_names v.type_name);
              read_only = false;
              bindable = is_bindable m.metadata || whole && same_modifier (access_of m.modifiers) modifier.Public;
              native = false;
            });
      }

  -- the constructor is no member that others find
  abbrev pub owned_function : Member → Function → List Owned
  owned_function m f =
      if is_constructor here f then []
      else record { name = f.name.text; access = access_of m.modifiers; kind = A_method (record { name = f.name.text; signature = signature_of names here f; native = false }) } ∷ []

  abbrev pub owned_declared : Bool → Member → Declares → List Owned
  owned_declared whole m (Declares.Variables variables) = map (owned_variable whole m) variables
  owned_declared whole m (Declares.Method f) = owned_function m f

  abbrev pub owned_members : Bool → List Member → List Owned
  owned_members whole members = flat_map (λ (m : Member). owned_declared whole m m.declares) members

-- where a class has its tag: a source class has one where its constructor takes nothing
abbrev pub tag_without : Option Signature → TagPlace
tag_without None = Anywhere
tag_without (Some s) = if length s.parameters == 0 then Anywhere else Nowhere

abbrev pub tags_of : List (Option Signature) → Class → TagPlace
tags_of constructors (Class.Native class) = tag_place class
tags_of constructors (Class.File k) = tag_without (option_and_then (λ c. c) (slice_get constructors k))

abbrev pub has_tag : TagPlace → Bool
has_tag Anywhere = true
has_tag _ = false

abbrev pub is_id : Attribute → Bool
is_id a = bytes_eq a.space [] && bytes_eq a.local (codes "id")

module _ (names : List NamedClass) (constructors : List (Option Signature)) where
  abbrev pub tagged_type : Option Class → Option ValueType
  tagged_type None = None
  tagged_type (Some class) = if has_tag (tags_of constructors class) then Some (ValueType.Object class) else None

  -- the type of what an `id` on a tag names, if it makes a member: an instance, or a value of the language
  abbrev pub id_type : Element → Option ValueType
  id_type tag = if bytes_eq tag.space language_space then built_in tag.local else tagged_type (class_of (class_of_tag names tag))

  -- an id is a public bindable property
  abbrev pub owned_id : ValueType → Attribute → Owned
  owned_id type a =
      record {
        name = a.value;
        access = modifier.Public;
        kind = A_property (record { name = a.value; type = type; read_only = false; bindable = true; native = false });
      }

  abbrev pub ids_on : (Text → Bool) → Holder → List Owned
  ids_on is_identifier h =
      unwrap_or (option_map (λ type. map (owned_id type) (filter (λ (a : Attribute). is_id a && is_identifier a.value) h.tag.attributes)) (id_type h.tag)) []

  -- of all elements in the root, wherever they stand
  abbrev pub owned_ids : (Text → Bool) → Content → List Owned
  owned_ids is_identifier (Content.Document root) = flat_map (ids_on is_identifier) (elements_in root.nodes)
  owned_ids is_identifier _ = []

abbrev pub is_keyed : Text → MetadataArgument → Bool
is_keyed key p = unwrap_or (option_map (λ l. bytes_eq key l.text) p.key) false

-- the value of a key in metadata; the first counts, and there is the empty text where none is
abbrev pub metadata_value : Text → MetadataTag → Text
metadata_value key m = unwrap_or (option_map (λ (p : MetadataArgument). quoted_text p.value.text) (find (is_keyed key) m.arguments)) []

module _ (names : List NamedClass) (bases : List (Option Class)) (is_identifier : Text → Bool) where
  abbrev pub event_of_class : Text → Option Class → Option Event
  event_of_class name None = None
  event_of_class name (Some class) = if is_event bases class then Some (record { name = name; class = class }) else None

  abbrev pub event_at : NamedClass → Text → List Text → Option Event
  event_at here name path = if list_all is_identifier path then event_of_class name (class_of (class_at names here path)) else None

  -- what `[Event(name="n", type="c")]` declares: it needs a name, and an event class as type
  abbrev pub declared_event : NamedClass → MetadataTag → Option Event
  declared_event here m =
      if bytes_eq m.name (codes "Event") && not (length (metadata_value (codes "name") m) == 0)
      then event_at here (metadata_value (codes "name") m) (split 46 (metadata_value (codes "type") m))
      else None

-- one entry for each file, from its class and its content
abbrev pub for_each : {A : Type 0} → (NamedClass → Content → A) → List NamedClass → List SourceFile → List A
for_each f (here ∷ others) (file ∷ files) = f here file.content ∷ for_each f others files
for_each f _ _ = []

module _ (s : SourceFiles) where
  abbrev pub constructor_list : List NamedClass → List (Option Signature)
  constructor_list names = for_each (λ here content. option_map (signature_of names here) (constructor_in here (written_members s.readers content))) names s.files

  abbrev pub members_of_file : List NamedClass → List (Option Signature) → NamedClass → Content → List Owned
  members_of_file names constructors here content =
      owned_members names here (is_bindable (class_metadata s.readers content)) (written_members s.readers content)
      ++ owned_ids names constructors s.readers.is_identifier content

  abbrev pub events_of_file : List NamedClass → List (Option Class) → NamedClass → Content → List Event
  events_of_file names bases here content = filter_map (declared_event names bases s.readers.is_identifier here) (class_metadata s.readers content)

  abbrev pub table_from : List NamedClass → List (Option Class) → List (Option Signature) → Table
  table_from names bases constructors =
      record {
        names = names;
        bases = bases;
        constructors = constructors;
        members = for_each (members_of_file names constructors) names s.files;
        events = for_each (events_of_file names bases) names s.files;
      }

  abbrev pub table_of_names : List NamedClass → Table
  table_of_names names = table_from names (map class_of (base_meanings names names s.files)) (constructor_list names)

  abbrev pub table : Table
  table = table_of_names (named_classes s)

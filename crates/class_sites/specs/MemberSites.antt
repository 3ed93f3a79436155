-- Phase 3 in code: imports, metadata, members, and the types that they name.
use Rattle.std.specs.Prelude.{ℕ, suc, List, [], ◌∷◌, ◌++◌, length, map, Bool, true, false, not, ◌&&◌, ◌||◌, if◌then◌else◌, ◌==◌, Option, Some, None, option_map, option_and_then, unwrap_or, bytes_eq, codes}
use Rattle.std.specs.List.{list_any, filter, flat_map}
use Rattle.mxml_tree.specs.Tree.{Node, Elem, Chars, Nodes, NoNode, MoreNode}
use Rattle.mxml_tree.specs.declared.tree.Attribute.{Attribute}
use Rattle.as3_parser.specs.declared.tree.Lexeme.{Lexeme}
use Rattle.as3_parser.specs.declared.tree.Modifier.{Modifier}
use Rattle.as3_parser.specs.declared.tree.Modifier.TheVariants as modifier
use Rattle.flex_world.specs.Classes.{same_class, base_in}
use Rattle.flex_world.specs.declared.kind.Class.TheVariants as Class
use Rattle.source_sites.specs.declared.code.Code.TheVariants as code
use Rattle.source_sites.specs.Texts.{Text, among, is_there, without_last}
use Rattle.source_sites.specs.declared.names.Import.{Import}
use Rattle.source_sites.specs.Syntax.{TypedName, ResultType, Function, Declares, MetadataTag, Member, Item, ClassFile}
use Rattle.source_sites.specs.Types.{ValueType, Signature}
use Rattle.source_sites.specs.Sites.{Rule, rule}
use Rattle.source_sites.specs.Sources.{Content, Readers, Holder}
use Rattle.source_sites.specs.Scripts.{holder, is_script}
use Rattle.source_sites.specs.declared.names.NamedClass.{NamedClass}
use Rattle.source_sites.specs.Names.{star, path_names, path_at, script_items}
use Rattle.source_sites.specs.Functions.{is_constructor, member_in, is_access, access_of, same_modifier, overrides}
use Rattle.source_sites.specs.Members.{Kind, Found, Table, A_property, A_method, type_at, signature_of, is_id, id_type, declared_event}
use Rattle.source_sites.specs.LookUps.{member_of}

-- a name that a class declares: where it stands, and the modifiers of a member
pub record DeclaredName : Type 0 where
  -- the place of the element whose code or attribute it stands in; 0 in a class file
  pub holder : ℕ
  -- a byte of the code, or of the file for an attribute
  pub at : ℕ
  pub name : Text
  pub function : Option Function
  pub modifiers : List Modifier

abbrev pub name_of_variable : ℕ → List Modifier → TypedName → DeclaredName
name_of_variable holder modifiers v = record { holder = holder; at = v.name.span.start; name = v.name.text; function = None; modifiers = modifiers }

abbrev pub name_of_function : ℕ → List Modifier → Function → DeclaredName
name_of_function holder modifiers f = record { holder = holder; at = f.name.span.start; name = f.name.text; function = Some f; modifiers = modifiers }

abbrev pub names_declared : ℕ → List Modifier → Declares → List DeclaredName
names_declared holder modifiers (Declares.Variables variables) = map (name_of_variable holder modifiers) variables
names_declared holder modifiers (Declares.Method f) = name_of_function holder modifiers f ∷ []

abbrev pub names_of_members : ℕ → List Member → List DeclaredName
names_of_members holder members = flat_map (λ (m : Member). names_declared holder m.modifiers m.declares) members

abbrev pub name_of_id : Holder → Attribute → DeclaredName
name_of_id h a = record { holder = h.at; at = a.at; name = a.value; function = None; modifiers = modifier.Public ∷ [] }

module _ (readers : Readers) (t : Table) where
  -- the ids that are members
  abbrev pub names_of_ids : Holder → List DeclaredName
  names_of_ids h =
      if is_there (id_type t.names t.constructors h.tag)
      then map (name_of_id h) (filter (λ (a : Attribute). is_id a && readers.is_identifier a.value) h.tag.attributes)
      else []

  abbrev pub names_of_script : Holder → List DeclaredName
  names_of_script h = if is_script h then names_of_members h.at (flat_map member_in (script_items readers h)) else []

  abbrev mutual
    -- in the order of their sites: the attributes of an element, what stands in it, and then its code
    pub names_of_node : Node → List DeclaredName
    names_of_node (Elem at tag nodes) = names_of_ids (holder at tag nodes) ++ names_of_nodes nodes ++ names_of_script (holder at tag nodes)
    names_of_node (Chars at characters) = []

    pub names_of_nodes : Nodes → List DeclaredName
    names_of_nodes NoNode = []
    names_of_nodes (MoreNode node nodes) = names_of_node node ++ names_of_nodes nodes

  -- all names that the class of a file declares; the root's own id is none
  abbrev pub declared_names : Content → List DeclaredName
  declared_names (Content.Unread at code) = []
  declared_names (Content.Document root) = names_of_nodes root.nodes
  declared_names (Content.Class_file file) = names_of_members 0 file.members

abbrev pub stands_at : ℕ → ℕ → DeclaredName → Bool
stands_at holder at n = n.holder == holder && n.at == at

-- the names before a place
abbrev pub names_before : ℕ → ℕ → List DeclaredName → List DeclaredName
names_before holder at [] = []
names_before holder at (n ∷ ns) = if stands_at holder at n then [] else n ∷ names_before holder at ns

abbrev pub is_declared : Text → List DeclaredName → Bool
is_declared name ns = list_any (λ (n : DeclaredName). bytes_eq n.name name) ns

-- types are the same; one that isn't known fails elsewhere
abbrev pub same_type : ValueType → ValueType → Bool
same_type ValueType.Unknown u = true
same_type t ValueType.Unknown = true
same_type ValueType.Int ValueType.Int = true
same_type ValueType.Boolean ValueType.Boolean = true
same_type ValueType.String ValueType.String = true
same_type ValueType.Array ValueType.Array = true
same_type (ValueType.Object a) (ValueType.Object b) = same_class a b
same_type ValueType.Any ValueType.Any = true
same_type ValueType.Void ValueType.Void = true
same_type _ _ = false

abbrev pub same_types : List ValueType → List ValueType → Bool
same_types [] [] = true
same_types (t ∷ ts) (u ∷ us) = same_type t u && same_types ts us
same_types _ _ = false

abbrev pub same_signature : Signature → Signature → Bool
same_signature a b = same_types a.parameters b.parameters && same_type a.result b.result && a.optional == b.optional

abbrev pub fits_kind : Signature → Kind → Bool
fits_kind s (A_property p) = false
fits_kind s (A_method m) = same_signature s m.signature

-- a method of a base that isn't private, with the same parameters, result and access
abbrev pub fits_override : Modifier → Signature → Option Found → Bool
fits_override access s None = false
fits_override access s (Some f) = fits_kind s f.member.kind && same_modifier access f.member.access && not (same_modifier f.member.access modifier.Private)

abbrev pub has_repeated : List Modifier → Bool
has_repeated [] = false
has_repeated (m ∷ ms) = list_any (same_modifier m) ms || has_repeated ms

abbrev pub is_variable : Declares → Bool
is_variable (Declares.Variables variables) = true
is_variable (Declares.Method f) = false

abbrev pub is_public_alone : List Modifier → Bool
is_public_alone (modifier.Public ∷ []) = true
is_public_alone _ = false

-- exactly one access word, no repeated word, and no `override` on a variable
abbrev pub has_right_words : Member → Bool
has_right_words m =
    length (filter is_access m.modifiers) == 1 && not (has_repeated m.modifiers) && not (is_variable m.declares && overrides m.modifiers)

-- at the member's first token, its metadata included; a member is a whole that holds its names and types
abbrev pub wrong_modifiers : Member → Rule
wrong_modifiers m = rule m.at code.WrongModifiers (has_right_words m)

-- a class is exactly `public`; at its first token, and it holds all its members
abbrev pub wrong_class_modifiers : ClassFile → Rule
wrong_class_modifiers file = rule file.class_at code.WrongModifiers (is_public_alone file.modifiers)

-- a `*` stands last; at the word `import`
abbrev pub wrong_import : Import → Rule
wrong_import i = rule i.at code.WrongModifiers (not (among star (without_last i.names)))

-- a function has at most 64 parameters; at the name of the one past them
abbrev pub too_many_parameters : ℕ → TypedName → Rule
too_many_parameters n p = rule p.name.span.start code.TooMany (not (n == 64))

-- in a file: the class that it defines, its number, and all names that it declares
module _ (readers : Readers) (t : Table) (k : ℕ) (here : NamedClass) (declared : List DeclaredName) where
  -- `Embed`, `Bindable` with arguments, and `Event` without a name or an event class as type are refused
  abbrev pub has_right_arguments : MetadataTag → Bool
  has_right_arguments m =
      if bytes_eq m.name (codes "Embed") then false
      else if bytes_eq m.name (codes "Bindable") then length m.arguments == 0
      else if bytes_eq m.name (codes "Event") then is_there (declared_event t.names t.bases readers.is_identifier here m)
      else true

  -- at its `[`
  abbrev pub bad_metadata : MetadataTag → Rule
  bad_metadata m = rule m.at code.BadMetadata (has_right_arguments m)

  abbrev pub is_known_type : ValueType → Bool
  is_known_type ValueType.Unknown = false
  is_known_type _ = true

  -- int, Boolean, String, Array or a class; at the type
  abbrev pub unknown_type : List Lexeme → Rule
  unknown_type path = rule (path_at path) code.UnknownType (is_known_type (type_at t.names here (path_names path)))

  -- the constructor takes no name from a base
  abbrev pub is_constructor_name : DeclaredName → Bool
  is_constructor_name n = unwrap_or (option_map (is_constructor here) n.function) false

  abbrev pub inherited : DeclaredName → Option Found
  inherited n = if is_constructor_name n then None else option_and_then (λ base. member_of t base n.name) (base_in t.bases (Class.File k))

  abbrev pub says_override : DeclaredName → Bool
  says_override n = is_there n.function && overrides n.modifiers

  -- a name that the class hasn't already, and that no base has or that is an override; at the name
  abbrev pub duplicate_member : List DeclaredName → DeclaredName → Rule
  duplicate_member earlier n = rule n.at code.DuplicateMember (not (is_declared n.name earlier) && (says_override n || not (is_there (inherited n))))

  abbrev pub overrides_rightly : DeclaredName → Bool
  overrides_rightly n = unwrap_or (option_map (λ f. fits_override (access_of n.modifiers) (signature_of t.names here f) (inherited n)) n.function) false

  -- at the name
  abbrev pub wrong_override : DeclaredName → Rule
  wrong_override n = rule n.at code.WrongOverride (not (says_override n) || overrides_rightly n)

  -- a class has at most 1,024 members, the constructor among them; at the name of the one past them
  abbrev pub too_many_members : List DeclaredName → DeclaredName → Rule
  too_many_members earlier n = rule n.at code.TooMany (not (length earlier == 1024))

  -- at one name in the order of the table
  abbrev pub name_sites_at : List DeclaredName → DeclaredName → List Rule
  name_sites_at earlier n = duplicate_member earlier n ∷ wrong_override n ∷ too_many_members earlier n ∷ []

  abbrev pub name_sites : DeclaredName → List Rule
  name_sites n = name_sites_at (names_before n.holder n.at declared) n

  -- the types of local variables, in bodies and handlers
  abbrev pub local_sites : List TypedName → List Rule
  local_sites locals = map (λ (v : TypedName). unknown_type v.type_name) locals

  -- each parameter's name before its type
  abbrev pub parameter_sites : ℕ → List TypedName → List Rule
  parameter_sites n [] = []
  parameter_sites n (p ∷ ps) = too_many_parameters n p ∷ unknown_type p.type_name ∷ parameter_sites (suc n) ps

  abbrev pub result_sites : ResultType → List Rule
  result_sites ResultType.No_result = []
  result_sites ResultType.Void_result = []
  result_sites (ResultType.Gives path) = unknown_type path ∷ []

  -- in text order: the name, the parameters, the result, the body
  abbrev pub function_sites : ℕ → List Modifier → Function → List Rule
  function_sites holder modifiers f =
      name_sites (name_of_function holder modifiers f) ++ (parameter_sites 0 f.parameters ++ (result_sites f.result ++ local_sites f.locals))

  -- in text order: the name, the type
  abbrev pub variable_sites : ℕ → List Modifier → TypedName → List Rule
  variable_sites holder modifiers v = name_sites (name_of_variable holder modifiers v) ++ (unknown_type v.type_name ∷ [])

  abbrev pub declared_sites : ℕ → List Modifier → Declares → List Rule
  declared_sites holder modifiers (Declares.Variables variables) = flat_map (variable_sites holder modifiers) variables
  declared_sites holder modifiers (Declares.Method f) = function_sites holder modifiers f

  -- in text order: the metadata, what is declared; and last the member, which holds both
  abbrev pub member_sites : ℕ → Member → List Rule
  member_sites holder m = map bad_metadata m.metadata ++ (declared_sites holder m.modifiers m.declares ++ (wrong_modifiers m ∷ []))

  abbrev pub item_sites : ℕ → Item → List Rule
  item_sites holder (Item.Imports i) = wrong_import i ∷ []
  item_sites holder (Item.Declares_member m) = member_sites holder m

  -- in text order: the imports, and then the class, whose metadata and members come before it
  abbrev pub class_file_member_sites : ClassFile → List Rule
  class_file_member_sites file =
      map wrong_import file.imports
      ++ (map bad_metadata file.metadata ++ (flat_map (member_sites 0) file.members ++ (wrong_class_modifiers file ∷ [])))

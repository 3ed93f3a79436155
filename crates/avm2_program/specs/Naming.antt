-- The names, namespaces and types of a file, read from its constant pool. A number that the reader of files excludes gives something
-- empty.
use Rattle.std.specs.List.{find, position}
use Rattle.std.specs.Prelude.{Bool, List, None, Option, Some, [], codes, false, if◌then◌else◌, map, option_and_then, option_map, suc, true, unwrap_or, zero, ℕ, ◌&&◌, ◌++◌, ◌∷◌}
use Rattle.std.specs.Str.{bytes_eq}
use Rattle.abc_format.specs.declared.records.Abc.{Abc}
use Rattle.abc_format.specs.declared.records.InstanceInfo.{InstanceInfo}
use Rattle.abc_format.specs.declared.records.Multiname.{Multiname}
use Rattle.abc_format.specs.declared.records.Multiname.TheVariants as multiname
use Rattle.abc_format.specs.declared.records.Namespace.{Namespace}
use Rattle.abc_format.specs.declared.records.NamespaceKind.{NamespaceKind}
use Rattle.abc_format.specs.declared.records.NamespaceKind.TheVariants as namespace_kind
use Rattle.component_catalog.specs.Classes.{classes, name_of, or_else, package_of}
use Rattle.component_catalog.specs.declared.class.NativeClass.{NativeClass}
use Rattle.component_catalog.specs.declared.class.NativeClass.TheVariants as native
use Rattle.flex_base.specs.Lists.{entry}
use Rattle.flex_world.specs.declared.kind.Class.TheVariants as Class
use Rattle.flex_world.specs.declared.kind.StaticType.{StaticType}
use Rattle.avm2_program.specs.Names.{has_space, nameless, names_it, package_space, public_space}
use Rattle.avm2_program.specs.declared.names.Name.{Name}
use Rattle.avm2_program.specs.declared.names.OwnName.{OwnName}
use Rattle.avm2_program.specs.declared.names.Space.{Space}
use Rattle.avm2_program.specs.declared.names.Space.TheVariants.{Absent, OfKind, Private}

abbrev pub space_with : ℕ → NamespaceKind → List ℕ → Space
space_with number namespace_kind.PrivateNs text = Private number
space_with number kind text = OfKind kind text

-- the number of the first class that a name names
abbrev pub class_numbered : Name → List (Option OwnName) → Option ℕ
class_numbered n owns = position (names_it n) owns

-- states are no classes of code
abbrev pub is_class_of_code : NativeClass → Bool
is_class_of_code native.State = false
is_class_of_code class = true

abbrev pub is_native_name : Name → NativeClass → Bool
is_native_name n class = is_class_of_code class && bytes_eq n.text (name_of class) && has_space (package_space (package_of class)) n

-- the class of the catalog that a name names
abbrev pub native_named : Name → Option StaticType
native_named n = option_map (λ class. StaticType.Object (Class.Native class)) (find (is_native_name n) classes)

abbrev pub primitive_named : List ℕ → Option StaticType
primitive_named text =
    if bytes_eq text (codes "int") then Some StaticType.Int
    else if bytes_eq text (codes "Boolean") then Some StaticType.Boolean
    else if bytes_eq text (codes "String") then Some StaticType.String
    else if bytes_eq text (codes "Array") then Some StaticType.Array
    else None

-- the class of the native script that a name names
abbrev pub native_type : Name → Option StaticType
native_type n = or_else (if has_space public_space n then primitive_named n.text else None) (native_named n)

-- a name behind its package and a dot
abbrev pub dotted : List ℕ → List ℕ → List ℕ
dotted [] text = text
dotted space text = space ++ 46 ∷ text

module _ (abc : Abc) where
  -- the text of a number; 0 is the empty text
  abbrev pub string_at : ℕ → List ℕ
  string_at n = unwrap_or (entry abc.constant_pool.strings n) []

  abbrev pub space_at : ℕ → Space
  space_at n = unwrap_or (option_map (λ (info : Namespace). space_with n info.kind (string_at info.name)) (entry abc.constant_pool.namespaces n)) Absent

  abbrev pub space_text : ℕ → List ℕ
  space_text n = unwrap_or (option_map (λ (info : Namespace). string_at info.name) (entry abc.constant_pool.namespaces n)) []

  abbrev pub spaces_at : ℕ → List Space
  spaces_at set = map space_at (unwrap_or (entry abc.constant_pool.namespace_sets set) [])

  abbrev pub name_of_multiname : Multiname → Name
  name_of_multiname (multiname.QName namespace name) = record { text = string_at name; spaces = space_at namespace ∷ [] }
  name_of_multiname (multiname.QNameA namespace name) = record { text = string_at name; spaces = space_at namespace ∷ [] }
  name_of_multiname (multiname.Multiname name set) = record { text = string_at name; spaces = spaces_at set }
  name_of_multiname (multiname.MultinameA name set) = record { text = string_at name; spaces = spaces_at set }
  name_of_multiname _ = nameless

  abbrev pub multiname_at : ℕ → Option Multiname
  multiname_at n = entry abc.constant_pool.multinames n

  abbrev pub name_at : ℕ → Name
  name_at n = unwrap_or (option_map name_of_multiname (multiname_at n)) nameless

  abbrev pub own_name_of : Multiname → Option OwnName
  own_name_of (multiname.QName namespace name) = Some (record { text = string_at name; space = space_at namespace })
  own_name_of (multiname.QNameA namespace name) = Some (record { text = string_at name; space = space_at namespace })
  own_name_of _ = None

  -- the own name of a number: only a name of one namespace is one
  abbrev pub own_name_at : ℕ → Option OwnName
  own_name_at n = option_and_then own_name_of (multiname_at n)

  abbrev pub text_of_multiname : Multiname → List ℕ
  text_of_multiname (multiname.RtqName name) = string_at name
  text_of_multiname (multiname.RtqNameA name) = string_at name
  text_of_multiname other = (name_of_multiname other).text

  -- the text of a name of any kind
  abbrev pub text_at : ℕ → List ℕ
  text_at n = unwrap_or (option_map text_of_multiname (multiname_at n)) []

  abbrev pub dotted_name_of : Multiname → List ℕ
  dotted_name_of (multiname.QName namespace name) = dotted (space_text namespace) (string_at name)
  dotted_name_of (multiname.QNameA namespace name) = dotted (space_text namespace) (string_at name)
  dotted_name_of _ = []

  -- the full dotted name of a class with this name
  abbrev pub dotted_name_at : ℕ → List ℕ
  dotted_name_at n = unwrap_or (option_map dotted_name_of (multiname_at n)) []

-- a file, and the own names of its classes
pub record Naming : Type 0 where
  pub abc : Abc
  pub class_names : List (Option OwnName)

abbrev pub naming_with : Abc → List (Option OwnName) → Naming
naming_with abc class_names = record { abc = abc; class_names = class_names }

abbrev pub naming : Abc → Naming
naming abc = naming_with abc (map (λ (instance : InstanceInfo). own_name_at abc instance.name) abc.instances)

-- the class that a name names as a type, where the classes of the file have these names: the first of them, made or not, or else one of the native script
abbrev pub type_named : List (Option OwnName) → Name → Option StaticType
type_named owns n = or_else (option_map (λ k. StaticType.Object (Class.File k)) (class_numbered n owns)) (native_type n)

-- the type of a number; 0 is no type
abbrev pub type_at : Naming → ℕ → StaticType
type_at g zero = StaticType.Any
type_at g (suc n) = unwrap_or (type_named g.class_names (name_at g.abc (suc n))) StaticType.Unnamed

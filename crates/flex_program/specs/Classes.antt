-- Look-ups in the classes of a program.
use Rattle.std.specs.List.{find, flat_map, list_any}
use Rattle.std.specs.Prelude.{Bool, List, None, Option, Some, [], false, is_some, map, option_and_then, option_map, slice_get, true, unwrap_or, ℕ, ◌||◌, ◌∷◌}
use Rattle.std.specs.Str.{bytes_eq}
use Rattle.component_catalog.specs.Classes.{name_of, or_else}
use Rattle.component_catalog.specs.Methods.{own_method}
use Rattle.component_catalog.specs.declared.method.NativeMethod.{NativeMethod}
use Rattle.flex_world.specs.Classes.{lineage_in}
use Rattle.flex_world.specs.declared.kind.Class.{Class}
use Rattle.flex_world.specs.Making.{computes, native_fields, start_of_type}
use Rattle.flex_world.specs.Objects.{An_array, Field, Instance_of, Kind, Object, field_named, object_class}
use Rattle.flex_program.specs.Program.{Constructor, Document, Member, Program, SourceClass, Variable}

-- what is called: a method of the program, by its number, or one of the catalog
pub data Callee : Type 0 where
  Written : (method : ℕ) → Callee
  Catalog : (method : NativeMethod) → Callee

abbrev pub has_name : List ℕ → Option (List ℕ) → Bool
has_name name None = false
has_name name (Some other) = bytes_eq name other

-- the base of each class
abbrev pub bases : Program → List (Option Class)
bases p = map (λ class. class.base) p.classes

-- a variable or an id, as its object keeps it at first
abbrev pub variable_field : Variable → Field
variable_field v = record {
  name = v.name;
  text = v.name;
  type = v.type;
  public = v.public;
  bindable = v.bindable;
  read_only = false;
  is_slot = true;
  value = start_of_type v.type;
}

module _ (p : Program) where
  abbrev pub class_numbered : ℕ → Option SourceClass
  class_numbered k = slice_get p.classes k

  -- the full dotted name of a source class, the short one of a class of the catalog
  abbrev pub class_name : Class → Option (List ℕ)
  class_name (Class.Native class) = Some (name_of class)
  class_name (Class.File k) = option_map (λ class. class.name) (class_numbered k)

  -- the document that a class is, if it is one
  abbrev pub document_of : Class → Option Document
  document_of (Class.Native class) = None
  document_of (Class.File k) = option_and_then (λ class. class.document) (class_numbered k)

  abbrev pub constructor_of : Class → Option Constructor
  constructor_of (Class.Native class) = None
  constructor_of (Class.File k) = option_and_then (λ class. class.constructor) (class_numbered k)

  -- the variables and ids that a class declares itself
  abbrev pub own_variables : Class → List Variable
  own_variables (Class.Native class) = []
  own_variables (Class.File k) = unwrap_or (option_map (λ class. class.variables) (class_numbered k)) []

  -- the methods that a source class declares itself
  abbrev pub own_members : Class → List Member
  own_members (Class.Native class) = []
  own_members (Class.File k) = unwrap_or (option_map (λ class. class.members) (class_numbered k)) []

  -- the method of this name that a class declares itself
  abbrev pub own_callee : List ℕ → Class → Option Callee
  own_callee name (Class.Native class) = option_map Callee.Catalog (own_method class name)
  own_callee name (Class.File k) = option_map (λ m. Callee.Written m.method) (find (λ m. bytes_eq m.name name) (own_members (Class.File k)))

  abbrev pub callee_in : List ℕ → List Class → Option Callee
  callee_in name [] = None
  callee_in name (class ∷ others) = or_else (own_callee name class) (callee_in name others)

  -- the method that a name stands for in a class: that of the nearest class that declares it
  abbrev pub callee : Class → List ℕ → Option Callee
  callee class name = callee_in name (lineage_in (bases p) class)

  -- the document that an object is, if it is one
  abbrev pub document_in : Object → Option Document
  document_in c = option_and_then document_of (object_class c)

  abbrev pub own_fields : Class → List Field
  own_fields (Class.Native class) = native_fields class
  own_fields (Class.File k) = map variable_field (own_variables (Class.File k))

  -- the fields of an object: its class's own, then its base's, and so on
  abbrev pub fields_of : Class → List Field
  fields_of class = flat_map own_fields (lineage_in (bases p) class)

  -- objects of this kind have the property
  abbrev pub has_property : Kind → List ℕ → Bool
  has_property (Instance_of class) name = is_some (field_named name (fields_of class)) || list_any (computes name) (lineage_in (bases p) class)
  has_property An_array name = false

-- The classes of a file and of the catalog, and what their objects are.
use Rattle.std.specs.Prelude.{Bool, List, Option, Some, [], false, option_and_then, option_map, slice_get, true, unwrap_or, ℕ, ◌&&◌, ◌||◌}
use Rattle.avm2_program.specs.declared.method.Body.{Body}
use Rattle.avm2_program.specs.declared.class.FileClass.{FileClass}
use Rattle.avm2_program.specs.declared.method.Method.{Method}
use Rattle.avm2_program.specs.declared.file.Program.{Program}
use Rattle.avm2_program.specs.Resolving.{kept_fields, native_behind}
use Rattle.component_catalog.specs.Classes.{name_of}
use Rattle.component_catalog.specs.declared.class.NativeClass.{NativeClass}
use Rattle.component_catalog.specs.declared.class.NativeClass.TheVariants as native
use Rattle.flex_objects.specs.Entities.{Shape}
use Rattle.flex_world.specs.Classes.{is_instance_of}
use Rattle.flex_world.specs.declared.kind.Class.{Class}
use Rattle.flex_world.specs.Objects.{Object, object_class}

module _ (p : Program) where
  abbrev pub file_class_at : ℕ → Option FileClass
  file_class_at k = slice_get p.classes k

  -- the nearest class of the catalog among a class and its bases
  abbrev pub native_of : Class → Option NativeClass
  native_of (Class.Native class) = Some class
  native_of (Class.File k) = option_and_then (λ (class : FileClass). native_behind class.behind) (file_class_at k)

  -- an object of a class of the catalog or of one that descends from it
  abbrev pub is_of : NativeClass → Object → Bool
  is_of ancestor c = is_instance_of p.bases ancestor (object_class c)

  abbrev pub is_component_object : Object → Bool
  is_component_object = is_of native.UIComponent

  abbrev pub is_container_object : Object → Bool
  is_container_object c = is_of native.SkinnableContainer c || is_of native.Group c

  abbrev pub is_event_object : Object → Bool
  is_event_object = is_of native.Event

  abbrev pub is_of_file : Option Class → Bool
  is_of_file (Some (Class.File k)) = true
  is_of_file _ = false

  -- an object that has the calls of the runtime
  abbrev pub is_document : Object → Bool
  is_document c = is_component_object c && is_of_file (object_class c)

  -- the full dotted name of a class of the file, the short one of a class of the catalog
  abbrev pub class_name : Class → List ℕ
  class_name (Class.Native class) = name_of class
  class_name (Class.File k) = unwrap_or (option_map (λ (class : FileClass). class.name) (file_class_at k)) []

  abbrev pub method_at : ℕ → Option Method
  method_at m = slice_get p.methods m

  -- the class that names a method first
  abbrev pub owner_of : ℕ → Option ℕ
  owner_of m = option_and_then (λ (method : Method). method.owner) (method_at m)

  abbrev pub body_of : ℕ → Option Body
  body_of m = option_and_then (λ (method : Method). method.body) (method_at m)

  abbrev pub native_shape : NativeClass → Shape
  native_shape class = record { class = Class.Native class; native = Some class; fields = kept_fields class; hidden = [] }

  abbrev pub file_shape : ℕ → FileClass → Shape
  file_shape k class = record { class = Class.File k; native = native_behind class.behind; fields = class.fields; hidden = class.hidden }

  -- what objects of a class have at first
  abbrev pub shape_of : Class → Option Shape
  shape_of (Class.Native class) = Some (native_shape class)
  shape_of (Class.File k) = option_map (file_shape k) (file_class_at k)

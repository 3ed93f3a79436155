-- A file, made ready to play.
use Rattle.std.specs.List.{find, flat_map, list_any}
use Rattle.std.specs.Prelude.{Bool, List, None, Option, Some, [], false, if◌then◌else◌, length, map, nat_lt, option_and_then, option_map, slice_get, suc, unwrap_or, zero, ℕ, ◌++◌, ◌==◌, ◌||◌, ◌∷◌}
use Rattle.abc_format.specs.declared.records.Abc.{Abc}
use Rattle.abc_format.specs.declared.records.ClassInfo.{ClassInfo}
use Rattle.abc_format.specs.declared.records.InstanceInfo.{InstanceInfo}
use Rattle.abc_format.specs.declared.records.MethodBody.{MethodBody}
use Rattle.abc_format.specs.declared.records.MethodInfo.{MethodInfo}
use Rattle.abc_format.specs.declared.records.ScriptInfo.{ScriptInfo}
use Rattle.abc_format.specs.declared.records.Trait.{Trait}
use Rattle.component_catalog.specs.Classes.{classes, lineage}
use Rattle.component_catalog.specs.Properties.{Property, properties}
use Rattle.component_catalog.specs.declared.class.NativeClass.{NativeClass}
use Rattle.flex_world.specs.Classes.{lineage_in}
use Rattle.flex_world.specs.declared.kind.Class.{Class}
use Rattle.flex_world.specs.declared.kind.StaticType.{StaticType}
use Rattle.flex_world.specs.Making.{native_fields}
use Rattle.flex_world.specs.Objects.{Field}
use Rattle.avm2_program.specs.Naming.{Naming, dotted_name_at, naming, type_at}
use Rattle.avm2_program.specs.Operations.{operations}
use Rattle.avm2_program.specs.declared.method.Body.{Body}
use Rattle.avm2_program.specs.declared.class.FileClass.{FileClass}
use Rattle.avm2_program.specs.declared.method.Method.{Method}
use Rattle.avm2_program.specs.declared.file.Program.{Program}
use Rattle.avm2_program.specs.declared.file.Script.{Script}
use Rattle.avm2_program.specs.Traits.{KeyedTrait, PlacedTrait, fields_of, hidden_of, is_unplayed, member_of, method_in, own_member_of, own_slot, placed, with_keys}

-- the class that a type is, if it is one
abbrev pub class_in_type : StaticType → Option Class
class_in_type (StaticType.Object class) = Some class
class_in_type _ = None

-- of classes with these bases: what stands behind a class and its ancestors of the file; a ring of bases has no end
module _ (bases : List (Option StaticType)) where
  abbrev pub behind_by : ℕ → Option StaticType → Option StaticType
  behind_by zero type = None
  behind_by (suc n) (Some (StaticType.Object (Class.File k))) = behind_by n (option_and_then (λ base. base) (slice_get bases k))
  behind_by (suc n) type = type

  abbrev pub behind_class : ℕ → Option StaticType
  behind_class k = behind_by (suc (length bases)) (Some (StaticType.Object (Class.File k)))

  abbrev pub class_bases : List (Option Class)
  class_bases = map (λ base. option_and_then class_in_type base) bases

-- the class of the catalog that stands behind, if one does
abbrev pub native_behind : Option StaticType → Option NativeClass
native_behind (Some (StaticType.Object (Class.Native class))) = Some class
native_behind _ = None

-- the properties that objects of a class of the catalog keep
abbrev pub kept_fields : NativeClass → List Field
kept_fields class = flat_map native_fields (lineage class)

abbrev pub fields_behind : Option NativeClass → List Field
fields_behind None = []
fields_behind (Some class) = kept_fields class

-- the names of the properties of a class of the catalog and its ancestors
abbrev pub property_names : NativeClass → List (List ℕ)
property_names class = flat_map (λ level. map (λ (p : Property). p.name) (properties level)) (lineage class)

abbrev pub names_behind : Option NativeClass → List (List ℕ)
names_behind None = []
names_behind (Some class) = property_names class

abbrev pub names_method : ℕ → Option ℕ → Bool
names_method m None = false
names_method m (Some other) = other == m

abbrev pub have_method : ℕ → List Trait → Bool
have_method m traits = list_any (λ (t : Trait). names_method m (method_in t.kind)) traits

-- whether the constructor or a trait of a class names a method
abbrev pub owns : ℕ → InstanceInfo → ClassInfo → Bool
owns m instance class = (instance.iinit == m) || have_method m instance.traits || have_method m class.traits

-- the number of the first class that owns a method, from a number on
abbrev pub owner_from : ℕ → ℕ → List InstanceInfo → List ClassInfo → Option ℕ
owner_from m k [] _ = None
owner_from m k (instance ∷ instances) [] = None
owner_from m k (instance ∷ instances) (class ∷ others) =
    if owns m instance class then Some k else owner_from m (suc k) instances others

abbrev pub is_unplayed_class : InstanceInfo → ClassInfo → Bool
is_unplayed_class instance class =
    nat_lt 0 (length instance.interfaces) || list_any (λ (t : Trait). is_unplayed t.kind) instance.traits || list_any (λ (t : Trait). is_unplayed t.kind) class.traits

module _ (g : Naming) where
  abbrev pub body_of : MethodBody → Body
  body_of b = record { locals = b.local_count; code = operations g b.code }

  -- of several bodies of a method the first counts
  abbrev pub body_at : ℕ → Option Body
  body_at m = option_map body_of (find (λ (b : MethodBody). b.method == m) g.abc.method_bodies)

  abbrev pub method_of : ℕ → MethodInfo → Method
  method_of m info = record {
    parameters = map (type_at g) info.param_types;
    result = type_at g info.return_type;
    body = body_at m;
    owner = owner_from m 0 g.abc.instances g.abc.classes;
  }

  abbrev pub methods_from : ℕ → List MethodInfo → List Method
  methods_from m [] = []
  methods_from m (info ∷ infos) = method_of m info ∷ methods_from (suc m) infos

  abbrev pub base_with : ℕ → Option StaticType
  base_with zero = None
  base_with (suc n) = Some (type_at g (suc n))

  -- the base of each class, whatever it is
  abbrev pub type_bases : List (Option StaticType)
  type_bases = map (λ (instance : InstanceInfo). base_with instance.super_name) g.abc.instances

  abbrev pub traits_at : ℕ → List PlacedTrait
  traits_at k = unwrap_or (option_map (λ (instance : InstanceInfo). placed k instance.traits) (slice_get g.abc.instances k)) []

  -- the traits that a class has itself, where it is one of the file
  abbrev pub own_traits : Class → List PlacedTrait
  own_traits (Class.Native class) = []
  own_traits (Class.File k) = traits_at k

  -- the traits of the objects of a class, with their keys: its own first, then its base's, and so on
  abbrev pub traits_of : ℕ → List KeyedTrait
  traits_of k =
      with_keys g (names_behind (native_behind (behind_class type_bases k))) 0 (flat_map own_traits (lineage_in (class_bases type_bases) (Class.File k)))

  abbrev pub file_class : ℕ → InstanceInfo → ClassInfo → FileClass
  file_class k instance class = record {
    name = dotted_name_at g.abc instance.name;
    base = base_with instance.super_name;
    behind = behind_class type_bases k;
    constructor = instance.iinit;
    initialiser = class.cinit;
    is_unplayed = is_unplayed_class instance class;
    members = map (member_of g) (traits_of k);
    fields = fields_of g (traits_of k) ++ fields_behind (native_behind (behind_class type_bases k));
    hidden = hidden_of g (traits_of k);
    own_members = map (own_member_of g) (placed k class.traits);
    own_slots = map (own_slot g) class.traits;
  }

  abbrev pub classes_from : ℕ → List InstanceInfo → List ClassInfo → List FileClass
  classes_from k [] _ = []
  classes_from k (instance ∷ instances) [] = []
  classes_from k (instance ∷ instances) (class ∷ others) = file_class k instance class ∷ classes_from (suc k) instances others

  abbrev pub script_of : ℕ → ScriptInfo → Script
  script_of s info = record { initialiser = info.init; members = map (own_member_of g) (placed s info.traits); slots = map (own_slot g) info.traits }

  abbrev pub scripts_from : ℕ → List ScriptInfo → List Script
  scripts_from s [] = []
  scripts_from s (info ∷ infos) = script_of s info ∷ scripts_from (suc s) infos

  abbrev pub program_of : Program
  program_of = record {
    methods = methods_from 0 g.abc.methods;
    classes = classes_from 0 g.abc.instances g.abc.classes;
    bases = class_bases type_bases;
    scripts = scripts_from 0 g.abc.scripts;
  }

-- what a file says, with texts, names, types and members in place of numbers
abbrev pub program : Abc → Program
program abc = program_of (naming abc)

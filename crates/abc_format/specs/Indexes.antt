-- What a number that names an entry of a table may be: a rule of the records alone.
use Rattle.std.specs.Prelude.{◌≡◌, ℕ, ◌<◌, ◌&&◌, Bool, true, List, length, nat_lt, nat_le, All}
use Rattle.abc_format.specs.declared.tables.IndexRule.{IndexRule}
use Rattle.abc_format.specs.declared.tables.IndexRule.TheVariants as rule
use Rattle.abc_format.specs.declared.tables.Tables.{Tables}
use Rattle.abc_format.specs.declared.records.Abc.{Abc}
use Rattle.abc_format.specs.declared.records.ConstantPool.{ConstantPool}
use Rattle.abc_format.specs.declared.records.Namespace.{Namespace}
use Rattle.abc_format.specs.declared.records.Multiname.{Multiname}
use Rattle.abc_format.specs.declared.records.Multiname.TheVariants as multiname
use Rattle.abc_format.specs.declared.records.MethodInfo.{MethodInfo}
use Rattle.abc_format.specs.declared.records.MetadataInfo.{MetadataInfo}
use Rattle.abc_format.specs.declared.records.InstanceInfo.{InstanceInfo}
use Rattle.abc_format.specs.declared.records.ClassInfo.{ClassInfo}
use Rattle.abc_format.specs.declared.records.ScriptInfo.{ScriptInfo}
use Rattle.abc_format.specs.declared.records.MethodBody.{MethodBody}
use Rattle.abc_format.specs.declared.records.Trait.{Trait}
use Rattle.abc_format.specs.declared.records.TraitKind.{TraitKind}
use Rattle.abc_format.specs.declared.records.TraitKind.TheVariants as trait_kind

-- numbers that bytes can have
abbrev pub AreBytes : List ℕ → Type 0
AreBytes bytes = All (λ byte. byte < 256) bytes

-- whether a number may stand by a rule
abbrev pub allows : IndexRule → ℕ → Bool
allows (rule.Entry count) n = nat_lt 0 n && nat_le n count
allows (rule.EntryOrZero count) n = nat_le n count
allows (rule.Item count) n = nat_lt n count

abbrev pub IsIndex : IndexRule → ℕ → Type 0
IsIndex r n = allows r n ≡ true

-- a string, where 0 is the empty text
abbrev pub string_rule : Tables → IndexRule
string_rule t = rule.EntryOrZero t.strings

-- a namespace, or 0 for none
abbrev pub namespace_rule : Tables → IndexRule
namespace_rule t = rule.EntryOrZero t.namespaces

-- a set of namespaces
abbrev pub set_rule : Tables → IndexRule
set_rule t = rule.Entry t.namespace_sets

-- the name of a member, a class, its base or a type, or 0 for none
abbrev pub name_rule : Tables → IndexRule
name_rule t = rule.EntryOrZero t.multinames

-- the name of an interface
abbrev pub interface_rule : Tables → IndexRule
interface_rule t = rule.Entry t.multinames

abbrev pub method_rule : Tables → IndexRule
method_rule t = rule.Item t.methods

abbrev pub metadata_rule : Tables → IndexRule
metadata_rule t = rule.Item t.metadata

abbrev pub class_rule : Tables → IndexRule
class_rule t = rule.Item t.classes

-- the entries of the pool, before any other table
abbrev pub pool_tables : ConstantPool → Tables
pool_tables p = record {
  strings = length p.strings;
  namespaces = length p.namespaces;
  namespace_sets = length p.namespace_sets;
  multinames = length p.multinames;
  methods = 0;
  metadata = 0;
  classes = 0;
}

-- with the other tables
abbrev pub with_tables : ConstantPool → ℕ → ℕ → ℕ → Tables
with_tables p methods metadata classes = record {
  strings = length p.strings;
  namespaces = length p.namespaces;
  namespace_sets = length p.namespace_sets;
  multinames = length p.multinames;
  methods = methods;
  metadata = metadata;
  classes = classes;
}

-- the tables of an ABC
abbrev pub tables_of : Abc → Tables
tables_of a = with_tables a.constant_pool (length a.methods) (length a.metadata) (length a.classes)

abbrev pub NamespaceIndexes : Tables → Namespace → Type 0
NamespaceIndexes t n = IsIndex (string_rule t) n.name

-- a set may name the namespace 0
abbrev pub SetIndexes : Tables → List ℕ → Type 0
SetIndexes t namespaces = All (IsIndex (namespace_rule t)) namespaces

abbrev pub MultinameIndexes : Tables → Multiname → Type 0
MultinameIndexes t (multiname.QName namespace name) = IsIndex (namespace_rule t) namespace × IsIndex (string_rule t) name
MultinameIndexes t (multiname.QNameA namespace name) = IsIndex (namespace_rule t) namespace × IsIndex (string_rule t) name
MultinameIndexes t (multiname.RtqName name) = IsIndex (string_rule t) name
MultinameIndexes t (multiname.RtqNameA name) = IsIndex (string_rule t) name
MultinameIndexes t multiname.RtqNameL = Unit {0}
MultinameIndexes t multiname.RtqNameLA = Unit {0}
MultinameIndexes t (multiname.Multiname name namespace_set) = IsIndex (string_rule t) name × IsIndex (set_rule t) namespace_set
MultinameIndexes t (multiname.MultinameA name namespace_set) = IsIndex (string_rule t) name × IsIndex (set_rule t) namespace_set
MultinameIndexes t (multiname.MultinameL namespace_set) = IsIndex (set_rule t) namespace_set
MultinameIndexes t (multiname.MultinameLA namespace_set) = IsIndex (set_rule t) namespace_set

abbrev pub PoolIndexes : Tables → ConstantPool → Type 0
PoolIndexes t p = All (NamespaceIndexes t) p.namespaces × All (SetIndexes t) p.namespace_sets × All (MultinameIndexes t) p.multinames

-- default values aren't looked at
abbrev pub MethodIndexes : Tables → MethodInfo → Type 0
MethodIndexes t m =
    IsIndex (name_rule t) m.return_type × All (IsIndex (name_rule t)) m.param_types × IsIndex (string_rule t) m.name
    × All (IsIndex (string_rule t)) m.param_names

-- items aren't looked at
abbrev pub MetadataIndexes : Tables → MetadataInfo → Type 0
MetadataIndexes t m = IsIndex (string_rule t) m.name

-- a default value isn't looked at
abbrev pub TraitKindIndexes : Tables → TraitKind → Type 0
TraitKindIndexes t (trait_kind.Slot slot_id type_name vindex vkind) = IsIndex (name_rule t) type_name
TraitKindIndexes t (trait_kind.Method disp_id method) = IsIndex (method_rule t) method
TraitKindIndexes t (trait_kind.Getter disp_id method) = IsIndex (method_rule t) method
TraitKindIndexes t (trait_kind.Setter disp_id method) = IsIndex (method_rule t) method
TraitKindIndexes t (trait_kind.Class slot_id class) = IsIndex (class_rule t) class
TraitKindIndexes t (trait_kind.Function slot_id function) = IsIndex (method_rule t) function
TraitKindIndexes t (trait_kind.Const slot_id type_name vindex vkind) = IsIndex (name_rule t) type_name

abbrev pub TraitIndexes : Tables → Trait → Type 0
TraitIndexes t x = IsIndex (name_rule t) x.name × TraitKindIndexes t x.kind × All (IsIndex (metadata_rule t)) x.metadata

abbrev pub InstanceIndexes : Tables → InstanceInfo → Type 0
InstanceIndexes t i =
    IsIndex (name_rule t) i.name × IsIndex (name_rule t) i.super_name × IsIndex (namespace_rule t) i.protected_namespace
    × All (IsIndex (interface_rule t)) i.interfaces × IsIndex (method_rule t) i.iinit × All (TraitIndexes t) i.traits

abbrev pub ClassIndexes : Tables → ClassInfo → Type 0
ClassIndexes t c = IsIndex (method_rule t) c.cinit × All (TraitIndexes t) c.traits

abbrev pub ScriptIndexes : Tables → ScriptInfo → Type 0
ScriptIndexes t s = IsIndex (method_rule t) s.init × All (TraitIndexes t) s.traits

-- exceptions aren't looked at
abbrev pub BodyIndexes : Tables → MethodBody → Type 0
BodyIndexes t b = IsIndex (method_rule t) b.method × All (TraitIndexes t) b.traits

-- each number names an entry that is there
pub record HasIndexes (a : Abc) : Type 0 where
  pub constant_pool : PoolIndexes (tables_of a) a.constant_pool
  pub methods : All (MethodIndexes (tables_of a)) a.methods
  pub metadata : All (MetadataIndexes (tables_of a)) a.metadata
  pub instances : All (InstanceIndexes (tables_of a)) a.instances
  pub classes : All (ClassIndexes (tables_of a)) a.classes
  pub scripts : All (ScriptIndexes (tables_of a)) a.scripts
  pub method_bodies : All (BodyIndexes (tables_of a)) a.method_bodies

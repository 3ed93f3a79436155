-- The bytes of an ABC, in the writer's spelling.
use Rattle.std.specs.Prelude.{ℕ, ◌+◌, ◌*◌, ◌%◌, List, [], ◌∷◌, ◌++◌, length, if◌then◌else◌, ◌==◌, bit_and}
use Rattle.std.specs.List.{flat_map}
use Rattle.byteorder.specs.Endian.{little_bytes}
use Rattle.abc_format.specs.declared.records.Abc.{Abc}
use Rattle.abc_format.specs.declared.records.ConstantPool.{ConstantPool}
use Rattle.abc_format.specs.declared.records.Namespace.{Namespace}
use Rattle.abc_format.specs.Kinds.{namespace_kind_byte, trait_code, qname_kind, qname_a_kind, rtq_name_kind, rtq_name_a_kind, rtq_name_l_kind, rtq_name_la_kind, multiname_kind, multiname_a_kind, multiname_l_kind, multiname_la_kind}
use Rattle.abc_format.specs.declared.records.Multiname.{Multiname}
use Rattle.abc_format.specs.declared.records.Multiname.TheVariants as multiname
use Rattle.abc_format.specs.declared.records.MethodInfo.{MethodInfo}
use Rattle.abc_format.specs.declared.records.OptionDetail.{OptionDetail}
use Rattle.abc_format.specs.declared.records.MetadataInfo.{MetadataInfo}
use Rattle.abc_format.specs.declared.records.ItemInfo.{ItemInfo}
use Rattle.abc_format.specs.declared.records.InstanceInfo.{InstanceInfo}
use Rattle.abc_format.specs.declared.records.ClassInfo.{ClassInfo}
use Rattle.abc_format.specs.declared.records.ScriptInfo.{ScriptInfo}
use Rattle.abc_format.specs.declared.records.MethodBody.{MethodBody}
use Rattle.abc_format.specs.declared.records.ExceptionInfo.{ExceptionInfo}
use Rattle.abc_format.specs.declared.records.Trait.{Trait}
use Rattle.abc_format.specs.declared.records.TraitKind.{TraitKind}
use Rattle.abc_format.specs.declared.records.TraitKind.TheVariants as trait_kind
use Rattle.abc_format.specs.Numbers.{u30_bytes, int_bytes}

-- a count, and the items one after another
abbrev pub counted : {A : Type 0} → (A → List ℕ) → List A → List ℕ
counted f items = u30_bytes (length items) ++ flat_map f items

-- the count of a table of the pool: one more than its entries, and 0 where there are none
abbrev pub table_count : {A : Type 0} → List A → ℕ
table_count [] = 0
table_count items = length items + 1

-- a table of the pool
abbrev pub table : {A : Type 0} → (A → List ℕ) → List A → List ℕ
table f items = u30_bytes (table_count items) ++ flat_map f items

-- what stands only where a byte has a flag
abbrev pub where_flag : ℕ → ℕ → List ℕ → List ℕ
where_flag flags flag bytes = if bit_and flags flag == 0 then [] else bytes

abbrev pub string_bytes_of : List ℕ → List ℕ
string_bytes_of text = u30_bytes (length text) ++ text

abbrev pub namespace_bytes : Namespace → List ℕ
namespace_bytes n = namespace_kind_byte n.kind ∷ u30_bytes n.name

abbrev pub multiname_bytes : Multiname → List ℕ
multiname_bytes (multiname.QName namespace name) = qname_kind ∷ u30_bytes namespace ++ u30_bytes name
multiname_bytes (multiname.QNameA namespace name) = qname_a_kind ∷ u30_bytes namespace ++ u30_bytes name
multiname_bytes (multiname.RtqName name) = rtq_name_kind ∷ u30_bytes name
multiname_bytes (multiname.RtqNameA name) = rtq_name_a_kind ∷ u30_bytes name
multiname_bytes multiname.RtqNameL = rtq_name_l_kind ∷ []
multiname_bytes multiname.RtqNameLA = rtq_name_la_kind ∷ []
multiname_bytes (multiname.Multiname name namespace_set) = multiname_kind ∷ u30_bytes name ++ u30_bytes namespace_set
multiname_bytes (multiname.MultinameA name namespace_set) = multiname_a_kind ∷ u30_bytes name ++ u30_bytes namespace_set
multiname_bytes (multiname.MultinameL namespace_set) = multiname_l_kind ∷ u30_bytes namespace_set
multiname_bytes (multiname.MultinameLA namespace_set) = multiname_la_kind ∷ u30_bytes namespace_set

abbrev pub pool_bytes : ConstantPool → List ℕ
pool_bytes p =
    table int_bytes p.integers ++ table u30_bytes p.unsigned_integers ++ table (little_bytes 8) p.doubles ++ table string_bytes_of p.strings
    ++ table namespace_bytes p.namespaces ++ table (counted u30_bytes) p.namespace_sets ++ table multiname_bytes p.multinames

abbrev pub option_bytes : OptionDetail → List ℕ
option_bytes o = u30_bytes o.value ++ o.kind ∷ []

-- default values, and a string for each parameter, where the flags say so
abbrev pub options_bytes : MethodInfo → List ℕ
options_bytes m = where_flag m.flags 0x08 (counted option_bytes m.options)

abbrev pub param_names_bytes : MethodInfo → List ℕ
param_names_bytes m = where_flag m.flags 0x80 (flat_map u30_bytes m.param_names)

abbrev pub method_bytes : MethodInfo → List ℕ
method_bytes m =
    u30_bytes (length m.param_types) ++ u30_bytes m.return_type ++ flat_map u30_bytes m.param_types ++ u30_bytes m.name ++ m.flags ∷ []
    ++ options_bytes m ++ param_names_bytes m

abbrev pub item_bytes : ItemInfo → List ℕ
item_bytes i = u30_bytes i.key ++ u30_bytes i.value

abbrev pub metadata_bytes : MetadataInfo → List ℕ
metadata_bytes m = u30_bytes m.name ++ counted item_bytes m.items

-- a default value's number, and its kind where the number isn't 0
abbrev pub value_bytes : ℕ → ℕ → List ℕ
value_bytes vindex vkind = u30_bytes vindex ++ (if vindex == 0 then [] else vkind ∷ [])

abbrev pub trait_parts : TraitKind → List ℕ
trait_parts (trait_kind.Slot slot_id type_name vindex vkind) = u30_bytes slot_id ++ u30_bytes type_name ++ value_bytes vindex vkind
trait_parts (trait_kind.Method disp_id method) = u30_bytes disp_id ++ u30_bytes method
trait_parts (trait_kind.Getter disp_id method) = u30_bytes disp_id ++ u30_bytes method
trait_parts (trait_kind.Setter disp_id method) = u30_bytes disp_id ++ u30_bytes method
trait_parts (trait_kind.Class slot_id class) = u30_bytes slot_id ++ u30_bytes class
trait_parts (trait_kind.Function slot_id function) = u30_bytes slot_id ++ u30_bytes function
trait_parts (trait_kind.Const slot_id type_name vindex vkind) = u30_bytes slot_id ++ u30_bytes type_name ++ value_bytes vindex vkind

-- metadata, where the attributes say that there is some
abbrev pub trait_metadata_bytes : Trait → List ℕ
trait_metadata_bytes t = where_flag t.attributes 0x04 (counted u30_bytes t.metadata)

-- the kind in the lower four bits, the attributes in the upper four
abbrev pub trait_bytes : Trait → List ℕ
trait_bytes t =
    u30_bytes t.name ++ (trait_code t.kind + 16 * (t.attributes % 16)) ∷ [] ++ trait_parts t.kind ++ trait_metadata_bytes t

-- the protected namespace, where the flags say that there is one
abbrev pub protected_namespace_bytes : InstanceInfo → List ℕ
protected_namespace_bytes i = where_flag i.flags 0x08 (u30_bytes i.protected_namespace)

abbrev pub instance_bytes : InstanceInfo → List ℕ
instance_bytes i =
    u30_bytes i.name ++ u30_bytes i.super_name ++ i.flags ∷ [] ++ protected_namespace_bytes i
    ++ counted u30_bytes i.interfaces ++ u30_bytes i.iinit ++ counted trait_bytes i.traits

abbrev pub class_bytes : ClassInfo → List ℕ
class_bytes c = u30_bytes c.cinit ++ counted trait_bytes c.traits

abbrev pub script_bytes : ScriptInfo → List ℕ
script_bytes s = u30_bytes s.init ++ counted trait_bytes s.traits

abbrev pub exception_bytes : ExceptionInfo → List ℕ
exception_bytes e = u30_bytes e.from ++ u30_bytes e.to ++ u30_bytes e.target ++ u30_bytes e.exc_type ++ u30_bytes e.var_name

abbrev pub body_bytes : MethodBody → List ℕ
body_bytes b =
    u30_bytes b.method ++ u30_bytes b.max_stack ++ u30_bytes b.local_count ++ u30_bytes b.init_scope_depth ++ u30_bytes b.max_scope_depth
    ++ u30_bytes (length b.code) ++ b.code ++ counted exception_bytes b.exceptions ++ counted trait_bytes b.traits

-- the versions 16 and 46, and the tables; there are as many classes as instances, and they have no count of their own
abbrev pub abc_bytes : Abc → List ℕ
abc_bytes a =
    little_bytes 2 16 ++ little_bytes 2 46 ++ pool_bytes a.constant_pool ++ counted method_bytes a.methods ++ counted metadata_bytes a.metadata
    ++ u30_bytes (length a.instances) ++ flat_map instance_bytes a.instances ++ flat_map class_bytes a.classes ++ counted script_bytes a.scripts
    ++ counted body_bytes a.method_bodies

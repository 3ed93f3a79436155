-- A record in any spelling is read, whatever follows it.
use Rattle.std.proofs.Common.{◌≡◌, ℕ, ◌+◌, ◌*◌, ◌/◌, ◌%◌, ◌<◌, List, [], ◌++◌, length, Bool, true, false, Some, Ok, refl, sym, ap, ◌∙◌, arith}
use Rattle.std.specs.Prelude.{All, MatchBool, if◌then◌else◌, ◌==◌}
use Rattle.std.proofs.lemmas.List.{append-nil}
use Rattle.byteorder.specs.Endian.{little_bytes}
use Rattle.flex_base.specs.Split.{Split, Each}
use Rattle.abc_format.specs.Kinds.{trait_code, namespace_kind_byte, namespace_kind_of}
use Rattle.abc_format.specs.Grammar.{IsU30, IsU32, IsS32, IsByte, IsDouble, IsString, IsNamespace, IsMultiname, IsPool, IsOption, AreParamNames, IsMethod, IsItem, IsMetadata, AreTwo, IsValueKind, IsVariable, IsTraitKind, IsTrait, IsInstance, IsClass, IsScript, IsException, IsBody, IsAbc, Exactly, Counted}
use Rattle.abc_format.specs.Indexes.{IsIndex, string_rule, namespace_rule, set_rule, name_rule, interface_rule, method_rule, metadata_rule, class_rule, pool_tables, with_tables, tables_of, NamespaceIndexes, SetIndexes, MultinameIndexes, PoolIndexes, MethodIndexes, MetadataIndexes, TraitKindIndexes, TraitIndexes, InstanceIndexes, ClassIndexes, ScriptIndexes, BodyIndexes, HasIndexes}
use Rattle.abc_format.specs.Fields.{done, place_of, read_byte, read_piece, read_u32, read_index, read_int, read_double, read_string, read_version, times, counted, table, flagged}
use Rattle.abc_format.specs.Reading.{read_namespace_kind, read_namespace, read_set, read_one, read_two, read_name_parts, read_multiname, some_tables, read_pool, read_option, read_method, read_item, read_metadata, read_value_kind, read_variable, read_member, read_trait_parts, read_trait, read_instance, read_class, read_script, read_exception, read_code, read_body, read_head, with_classes, read_classes, read_file, whole, read_abc}
use Rattle.abc_format.specs.declared.reading.traits.Variable.{Variable}
use Rattle.abc_format.specs.declared.records.Abc.{Abc}
use Rattle.abc_format.specs.declared.records.ClassInfo.{ClassInfo}
use Rattle.abc_format.specs.declared.records.ConstantPool.{ConstantPool}
use Rattle.abc_format.specs.declared.records.InstanceInfo.{InstanceInfo}
use Rattle.abc_format.specs.declared.records.Multiname.{Multiname}
use Rattle.abc_format.specs.declared.records.Multiname.TheVariants as multiname
use Rattle.abc_format.specs.declared.records.NamespaceKind.{NamespaceKind}
use Rattle.abc_format.specs.declared.records.NamespaceKind.TheVariants as namespace_kind
use Rattle.abc_format.specs.declared.records.TraitKind.{TraitKind}
use Rattle.abc_format.specs.declared.records.TraitKind.TheVariants as trait_kind
use Rattle.abc_format.specs.declared.tables.IndexRule.{IndexRule}
use Rattle.abc_format.specs.declared.tables.Tables.{Tables}
use Rattle.abc_format.proofs.FieldFronts.{at, Reads, Anything, first-front, unsigned-front, u30-front, index-front, int-front, number-front, entry-front, byte-front, piece-front, double-front, string-front, minor-front, major-front, times-front, counted-front, table-front, flagged-front}

-- each item is anything
all-anything : {A : Type 0} (items : List A) → All Anything items
all-anything items = λ k d lt. tt

kind-front : (kind : NamespaceKind) → namespace_kind_of (namespace_kind_byte kind) ≡ Some kind
unfolding namespace_kind_of
kind-front namespace_kind.Namespace = refl
kind-front namespace_kind.PackageNamespace = refl
kind-front namespace_kind.PackageInternalNs = refl
kind-front namespace_kind.ProtectedNamespace = refl
kind-front namespace_kind.ExplicitNamespace = refl
kind-front namespace_kind.StaticProtectedNs = refl
kind-front namespace_kind.PrivateNs = refl

-- a byte in front
code-front : {Q : List ℕ → Type 0} {byte : ℕ} {bytes : List ℕ} (w : Split (IsByte byte) Q bytes) (size : ℕ) (rest : List ℕ)
    → read_byte (at size (bytes ++ rest)) ≡ done byte (at size (w.back ++ rest))
code-front {Q} {byte} w size rest = first-front read_byte w size (byte-front byte w.front w.first tt size) rest

namespace-front : (t : Tables) → Reads IsNamespace (NamespaceIndexes t) (read_namespace t)
unfolding read_namespace read_namespace_kind
namespace-front t n bytes w is size rest =
    rw (code-front w size rest, kind-front n.kind, index-front (string_rule t) n.name w.back w.second is size rest)

set-front : (t : Tables) → Reads (Counted IsU30) (SetIndexes t) (read_set t)
unfolding read_set
set-front t = counted-front IsU30 (IsIndex (namespace_rule t)) (read_index (namespace_rule t)) (index-front (namespace_rule t))

-- a name of one part
one-front : (name : ℕ → Multiname) (rule : IndexRule) (part : ℕ) (bytes : List ℕ) → IsU30 part bytes → IsIndex rule part → (size : ℕ) (rest : List ℕ)
    → read_one name rule (at size (bytes ++ rest)) ≡ done (name part) (at size rest)
one-front name rule part bytes w is size rest = rw (index-front rule part bytes w is size rest)

-- and of two
two-front : (name : ℕ → ℕ → Multiname) (one other : IndexRule) (first second : ℕ) (bytes : List ℕ) → Split (IsU30 first) (IsU30 second) bytes → IsIndex one first → IsIndex other second
    → (size : ℕ) (rest : List ℕ) → read_two name one other (at size (bytes ++ rest)) ≡ done (name first second) (at size rest)
two-front name one other first second bytes w is that size rest =
    rw (entry-front one w is size rest, index-front other second w.back w.second that size rest)

multiname-front : (t : Tables) → Reads IsMultiname (MultinameIndexes t) (read_multiname t)
unfolding read_multiname read_name_parts
multiname-front t (multiname.QName namespace name) bytes w is size rest =
    rw (code-front w size rest) (two-front (λ a b. multiname.QName a b) (namespace_rule t) (string_rule t) namespace name w.back w.second is.0 is.1 size rest)
multiname-front t (multiname.QNameA namespace name) bytes w is size rest =
    rw (code-front w size rest) (two-front (λ a b. multiname.QNameA a b) (namespace_rule t) (string_rule t) namespace name w.back w.second is.0 is.1 size rest)
multiname-front t (multiname.RtqName name) bytes w is size rest =
    rw (code-front w size rest) (one-front (λ a. multiname.RtqName a) (string_rule t) name w.back w.second is size rest)
multiname-front t (multiname.RtqNameA name) bytes w is size rest =
    rw (code-front w size rest) (one-front (λ a. multiname.RtqNameA a) (string_rule t) name w.back w.second is size rest)
multiname-front t multiname.RtqNameL bytes w is size rest = rw (byte-front 0x11 bytes w tt size rest)
multiname-front t multiname.RtqNameLA bytes w is size rest = rw (byte-front 0x12 bytes w tt size rest)
multiname-front t (multiname.Multiname name namespace_set) bytes w is size rest =
    rw (code-front w size rest) (two-front (λ a b. multiname.Multiname a b) (string_rule t) (set_rule t) name namespace_set w.back w.second is.0 is.1 size rest)
multiname-front t (multiname.MultinameA name namespace_set) bytes w is size rest =
    rw (code-front w size rest) (two-front (λ a b. multiname.MultinameA a b) (string_rule t) (set_rule t) name namespace_set w.back w.second is.0 is.1 size rest)
multiname-front t (multiname.MultinameL namespace_set) bytes w is size rest =
    rw (code-front w size rest) (one-front (λ a. multiname.MultinameL a) (set_rule t) namespace_set w.back w.second is size rest)
multiname-front t (multiname.MultinameLA namespace_set) bytes w is size rest =
    rw (code-front w size rest) (one-front (λ a. multiname.MultinameLA a) (set_rule t) namespace_set w.back w.second is size rest)

pool-front : (p : ConstantPool) (bytes : List ℕ) → IsPool p bytes → PoolIndexes (pool_tables p) p → (size : ℕ) (rest : List ℕ)
    → read_pool (at size (bytes ++ rest)) ≡ done p (at size rest)
unfolding read_pool
pool-front p bytes w is size rest =
    let r1 = w.second in
    let r2 = r1.second in
    let r3 = r2.second in
    let r4 = r3.second in
    let r5 = r4.second in
    let t1 = some_tables (length p.strings) 0 0 in
    let t2 = some_tables (length p.strings) (length p.namespaces) 0 in
    let t3 = some_tables (length p.strings) (length p.namespaces) (length p.namespace_sets) in
    rw (
      first-front (table read_int) w size (table-front IsS32 Anything read_int int-front p.integers w.front w.first (all-anything p.integers) size) rest,
      first-front (table read_u32) r1 size (table-front IsU32 Anything read_u32 unsigned-front p.unsigned_integers r1.front r1.first (all-anything p.unsigned_integers) size) rest,
      first-front (table read_double) r2 size (table-front IsDouble Anything read_double double-front p.doubles r2.front r2.first (all-anything p.doubles) size) rest,
      first-front (table read_string) r3 size (table-front IsString Anything read_string string-front p.strings r3.front r3.first (all-anything p.strings) size) rest,
      first-front (table (read_namespace t1)) r4 size (table-front IsNamespace (NamespaceIndexes t1) (read_namespace t1) (namespace-front t1) p.namespaces r4.front r4.first is.0 size) rest,
      first-front (table (read_set t2)) r5 size (table-front (Counted IsU30) (SetIndexes t2) (read_set t2) (set-front t2) p.namespace_sets r5.front r5.first is.1 size) rest,
      table-front IsMultiname (MultinameIndexes t3) (read_multiname t3) (multiname-front t3) p.multinames r5.back r5.second is.2 size rest,
    )

option-front : Reads IsOption Anything read_option
unfolding read_option
option-front o bytes w is size rest = rw (number-front w size rest, byte-front o.kind w.back w.second tt size rest)

method-front : (t : Tables) → Reads IsMethod (MethodIndexes t) (read_method t)
unfolding read_method
method-front t m bytes w is size rest =
    let r1 = w.second in
    let r2 = r1.second in
    let r3 = r2.second in
    let r4 = r3.second in
    let r5 = r4.second in
    let types = times-front IsU30 (IsIndex (name_rule t)) (read_index (name_rule t)) (index-front (name_rule t)) m.param_types (length m.param_types) refl r2.front r2.first is.1 size in
    let options = flagged-front m.flags 0x08 [] m.options (Counted IsOption m.options) (counted read_option) r5.front r5.first size
    (λ present more. counted-front IsOption Anything read_option option-front m.options r5.front present (all-anything m.options) size more) in
    let names = flagged-front m.flags 0x80 [] m.param_names (AreParamNames m) (times (read_index (string_rule t)) (length m.param_types)) r5.back r5.second size
    (λ present more. times-front IsU30 (IsIndex (string_rule t)) (read_index (string_rule t)) (index-front (string_rule t)) m.param_names (length m.param_types) present.as_many r5.back present.each is.3 size more) in
    rw (
      number-front w size rest,
      entry-front (name_rule t) r1 is.0 size rest,
      first-front (times (read_index (name_rule t)) (length m.param_types)) r2 size types rest,
      entry-front (string_rule t) r3 is.2 size rest,
      code-front r4 size rest,
      first-front (flagged m.flags 0x08 [] (counted read_option)) r5 size options rest,
      names rest,
    )

item-front : Reads IsItem Anything read_item
unfolding read_item
item-front i bytes w is size rest = rw (number-front w size rest, u30-front i.value w.back w.second tt size rest)

metadata-front : (t : Tables) → Reads IsMetadata (MetadataIndexes t) (read_metadata t)
unfolding read_metadata
metadata-front t m bytes w is size rest =
    rw (entry-front (string_rule t) w is size rest, counted-front IsItem Anything read_item item-front m.items w.back w.second (all-anything m.items) size rest)

-- the kind of a default value, where there is one
value_kind-front : (vindex vkind : ℕ) (bytes : List ℕ) → IsValueKind vindex vkind bytes → (size : ℕ) (rest : List ℕ)
    → read_value_kind vindex (at size (bytes ++ rest)) ≡ done vkind (at size rest)
value_kind-front vindex vkind bytes w size rest = by (vindex == 0) w
  where
    by : (b : Bool) → MatchBool b ((bytes ≡ []) × (vkind ≡ 0)) (IsByte vkind bytes)
        → (if b then done 0 (at size (bytes ++ rest)) else read_byte (at size (bytes ++ rest))) ≡ done vkind (at size rest)
    by true w = ap (λ l. done 0 (at size (l ++ rest))) w.0 ∙ ap (λ k. done k (at size rest)) (sym w.1)
    by false w = byte-front vkind bytes w tt size rest

abbrev variable : ℕ → ℕ → ℕ → ℕ → Variable
variable slot_id type_name vindex vkind = record { slot_id = slot_id; type_name = type_name; vindex = vindex; vkind = vkind }

variable-front : (t : Tables) (slot_id type_name vindex vkind : ℕ) (bytes : List ℕ) → IsVariable slot_id type_name vindex vkind bytes → IsIndex (name_rule t) type_name
    → (size : ℕ) (rest : List ℕ) → read_variable t (at size (bytes ++ rest)) ≡ done (variable slot_id type_name vindex vkind) (at size rest)
unfolding read_variable
variable-front t slot_id type_name vindex vkind bytes w is size rest =
    let r1 = w.second in
    let r2 = r1.second in
    rw (number-front w size rest, entry-front (name_rule t) r1 is size rest, number-front r2 size rest, value_kind-front vindex vkind r2.back r2.second size rest)

member-front : (kind : ℕ → ℕ → TraitKind) (rule : IndexRule) (id index : ℕ) (bytes : List ℕ) → AreTwo id index bytes → IsIndex rule index → (size : ℕ) (rest : List ℕ)
    → read_member kind rule (at size (bytes ++ rest)) ≡ done (kind id index) (at size rest)
member-front kind rule id index bytes w is size rest = rw (number-front w size rest, index-front rule index w.back w.second is size rest)

parts-front : (t : Tables) (place : ℕ) (kind : TraitKind) (bytes : List ℕ) → IsTraitKind kind bytes → TraitKindIndexes t kind → (size : ℕ) (rest : List ℕ)
    → read_trait_parts t place (trait_code kind) (at size (bytes ++ rest)) ≡ done kind (at size rest)
unfolding read_trait_parts
parts-front t place (trait_kind.Slot slot_id type_name vindex vkind) bytes w is size rest = rw (variable-front t slot_id type_name vindex vkind bytes w is size rest)
parts-front t place (trait_kind.Method disp_id method) bytes w is size rest = member-front (λ a b. trait_kind.Method a b) (method_rule t) disp_id method bytes w is size rest
parts-front t place (trait_kind.Getter disp_id method) bytes w is size rest = member-front (λ a b. trait_kind.Getter a b) (method_rule t) disp_id method bytes w is size rest
parts-front t place (trait_kind.Setter disp_id method) bytes w is size rest = member-front (λ a b. trait_kind.Setter a b) (method_rule t) disp_id method bytes w is size rest
parts-front t place (trait_kind.Class slot_id class) bytes w is size rest = member-front (λ a b. trait_kind.Class a b) (class_rule t) slot_id class bytes w is size rest
parts-front t place (trait_kind.Function slot_id function) bytes w is size rest = member-front (λ a b. trait_kind.Function a b) (method_rule t) slot_id function bytes w is size rest
parts-front t place (trait_kind.Const slot_id type_name vindex vkind) bytes w is size rest = rw (variable-front t slot_id type_name vindex vkind bytes w is size rest)

code_small : (kind : TraitKind) → trait_code kind < 16
code_small (trait_kind.Slot slot_id type_name vindex vkind) = omega arith
code_small (trait_kind.Method disp_id method) = omega arith
code_small (trait_kind.Getter disp_id method) = omega arith
code_small (trait_kind.Setter disp_id method) = omega arith
code_small (trait_kind.Class slot_id class) = omega arith
code_small (trait_kind.Function slot_id function) = omega arith
code_small (trait_kind.Const slot_id type_name vindex vkind) = omega arith

trait-front : (t : Tables) → Reads IsTrait (TraitIndexes t) (read_trait t)
unfolding read_trait
trait-front t x bytes w is size rest =
    let parts = w.parts in
    let r1 = parts.second in
    let r2 = r1.second in
    let under = code_small x.kind in
    let byte = trait_code x.kind + 16 * x.attributes in
    let low : byte % 16 ≡ trait_code x.kind = omega arith in
    let high : byte / 16 ≡ x.attributes = omega arith in
    let metadata = flagged-front x.attributes 0x04 [] x.metadata (Counted IsU30 x.metadata) (counted (read_index (metadata_rule t))) r2.back r2.second size
    (λ present more. counted-front IsU30 (IsIndex (metadata_rule t)) (read_index (metadata_rule t)) (index-front (metadata_rule t)) x.metadata r2.back present is.2 size more) in
    rw (
      entry-front (name_rule t) parts is.0 size rest,
      code-front r1 size rest,
      low,
      high,
      first-front (read_trait_parts t (place_of (at size (parts.back ++ rest))) (trait_code x.kind)) r2 size
          (parts-front t (place_of (at size (parts.back ++ rest))) x.kind r2.front r2.first is.1 size) rest,
      metadata rest,
    )

traits-front : (t : Tables) → Reads (Counted IsTrait) (All (TraitIndexes t)) (counted (read_trait t))
traits-front t = counted-front IsTrait (TraitIndexes t) (read_trait t) (trait-front t)

instance-front : (t : Tables) → Reads IsInstance (InstanceIndexes t) (read_instance t)
unfolding read_instance
instance-front t i bytes w is size rest =
    let r1 = w.second in
    let r2 = r1.second in
    let r3 = r2.second in
    let r4 = r3.second in
    let r5 = r4.second in
    let protected = flagged-front i.flags 0x08 0 i.protected_namespace (IsU30 i.protected_namespace) (read_index (namespace_rule t)) r3.front r3.first size
    (λ present more. index-front (namespace_rule t) i.protected_namespace r3.front present is.2 size more) in
    let interfaces = counted-front IsU30 (IsIndex (interface_rule t)) (read_index (interface_rule t)) (index-front (interface_rule t)) i.interfaces r4.front r4.first is.3 size in
    rw (
      entry-front (name_rule t) w is.0 size rest,
      entry-front (name_rule t) r1 is.1 size rest,
      code-front r2 size rest,
      first-front (flagged i.flags 0x08 0 (read_index (namespace_rule t))) r3 size protected rest,
      first-front (counted (read_index (interface_rule t))) r4 size interfaces rest,
      entry-front (method_rule t) r5 is.4 size rest,
      traits-front t i.traits r5.back r5.second is.5 size rest,
    )

class-front : (t : Tables) → Reads IsClass (ClassIndexes t) (read_class t)
unfolding read_class
class-front t c bytes w is size rest = rw (entry-front (method_rule t) w is.0 size rest, traits-front t c.traits w.back w.second is.1 size rest)

script-front : (t : Tables) → Reads IsScript (ScriptIndexes t) (read_script t)
unfolding read_script
script-front t s bytes w is size rest = rw (entry-front (method_rule t) w is.0 size rest, traits-front t s.traits w.back w.second is.1 size rest)

exception-front : Reads IsException Anything read_exception
unfolding read_exception
exception-front e bytes w is size rest =
    let r1 = w.second in
    let r2 = r1.second in
    let r3 = r2.second in
    rw (number-front w size rest, number-front r1 size rest, number-front r2 size rest, number-front r3 size rest, u30-front e.var_name r3.back r3.second tt size rest)

body-front : (t : Tables) → Reads IsBody (BodyIndexes t) (read_body t)
unfolding read_body read_code
body-front t b bytes w is size rest =
    let r1 = w.second in
    let r2 = r1.second in
    let r3 = r2.second in
    let r4 = r3.second in
    let r5 = r4.second in
    let r6 = r5.second in
    let r7 = r6.second in
    rw (
      entry-front (method_rule t) w is.0 size rest,
      number-front r1 size rest,
      number-front r2 size rest,
      number-front r3 size rest,
      number-front r4 size rest,
      number-front r5 size rest,
      first-front (read_piece (length b.code)) r6 size (piece-front (length b.code) b.code r6.front refl r6.first size) rest,
      first-front (counted read_exception) r7 size (counted-front IsException Anything read_exception exception-front b.exceptions r7.front r7.first (all-anything b.exceptions) size) rest,
      traits-front t b.traits r7.back r7.second is.1 size rest,
    )

head-front : {P : List ℕ → Type 0} (p : ConstantPool) (bytes : List ℕ) (w : Split (Exactly (little_bytes 2 16)) (Split (Exactly (little_bytes 2 46)) (Split (IsPool p) P)) bytes)
    → PoolIndexes (pool_tables p) p → (size : ℕ) (rest : List ℕ) → read_head (at size (bytes ++ rest)) ≡ done p (at size (w.second.second.back ++ rest))
unfolding read_head
head-front p bytes w is size rest =
    let r1 = w.second in
    let r2 = r1.second in
    rw (
      first-front (read_version 16) w size (minor-front w.front w.first size) rest,
      first-front (read_version 46) r1 size (major-front r1.front r1.first size) rest,
      first-front read_pool r2 size (pool-front p r2.front r2.first is size) rest,
    )

classes-front : {P : List ℕ → Type 0} (t : Tables) (instances : List InstanceInfo) (classes : List ClassInfo) (bytes : List ℕ)
    (w : Split (IsU30 (length instances)) (Split (Each IsInstance instances) (Split (Each IsClass classes) P)) bytes)
    → All (InstanceIndexes (with_classes t (length classes))) instances → All (ClassIndexes (with_classes t (length classes))) classes → length classes ≡ length instances
    → (size : ℕ) (rest : List ℕ) → read_classes t (at size (bytes ++ rest)) ≡ done (record { instances = instances; classes = classes }) (at size (w.second.second.back ++ rest))
unfolding read_classes
classes-front t instances classes bytes w some others as_many size rest =
    let r1 = w.second in
    let r2 = r1.second in
    let u = with_classes t (length classes) in
    rw (
      number-front w size rest,
      ← as_many,
      first-front (times (read_instance u) (length classes)) r1 size
          (times-front IsInstance (InstanceIndexes u) (read_instance u) (instance-front u) instances (length classes) (sym as_many) r1.front r1.first some size) rest,
      first-front (times (read_class u) (length classes)) r2 size
          (times-front IsClass (ClassIndexes u) (read_class u) (class-front u) classes (length classes) refl r2.front r2.first others size) rest,
    )

file-front : Reads IsAbc HasIndexes read_file
unfolding read_file
file-front a bytes w is size rest =
    let parts = w.parts in
    let r3 = parts.second.second.second in
    let r4 = r3.second in
    let r5 = r4.second in
    let r8 = r5.second.second.second in
    let p = pool_tables a.constant_pool in
    let t = tables_of a in
    rw (
      head-front a.constant_pool bytes parts is.constant_pool size rest,
      first-front (counted (read_method p)) r3 size (counted-front IsMethod (MethodIndexes p) (read_method p) (method-front p) a.methods r3.front r3.first is.methods size) rest,
      first-front (counted (read_metadata p)) r4 size (counted-front IsMetadata (MetadataIndexes p) (read_metadata p) (metadata-front p) a.metadata r4.front r4.first is.metadata size) rest,
      classes-front (with_tables a.constant_pool (length a.methods) (length a.metadata) 0) a.instances a.classes r4.back r5 is.instances is.classes w.as_many size rest,
      first-front (counted (read_script t)) r8 size (counted-front IsScript (ScriptIndexes t) (read_script t) (script-front t) a.scripts r8.front r8.first is.scripts size) rest,
      counted-front IsBody (BodyIndexes t) (read_body t) (body-front t) a.method_bodies r8.back r8.second is.method_bodies size rest,
    )

-- all of the bytes
pub abc-front : (a : Abc) (bytes : List ℕ) → IsAbc a bytes → HasIndexes a → read_abc bytes ≡ Ok a
unfolding read_abc
abc-front a bytes w is = ap (λ l. whole (read_file (at (length bytes) l))) (sym (append-nil bytes)) ∙ ap whole (file-front a bytes w is (length bytes) [])

-- The writer's spelling of the records, by their parts.
use Rattle.std.proofs.Common.{◌≡◌, ℕ, ◌+◌, ◌*◌, ◌%◌, ◌<◌, List, [], ◌∷◌, ◌++◌, length, refl, ap, append_assoc}
use Rattle.std.specs.Prelude.{if◌then◌else◌, ◌==◌}
use Rattle.std.specs.List.{flat_map}
use Rattle.std.proofs.Math.Nat.{mod-eq_of_lt}
use Rattle.byteorder.specs.Endian.{little_bytes}
use Rattle.flex_base.specs.Split.{Each}
use Rattle.abc_format.specs.declared.records.Abc.{Abc}
use Rattle.abc_format.specs.declared.records.ConstantPool.{ConstantPool}
use Rattle.abc_format.specs.declared.records.MethodInfo.{MethodInfo}
use Rattle.abc_format.specs.declared.records.InstanceInfo.{InstanceInfo}
use Rattle.abc_format.specs.declared.records.MethodBody.{MethodBody}
use Rattle.abc_format.specs.declared.records.Trait.{Trait}
use Rattle.abc_format.specs.Numbers.{u30_bytes, int_bytes}
use Rattle.abc_writer.specs.Spelling.{counted, table, where_flag, string_bytes_of, namespace_bytes, multiname_bytes, pool_bytes, option_bytes, method_bytes, metadata_bytes, value_bytes, trait_parts, trait_bytes, instance_bytes, class_bytes, script_bytes, exception_bytes, body_bytes, abc_bytes}
use Rattle.abc_format.specs.Kinds.{trait_code}
use Rattle.abc_format.proofs.PartLaws.{joined}
use Rattle.abc_format.specs.Grammar.{IsU30, IsU32, IsS32, WhereFlag, Counted, Table, IsDouble, IsString, IsNamespace, IsMultiname, IsPool, IsOption, AreParamNames, IsMethod, IsMetadata, IsValueKind, IsVariable, IsTraitKind, IsTrait, IsInstance, IsClass, IsScript, IsException, IsBody, IsAbc}

-- seven parts, the last to the right
seven : (a b c d e f g : List ℕ) → (((((a ++ b) ++ c) ++ d) ++ e) ++ f) ++ g ≡ a ++ (b ++ (c ++ (d ++ (e ++ (f ++ g)))))
seven a b c d e f g = simp append_assoc

-- nine parts
nine : (a b c d e f g h i : List ℕ) → (((((((a ++ b) ++ c) ++ d) ++ e) ++ f) ++ g) ++ h) ++ i ≡ a ++ (b ++ (c ++ (d ++ (e ++ (f ++ (g ++ (h ++ i)))))))
nine a b c d e f g h i = simp append_assoc

pub variable-joined :
    (slot_id type_name vindex vkind : ℕ) → IsU30 slot_id (u30_bytes slot_id) → IsU30 type_name (u30_bytes type_name) → IsU30 vindex (u30_bytes vindex)
    → IsValueKind vindex vkind (if vindex == 0 then [] else vkind ∷ [])
    → IsVariable slot_id type_name vindex vkind (u30_bytes slot_id ++ u30_bytes type_name ++ value_bytes vindex vkind)
variable-joined slot_id type_name vindex vkind is_slot is_type is_value kind =
    rw (append_assoc (u30_bytes slot_id) (u30_bytes type_name) (value_bytes vindex vkind))
    (joined (u30_bytes slot_id) _ is_slot (joined (u30_bytes type_name) (value_bytes vindex vkind) is_type
    (joined (u30_bytes vindex) (if vindex == 0 then [] else vkind ∷ []) is_value kind)))

pub pool-joined :
    (p : ConstantPool) → Table IsS32 p.integers (table int_bytes p.integers) → Table IsU32 p.unsigned_integers (table u30_bytes p.unsigned_integers)
    → Table IsDouble p.doubles (table (little_bytes 8) p.doubles) → Table IsString p.strings (table string_bytes_of p.strings)
    → Table IsNamespace p.namespaces (table namespace_bytes p.namespaces) → Table (Counted IsU30) p.namespace_sets (table (counted u30_bytes) p.namespace_sets)
    → Table IsMultiname p.multinames (table multiname_bytes p.multinames) → IsPool p (pool_bytes p)
pool-joined p integers unsigned_integers doubles strings namespaces namespace_sets multinames =
    let a = table int_bytes p.integers in
    let b = table u30_bytes p.unsigned_integers in
    let c = table (little_bytes 8) p.doubles in
    let d = table string_bytes_of p.strings in
    let e = table namespace_bytes p.namespaces in
    let f = table (counted u30_bytes) p.namespace_sets in
    let g = table multiname_bytes p.multinames in
    rw (seven a b c d e f g)
    (joined a _ integers (joined b _ unsigned_integers (joined c _ doubles (joined d _ strings (joined e _ namespaces (joined f _ namespace_sets multinames))))))

pub method-joined :
    (m : MethodInfo) → IsU30 (length m.param_types) (u30_bytes (length m.param_types)) → IsU30 m.return_type (u30_bytes m.return_type)
    → Each IsU30 m.param_types (flat_map u30_bytes m.param_types) → IsU30 m.name (u30_bytes m.name)
    → WhereFlag m.flags 0x08 (m.options ≡ []) (Counted IsOption m.options) (where_flag m.flags 0x08 (counted option_bytes m.options))
    → WhereFlag m.flags 0x80 (m.param_names ≡ []) (AreParamNames m) (where_flag m.flags 0x80 (flat_map u30_bytes m.param_names)) → IsMethod m (method_bytes m)
method-joined m count return_type param_types name options param_names =
    let c = flat_map u30_bytes m.param_types in
    let f = where_flag m.flags 0x08 (counted option_bytes m.options) in
    let g = where_flag m.flags 0x80 (flat_map u30_bytes m.param_names) in
    rw (seven (u30_bytes (length m.param_types)) (u30_bytes m.return_type) c (u30_bytes m.name) (m.flags ∷ []) f g)
    (joined _ _ count (joined _ _ return_type (joined c _ param_types (joined _ _ name (joined (m.flags ∷ []) _ refl (joined f _ options param_names))))))

pub trait-joined :
    (t : Trait) → t.attributes < 16 → IsU30 t.name (u30_bytes t.name) → IsTraitKind t.kind (trait_parts t.kind)
    → WhereFlag t.attributes 0x04 (t.metadata ≡ []) (Counted IsU30 t.metadata) (where_flag t.attributes 0x04 (counted u30_bytes t.metadata)) → IsTrait t (trait_bytes t)
trait-joined t four_bits name kind metadata =
    let byte : List ℕ = (trait_code t.kind + 16 * (t.attributes % 16)) ∷ [] in
    let same : byte ≡ (trait_code t.kind + 16 * t.attributes) ∷ [] = ap (λ n. (trait_code t.kind + 16 * n) ∷ []) (mod-eq_of_lt four_bits) in
    record {
      four_bits = four_bits;
      parts = rw (four (u30_bytes t.name) byte (trait_parts t.kind) (where_flag t.attributes 0x04 (counted u30_bytes t.metadata)))
          (joined _ _ name (joined byte _ same (joined (trait_parts t.kind) _ kind metadata)));
    }
  where
    four : (a b c d : List ℕ) → ((a ++ b) ++ c) ++ d ≡ a ++ (b ++ (c ++ d))
    four a b c d = simp append_assoc

pub instance-joined :
    (i : InstanceInfo) → IsU30 i.name (u30_bytes i.name) → IsU30 i.super_name (u30_bytes i.super_name)
    → WhereFlag i.flags 0x08 (i.protected_namespace ≡ 0) (IsU30 i.protected_namespace) (where_flag i.flags 0x08 (u30_bytes i.protected_namespace))
    → Counted IsU30 i.interfaces (counted u30_bytes i.interfaces) → IsU30 i.iinit (u30_bytes i.iinit) → Counted IsTrait i.traits (counted trait_bytes i.traits)
    → IsInstance i (instance_bytes i)
instance-joined i name super_name protected_namespace interfaces iinit traits =
    let d = where_flag i.flags 0x08 (u30_bytes i.protected_namespace) in
    let e = counted u30_bytes i.interfaces in
    rw (seven (u30_bytes i.name) (u30_bytes i.super_name) (i.flags ∷ []) d e (u30_bytes i.iinit) (counted trait_bytes i.traits))
    (joined _ _ name (joined _ _ super_name (joined (i.flags ∷ []) _ refl (joined d _ protected_namespace (joined e _ interfaces (joined _ _ iinit traits))))))

pub body-joined :
    (b : MethodBody) → IsU30 b.method (u30_bytes b.method) → IsU30 b.max_stack (u30_bytes b.max_stack) → IsU30 b.local_count (u30_bytes b.local_count)
    → IsU30 b.init_scope_depth (u30_bytes b.init_scope_depth) → IsU30 b.max_scope_depth (u30_bytes b.max_scope_depth) → IsU30 (length b.code) (u30_bytes (length b.code))
    → Counted IsException b.exceptions (counted exception_bytes b.exceptions) → Counted IsTrait b.traits (counted trait_bytes b.traits) → IsBody b (body_bytes b)
body-joined b method max_stack local_count init_scope_depth max_scope_depth size exceptions traits =
    let h = counted exception_bytes b.exceptions in
    rw (nine (u30_bytes b.method) (u30_bytes b.max_stack) (u30_bytes b.local_count) (u30_bytes b.init_scope_depth) (u30_bytes b.max_scope_depth)
    (u30_bytes (length b.code)) b.code h (counted trait_bytes b.traits))
    (joined _ _ method (joined _ _ max_stack (joined _ _ local_count (joined _ _ init_scope_depth (joined _ _ max_scope_depth
    (joined _ _ size (joined b.code _ refl (joined h _ exceptions traits))))))))

pub abc-joined :
    (a : Abc) → length a.classes ≡ length a.instances → IsPool a.constant_pool (pool_bytes a.constant_pool) → Counted IsMethod a.methods (counted method_bytes a.methods)
    → Counted IsMetadata a.metadata (counted metadata_bytes a.metadata) → IsU30 (length a.instances) (u30_bytes (length a.instances))
    → Each IsInstance a.instances (flat_map instance_bytes a.instances) → Each IsClass a.classes (flat_map class_bytes a.classes)
    → Counted IsScript a.scripts (counted script_bytes a.scripts) → Counted IsBody a.method_bodies (counted body_bytes a.method_bodies) → IsAbc a (abc_bytes a)
abc-joined a as_many pool methods metadata count instances classes scripts bodies =
    let d = pool_bytes a.constant_pool in
    let e = counted method_bytes a.methods in
    let f = counted metadata_bytes a.metadata in
    let h = flat_map instance_bytes a.instances in
    let i = flat_map class_bytes a.classes in
    let j = counted script_bytes a.scripts in
    record {
      as_many = as_many;
      parts = rw (nine (16 ∷ 0 ∷ 46 ∷ 0 ∷ []) d e f (u30_bytes (length a.instances)) h i j (counted body_bytes a.method_bodies))
          (joined (little_bytes 2 16) _ refl (joined (little_bytes 2 46) _ refl (joined d _ pool (joined e _ methods (joined f _ metadata
          (joined _ _ count (joined h _ instances (joined i _ classes (joined j _ scripts bodies)))))))));
    }

-- A record that is read stands there.
use Rattle.std.proofs.Common.{◌≡◌, ℕ, ◌+◌, ◌*◌, ◌/◌, ◌%◌, List, [], ◌∷◌, ◌++◌, length, Bool, true, false, Option, Some, None, Ok, Err, refl, sym, ap, subst, ◌∙◌, arith, append_assoc}
use Rattle.std.specs.Prelude.{All, MatchBool, if◌then◌else◌, ◌==◌, bit_and}
use Rattle.std.proofs.lemmas.Bool.{eqb-true, le-leb}
use Rattle.std.proofs.lemmas.List.{append-nil}
use Rattle.std.proofs.lemmas.List.Elements.{All-nil}
use Rattle.byteorder.specs.Endian.{little_bytes}
use Rattle.flex_base.specs.Split.{Split, Each}
use Rattle.abc_format.specs.Kinds.{trait_code, namespace_kind_byte, namespace_kind_of, kind_among, namespace_kinds}
use Rattle.abc_format.specs.Grammar.{IsU30, IsU32, IsS32, IsByte, IsDouble, IsString, IsNamespace, IsMultiname, IsPool, IsOption, AreParamNames, IsMethod, IsItem, IsMetadata, AreTwo, IsValueKind, IsVariable, IsTraitKind, IsTrait, IsInstance, IsClass, IsScript, IsException, IsBody, IsAbc, Exactly, Counted, WhereFlag}
use Rattle.abc_format.specs.Indexes.{AreBytes, IsIndex, string_rule, namespace_rule, set_rule, name_rule, interface_rule, method_rule, metadata_rule, class_rule, pool_tables, with_tables, NamespaceIndexes, SetIndexes, MultinameIndexes, PoolIndexes, MethodIndexes, MetadataIndexes, TraitKindIndexes, TraitIndexes, InstanceIndexes, ClassIndexes, ScriptIndexes, BodyIndexes, HasIndexes}
use Rattle.abc_format.specs.Fields.{Cursor, Read, Reading, done, fault_at, place_of, read_byte, read_u32, read_index, read_int, read_double, read_string, times, counted}
use Rattle.abc_format.specs.Reading.{known, read_namespace_kind, read_namespace, read_set, read_one, read_two, read_name_parts, read_multiname, some_tables, read_pool, read_option, read_method, read_item, read_metadata, read_value_kind, read_variable, read_member, read_trait_parts, read_trait, read_instance, read_class, read_script, read_exception, read_code, read_body, read_head, with_classes, read_classes, read_file, whole, start, read_abc}
use Rattle.abc_format.specs.declared.reason.AbcReason.TheVariants as reason
use Rattle.abc_format.specs.declared.reading.Classes.{Classes}
use Rattle.abc_format.specs.declared.records.Abc.{Abc}
use Rattle.abc_format.specs.declared.records.ConstantPool.{ConstantPool}
use Rattle.abc_format.specs.declared.records.MethodInfo.{MethodInfo}
use Rattle.abc_format.specs.declared.records.Multiname.{Multiname}
use Rattle.abc_format.specs.declared.records.Multiname.TheVariants as multiname
use Rattle.abc_format.specs.declared.records.NamespaceKind.{NamespaceKind}
use Rattle.abc_format.specs.declared.records.TraitKind.{TraitKind}
use Rattle.abc_format.specs.declared.records.TraitKind.TheVariants as trait_kind
use Rattle.abc_format.specs.declared.tables.IndexRule.{IndexRule}
use Rattle.abc_format.specs.declared.tables.Tables.{Tables}
use Rattle.abc_format.proofs.FieldFronts.{Anything}
use Rattle.abc_format.proofs.Finding.{Part, then-of, Found, Finds, small, both, read_is, found}
use Rattle.abc_format.proofs.FieldsFound.{passes, unsigned-found, u30-found, index-found, int-found, byte-found, piece-found, double-found, string-found, version-found, times-found, counted-found, table-found, flagged-found}

-- a kind that is found has the byte
among-is : (byte : ℕ) (kinds : List NamespaceKind) (kind : NamespaceKind) → kind_among byte kinds ≡ Some kind → byte ≡ namespace_kind_byte kind
among-is byte [] kind e = cc
among-is byte (first ∷ kinds) kind e = by (λ f. among-is byte kinds kind f) (byte == namespace_kind_byte first) refl e
  where
    by : (kind_among byte kinds ≡ Some kind → byte ≡ namespace_kind_byte kind) → (b : Bool) → (byte == namespace_kind_byte first) ≡ b
        → (if b then Some first else kind_among byte kinds) ≡ Some kind → byte ≡ namespace_kind_byte kind
    by others true f g = let same : first ≡ kind = cc in eqb-true byte (namespace_kind_byte first) f ∙ ap namespace_kind_byte same
    by others false f g = others g

kind-found : Finds (λ kind. IsByte (namespace_kind_byte kind)) Anything read_namespace_kind
unfolding read_namespace_kind namespace_kind_of
kind-found c are x r e =
    let s = then-of _ _ x r e in
    let b = byte-found c are s.it s.rest s.first in
    by s.it s.rest b.part (namespace_kind_of s.it) refl s.last
  where
    by : (byte : ℕ) (m : Cursor) → Part (IsByte byte) c m → (o : Option NamespaceKind) → namespace_kind_of byte ≡ o → known c o m ≡ done x r → Found (λ kind. IsByte (namespace_kind_byte kind)) Anything c x r
    by byte m part None f g = cc
    by byte m part (Some kind) f g =
        found (λ kind. IsByte (namespace_kind_byte kind)) Anything g (subst (λ b. Part (IsByte b) c m) (among-is byte namespace_kinds kind f) part) tt

namespace-found : (t : Tables) → Finds IsNamespace (NamespaceIndexes t) (read_namespace t)
unfolding read_namespace
namespace-found t c are x r e =
    let s1 = then-of _ _ x r e in
    let f1 = kind-found c are s1.it s1.rest s1.first in
    let s2 = then-of _ _ x r s1.last in
    let f2 = index-found (string_rule t) s1.rest (small f1.part are) s2.it s2.rest s2.first in
    found IsNamespace (NamespaceIndexes t) s2.last (both f1.part f2.part) f2.indexes

set-found : (t : Tables) → Finds (Counted IsU30) (SetIndexes t) (read_set t)
unfolding read_set
set-found t = counted-found IsU30 (IsIndex (namespace_rule t)) (read_index (namespace_rule t)) (index-found (namespace_rule t))

-- a name of one part, behind its kind
one-found : (t : Tables) (name : ℕ → Multiname) (rule : IndexRule) (byte : ℕ) → ((n : ℕ) (bytes : List ℕ) → Split (IsByte byte) (IsU30 n) bytes → IsMultiname (name n) bytes)
    → ((n : ℕ) → IsIndex rule n → MultinameIndexes t (name n)) → (c m : Cursor) → Part (IsByte byte) c m → AreBytes m.rest → (x : Multiname) (r : Cursor)
    → read_one name rule m ≡ done x r → Found IsMultiname (MultinameIndexes t) c x r
one-found t name rule byte spells names c m kind are x r e =
    let s = then-of _ _ x r e in
    let f = index-found rule m are s.it s.rest s.first in
    let part = both kind f.part in
    found IsMultiname (MultinameIndexes t) s.last (record { front = part.front; is = part.is; holds = spells s.it part.front part.holds }) (names s.it f.indexes)

-- and of two
two-found : (t : Tables) (name : ℕ → ℕ → Multiname) (one other : IndexRule) (byte : ℕ)
    → ((a b : ℕ) (bytes : List ℕ) → Split (IsByte byte) (Split (IsU30 a) (IsU30 b)) bytes → IsMultiname (name a b) bytes)
    → ((a b : ℕ) → IsIndex one a → IsIndex other b → MultinameIndexes t (name a b)) → (c m : Cursor) → Part (IsByte byte) c m → AreBytes m.rest → (x : Multiname) (r : Cursor)
    → read_two name one other m ≡ done x r → Found IsMultiname (MultinameIndexes t) c x r
two-found t name one other byte spells names c m kind are x r e =
    let s1 = then-of _ _ x r e in
    let f1 = index-found one m are s1.it s1.rest s1.first in
    let s2 = then-of _ _ x r s1.last in
    let f2 = index-found other s1.rest (small f1.part are) s2.it s2.rest s2.first in
    let part = both kind (both f1.part f2.part) in
    found IsMultiname (MultinameIndexes t) s2.last (record { front = part.front; is = part.is; holds = spells s1.it s2.it part.front part.holds }) (names s1.it s2.it f1.indexes f2.indexes)

-- what a kind has of its own
name_parts-found : (t : Tables) (place kind : ℕ) (c m : Cursor) → Part (IsByte kind) c m → AreBytes m.rest → (x : Multiname) (r : Cursor) → read_name_parts t place kind m ≡ done x r
    → Found IsMultiname (MultinameIndexes t) c x r
unfolding read_name_parts
name_parts-found t place kind c m part are x r e =
    passes (kind == 0x07) _ _ x r e (λ is. two-found t (λ a b. multiname.QName a b) (namespace_rule t) (string_rule t) 0x07 (λ a b bytes w. w) (λ a b i j. (i, j)) c m (here 0x07 is) are x r)
    (λ e. passes (kind == 0x0D) _ _ x r e (λ is. two-found t (λ a b. multiname.QNameA a b) (namespace_rule t) (string_rule t) 0x0D (λ a b bytes w. w) (λ a b i j. (i, j)) c m (here 0x0D is) are x r)
    (λ e. passes (kind == 0x0F) _ _ x r e (λ is. one-found t (λ a. multiname.RtqName a) (string_rule t) 0x0F (λ a bytes w. w) (λ a i. i) c m (here 0x0F is) are x r)
    (λ e. passes (kind == 0x10) _ _ x r e (λ is. one-found t (λ a. multiname.RtqNameA a) (string_rule t) 0x10 (λ a bytes w. w) (λ a i. i) c m (here 0x10 is) are x r)
    (λ e. passes (kind == 0x11) _ _ x r e (λ is f. found IsMultiname (MultinameIndexes t) f (here 0x11 is) tt)
    (λ e. passes (kind == 0x12) _ _ x r e (λ is f. found IsMultiname (MultinameIndexes t) f (here 0x12 is) tt)
    (λ e. passes (kind == 0x09) _ _ x r e (λ is. two-found t (λ a b. multiname.Multiname a b) (string_rule t) (set_rule t) 0x09 (λ a b bytes w. w) (λ a b i j. (i, j)) c m (here 0x09 is) are x r)
    (λ e. passes (kind == 0x0E) _ _ x r e (λ is. two-found t (λ a b. multiname.MultinameA a b) (string_rule t) (set_rule t) 0x0E (λ a b bytes w. w) (λ a b i j. (i, j)) c m (here 0x0E is) are x r)
    (λ e. passes (kind == 0x1B) _ _ x r e (λ is. one-found t (λ a. multiname.MultinameL a) (set_rule t) 0x1B (λ a bytes w. w) (λ a i. i) c m (here 0x1B is) are x r)
    (λ e. passes (kind == 0x1C) _ _ x r e (λ is. one-found t (λ a. multiname.MultinameLA a) (set_rule t) 0x1C (λ a bytes w. w) (λ a i. i) c m (here 0x1C is) are x r)
    (λ e. cc))))))))))
  where
    here : (byte : ℕ) → (kind == byte) ≡ true → Part (IsByte byte) c m
    here byte is = subst (λ b. Part (IsByte b) c m) (eqb-true kind byte is) part

multiname-found : (t : Tables) → Finds IsMultiname (MultinameIndexes t) (read_multiname t)
unfolding read_multiname
multiname-found t c are x r e =
    let s = then-of _ _ x r e in
    let f = byte-found c are s.it s.rest s.first in
    name_parts-found t (place_of c) s.it c s.rest f.part (small f.part are) x r s.last

pool-found : Finds IsPool (λ p. PoolIndexes (pool_tables p) p) read_pool
unfolding read_pool
pool-found c are x r e =
    let s1 = then-of _ _ x r e in
    let f1 = table-found IsS32 Anything read_int int-found c are s1.it s1.rest s1.first in
    let a1 = small f1.part are in
    let s2 = then-of _ _ x r s1.last in
    let f2 = table-found IsU32 Anything read_u32 unsigned-found s1.rest a1 s2.it s2.rest s2.first in
    let a2 = small f2.part a1 in
    let s3 = then-of _ _ x r s2.last in
    let f3 = table-found IsDouble Anything read_double double-found s2.rest a2 s3.it s3.rest s3.first in
    let a3 = small f3.part a2 in
    let s4 = then-of _ _ x r s3.last in
    let f4 = table-found IsString Anything read_string string-found s3.rest a3 s4.it s4.rest s4.first in
    let a4 = small f4.part a3 in
    let s5 = then-of _ _ x r s4.last in
    let t5 = some_tables (length s4.it) 0 0 in
    let f5 = table-found IsNamespace (NamespaceIndexes t5) (read_namespace t5) (namespace-found t5) s4.rest a4 s5.it s5.rest s5.first in
    let a5 = small f5.part a4 in
    let s6 = then-of _ _ x r s5.last in
    let t6 = some_tables (length s4.it) (length s5.it) 0 in
    let f6 = table-found (Counted IsU30) (SetIndexes t6) (read_set t6) (set-found t6) s5.rest a5 s6.it s6.rest s6.first in
    let a6 = small f6.part a5 in
    let s7 = then-of _ _ x r s6.last in
    let t7 = some_tables (length s4.it) (length s5.it) (length s6.it) in
    let f7 = table-found IsMultiname (MultinameIndexes t7) (read_multiname t7) (multiname-found t7) s6.rest a6 s7.it s7.rest s7.first in
    found IsPool (λ p. PoolIndexes (pool_tables p) p) s7.last
    (both f1.part (both f2.part (both f3.part (both f4.part (both f5.part (both f6.part f7.part))))))
    (f5.indexes, f6.indexes, f7.indexes)

option-found : Finds IsOption Anything read_option
unfolding read_option
option-found c are x r e =
    let s1 = then-of _ _ x r e in
    let f1 = u30-found c are s1.it s1.rest s1.first in
    let s2 = then-of _ _ x r s1.last in
    let f2 = byte-found s1.rest (small f1.part are) s2.it s2.rest s2.first in
    found IsOption Anything s2.last (both f1.part f2.part) tt

-- names of so many parameters
names-found : (t : Tables) (count : ℕ) → Finds (λ names bytes. Each IsU30 names bytes × (length names ≡ count)) (All (IsIndex (string_rule t))) (times (read_index (string_rule t)) count)
names-found t count c are x r e =
    let w = times-found IsU30 (IsIndex (string_rule t)) (read_index (string_rule t)) (index-found (string_rule t)) count c are x r e in
    record { part = record { front = w.part.front; is = w.part.is; holds = (w.part.holds, w.as_many) }; indexes = w.indexes }

method-found : (t : Tables) → Finds IsMethod (MethodIndexes t) (read_method t)
unfolding read_method
method-found t c are x r e =
    let s1 = then-of _ _ x r e in
    let f1 = u30-found c are s1.it s1.rest s1.first in
    let a1 = small f1.part are in
    let s2 = then-of _ _ x r s1.last in
    let f2 = index-found (name_rule t) s1.rest a1 s2.it s2.rest s2.first in
    let a2 = small f2.part a1 in
    let s3 = then-of _ _ x r s2.last in
    let f3 = times-found IsU30 (IsIndex (name_rule t)) (read_index (name_rule t)) (index-found (name_rule t)) s1.it s2.rest a2 s3.it s3.rest s3.first in
    let a3 = small f3.part a2 in
    let s4 = then-of _ _ x r s3.last in
    let f4 = index-found (string_rule t) s3.rest a3 s4.it s4.rest s4.first in
    let a4 = small f4.part a3 in
    let s5 = then-of _ _ x r s4.last in
    let f5 = byte-found s4.rest a4 s5.it s5.rest s5.first in
    let a5 = small f5.part a4 in
    let s6 = then-of _ _ x r s5.last in
    let f6 = flagged-found (Counted IsOption) (All Anything) s5.it 0x08 [] (counted read_option) (λ k d lt. tt) (counted-found IsOption Anything read_option option-found) s5.rest a5 s6.it s6.rest s6.first in
    let a6 = small f6.part a5 in
    let s7 = then-of _ _ x r s6.last in
    let f7 = flagged-found (λ names bytes. Each IsU30 names bytes × (length names ≡ s1.it)) (All (IsIndex (string_rule t))) s5.it 0x80 [] (times (read_index (string_rule t)) s1.it)
    (All-nil (IsIndex (string_rule t))) (names-found t s1.it) s6.rest a6 s7.it s7.rest s7.first in
    let m : MethodInfo = record { return_type = s2.it; param_types = s3.it; name = s4.it; flags = s5.it; options = s6.it; param_names = s7.it } in
    let names : Part (WhereFlag s5.it 0x80 (s7.it ≡ []) (AreParamNames m)) s6.rest s7.rest =
    record { front = f7.part.front; is = f7.part.is; holds = named m s1.it f3.as_many f7.part.front f7.part.holds } in
    found IsMethod (MethodIndexes t) s7.last
    (both (subst (λ k. Part (IsU30 k) c s1.rest) (sym f3.as_many) f1.part) (both f2.part (both f3.part (both f4.part (both f5.part (both f6.part names))))))
    (f2.indexes, f3.indexes, f4.indexes, f7.indexes)
  where
    named : (m : MethodInfo) (count : ℕ) → length m.param_types ≡ count → (bytes : List ℕ)
        → WhereFlag m.flags 0x80 (m.param_names ≡ []) (λ bytes. Each IsU30 m.param_names bytes × (length m.param_names ≡ count)) bytes
        → WhereFlag m.flags 0x80 (m.param_names ≡ []) (AreParamNames m) bytes
    named m count many bytes w = by (bit_and m.flags 0x80 == 0) w
      where
        by : (b : Bool) → MatchBool b ((bytes ≡ []) × (m.param_names ≡ [])) (Each IsU30 m.param_names bytes × (length m.param_names ≡ count))
            → MatchBool b ((bytes ≡ []) × (m.param_names ≡ [])) (AreParamNames m bytes)
        by true w = w
        by false w = record { as_many = w.1 ∙ sym many; each = w.0 }

item-found : Finds IsItem Anything read_item
unfolding read_item
item-found c are x r e =
    let s1 = then-of _ _ x r e in
    let f1 = u30-found c are s1.it s1.rest s1.first in
    let s2 = then-of _ _ x r s1.last in
    let f2 = u30-found s1.rest (small f1.part are) s2.it s2.rest s2.first in
    found IsItem Anything s2.last (both f1.part f2.part) tt

metadata-found : (t : Tables) → Finds IsMetadata (MetadataIndexes t) (read_metadata t)
unfolding read_metadata
metadata-found t c are x r e =
    let s1 = then-of _ _ x r e in
    let f1 = index-found (string_rule t) c are s1.it s1.rest s1.first in
    let s2 = then-of _ _ x r s1.last in
    let f2 = counted-found IsItem Anything read_item item-found s1.rest (small f1.part are) s2.it s2.rest s2.first in
    found IsMetadata (MetadataIndexes t) s2.last (both f1.part f2.part) f1.indexes

value_kind-found : (vindex : ℕ) → Finds (IsValueKind vindex) Anything (read_value_kind vindex)
value_kind-found vindex c are x r e = by (vindex == 0) e
  where
    by : (b : Bool) → (if b then done 0 c else read_byte c) ≡ done x r → Found (λ (k : ℕ) bytes. MatchBool b ((bytes ≡ []) × (k ≡ 0)) (IsByte k bytes)) Anything c x r
    by true f = found (λ (k : ℕ) bytes. (bytes ≡ []) × (k ≡ 0)) Anything f (record { front = []; is = refl; holds = (refl, refl) }) tt
    by false f = let b = byte-found c are x r f in record { part = b.part; indexes = tt }

variable-found : (t : Tables) → Finds (λ v. IsVariable v.slot_id v.type_name v.vindex v.vkind) (λ v. IsIndex (name_rule t) v.type_name) (read_variable t)
unfolding read_variable
variable-found t c are x r e =
    let s1 = then-of _ _ x r e in
    let f1 = u30-found c are s1.it s1.rest s1.first in
    let a1 = small f1.part are in
    let s2 = then-of _ _ x r s1.last in
    let f2 = index-found (name_rule t) s1.rest a1 s2.it s2.rest s2.first in
    let a2 = small f2.part a1 in
    let s3 = then-of _ _ x r s2.last in
    let f3 = u30-found s2.rest a2 s3.it s3.rest s3.first in
    let a3 = small f3.part a2 in
    let s4 = then-of _ _ x r s3.last in
    let f4 = value_kind-found s3.it s3.rest a3 s4.it s4.rest s4.first in
    found (λ v. IsVariable v.slot_id v.type_name v.vindex v.vkind) (λ v. IsIndex (name_rule t) v.type_name) s4.last (both f1.part (both f2.part (both f3.part f4.part))) f2.indexes

-- what stands behind the byte of a trait's kind, and the code of the kind
record PartsFound (t : Tables) (code : ℕ) (c : Cursor) (x : TraitKind) (r : Cursor) : Type 0 where
  part : Part (IsTraitKind x) c r
  indexes : TraitKindIndexes t x
  is : code ≡ trait_code x

parts_same : (t : Tables) (code : ℕ) (c m r : Cursor) (y x : TraitKind) → done y m ≡ done x r → Part (IsTraitKind y) c m → TraitKindIndexes t y → code ≡ trait_code y → PartsFound t code c x r
parts_same t code c m r y x e part indexes is =
    let f = found IsTraitKind (λ kind. TraitKindIndexes t kind × (code ≡ trait_code kind)) e part (indexes, is) in
    record { part = f.part; indexes = f.indexes.0; is = f.indexes.1 }

member-found : (t : Tables) (code : ℕ) (kind : ℕ → ℕ → TraitKind) (rule : IndexRule) → ((a b : ℕ) (bytes : List ℕ) → AreTwo a b bytes → IsTraitKind (kind a b) bytes)
    → ((a b : ℕ) → IsIndex rule b → TraitKindIndexes t (kind a b)) → ((a b : ℕ) → code ≡ trait_code (kind a b)) → (c : Cursor) → AreBytes c.rest → (x : TraitKind) (r : Cursor)
    → read_member kind rule c ≡ done x r → PartsFound t code c x r
member-found t code kind rule spells names is c are x r e =
    let s1 = then-of _ _ x r e in
    let f1 = u30-found c are s1.it s1.rest s1.first in
    let s2 = then-of _ _ x r s1.last in
    let f2 = index-found rule s1.rest (small f1.part are) s2.it s2.rest s2.first in
    let part = both f1.part f2.part in
    parts_same t code c s2.rest r (kind s1.it s2.it) x s2.last (record { front = part.front; is = part.is; holds = spells s1.it s2.it part.front part.holds }) (names s1.it s2.it f2.indexes) (is s1.it s2.it)

parts-found : (t : Tables) (place code : ℕ) (c : Cursor) → AreBytes c.rest → (x : TraitKind) (r : Cursor) → read_trait_parts t place code c ≡ done x r → PartsFound t code c x r
unfolding read_trait_parts
parts-found t place code c are x r e =
    passes (code == 0) _ _ x r e (λ is f. let s = then-of _ _ x r f in let v = variable-found t c are s.it s.rest s.first in
    parts_same t code c s.rest r (trait_kind.Slot s.it.slot_id s.it.type_name s.it.vindex s.it.vkind) x s.last v.part v.indexes (eqb-true code 0 is))
    (λ e. passes (code == 1) _ _ x r e (λ is. member-found t code (λ a b. trait_kind.Method a b) (method_rule t) (λ a b bytes w. w) (λ a b i. i) (λ a b. eqb-true code 1 is) c are x r)
    (λ e. passes (code == 2) _ _ x r e (λ is. member-found t code (λ a b. trait_kind.Getter a b) (method_rule t) (λ a b bytes w. w) (λ a b i. i) (λ a b. eqb-true code 2 is) c are x r)
    (λ e. passes (code == 3) _ _ x r e (λ is. member-found t code (λ a b. trait_kind.Setter a b) (method_rule t) (λ a b bytes w. w) (λ a b i. i) (λ a b. eqb-true code 3 is) c are x r)
    (λ e. passes (code == 4) _ _ x r e (λ is. member-found t code (λ a b. trait_kind.Class a b) (class_rule t) (λ a b bytes w. w) (λ a b i. i) (λ a b. eqb-true code 4 is) c are x r)
    (λ e. passes (code == 5) _ _ x r e (λ is. member-found t code (λ a b. trait_kind.Function a b) (method_rule t) (λ a b bytes w. w) (λ a b i. i) (λ a b. eqb-true code 5 is) c are x r)
    (λ e. passes (code == 6) _ _ x r e (λ is f. let s = then-of _ _ x r f in let v = variable-found t c are s.it s.rest s.first in
    parts_same t code c s.rest r (trait_kind.Const s.it.slot_id s.it.type_name s.it.vindex s.it.vkind) x s.last v.part v.indexes (eqb-true code 6 is))
    (λ e. cc)))))))

trait-found : (t : Tables) → Finds IsTrait (TraitIndexes t) (read_trait t)
unfolding read_trait
trait-found t c are x r e =
    let s1 = then-of _ _ x r e in
    let f1 = index-found (name_rule t) c are s1.it s1.rest s1.first in
    let a1 = small f1.part are in
    let s2 = then-of _ _ x r s1.last in
    let f2 = byte-found s1.rest a1 s2.it s2.rest s2.first in
    let a2 = small f2.part a1 in
    let s3 = then-of _ _ x r s2.last in
    let f3 = parts-found t (place_of s1.rest) (s2.it % 16) s2.rest a2 s3.it s3.rest s3.first in
    let a3 = small f3.part a2 in
    let s4 = then-of _ _ x r s3.last in
    let f4 = flagged-found (Counted IsU30) (All (IsIndex (metadata_rule t))) (s2.it / 16) 0x04 [] (counted (read_index (metadata_rule t))) (All-nil (IsIndex (metadata_rule t)))
    (counted-found IsU30 (IsIndex (metadata_rule t)) (read_index (metadata_rule t)) (index-found (metadata_rule t))) s3.rest a3 s4.it s4.rest s4.first in
    let byte : s2.it ≡ trait_code s3.it + 16 * (s2.it / 16) = (let whole : s2.it ≡ s2.it % 16 + 16 * (s2.it / 16) = omega arith in whole) ∙ ap (λ (k : ℕ). k + 16 * (s2.it / 16)) f3.is in
    let low = f2.indexes in
    let parts = both f1.part (both (subst (λ b. Part (IsByte b) s1.rest s2.rest) byte f2.part) (both f3.part f4.part)) in
    found IsTrait (TraitIndexes t) s4.last (record { front = parts.front; is = parts.is; holds = record { four_bits = omega arith; parts = parts.holds } }) (f1.indexes, f3.indexes, f4.indexes)

traits-found : (t : Tables) → Finds (Counted IsTrait) (All (TraitIndexes t)) (counted (read_trait t))
traits-found t = counted-found IsTrait (TraitIndexes t) (read_trait t) (trait-found t)

instance-found : (t : Tables) → Finds IsInstance (InstanceIndexes t) (read_instance t)
unfolding read_instance
instance-found t c are x r e =
    let s1 = then-of _ _ x r e in
    let f1 = index-found (name_rule t) c are s1.it s1.rest s1.first in
    let a1 = small f1.part are in
    let s2 = then-of _ _ x r s1.last in
    let f2 = index-found (name_rule t) s1.rest a1 s2.it s2.rest s2.first in
    let a2 = small f2.part a1 in
    let s3 = then-of _ _ x r s2.last in
    let f3 = byte-found s2.rest a2 s3.it s3.rest s3.first in
    let a3 = small f3.part a2 in
    let s4 = then-of _ _ x r s3.last in
    let f4 = flagged-found IsU30 (IsIndex (namespace_rule t)) s3.it 0x08 0 (read_index (namespace_rule t)) (le-leb 0 t.namespaces (omega arith)) (index-found (namespace_rule t)) s3.rest a3 s4.it s4.rest s4.first in
    let a4 = small f4.part a3 in
    let s5 = then-of _ _ x r s4.last in
    let f5 = counted-found IsU30 (IsIndex (interface_rule t)) (read_index (interface_rule t)) (index-found (interface_rule t)) s4.rest a4 s5.it s5.rest s5.first in
    let a5 = small f5.part a4 in
    let s6 = then-of _ _ x r s5.last in
    let f6 = index-found (method_rule t) s5.rest a5 s6.it s6.rest s6.first in
    let a6 = small f6.part a5 in
    let s7 = then-of _ _ x r s6.last in
    let f7 = traits-found t s6.rest a6 s7.it s7.rest s7.first in
    found IsInstance (InstanceIndexes t) s7.last
    (both f1.part (both f2.part (both f3.part (both f4.part (both f5.part (both f6.part f7.part))))))
    (f1.indexes, f2.indexes, f4.indexes, f5.indexes, f6.indexes, f7.indexes)

class-found : (t : Tables) → Finds IsClass (ClassIndexes t) (read_class t)
unfolding read_class
class-found t c are x r e =
    let s1 = then-of _ _ x r e in
    let f1 = index-found (method_rule t) c are s1.it s1.rest s1.first in
    let s2 = then-of _ _ x r s1.last in
    let f2 = traits-found t s1.rest (small f1.part are) s2.it s2.rest s2.first in
    found IsClass (ClassIndexes t) s2.last (both f1.part f2.part) (f1.indexes, f2.indexes)

script-found : (t : Tables) → Finds IsScript (ScriptIndexes t) (read_script t)
unfolding read_script
script-found t c are x r e =
    let s1 = then-of _ _ x r e in
    let f1 = index-found (method_rule t) c are s1.it s1.rest s1.first in
    let s2 = then-of _ _ x r s1.last in
    let f2 = traits-found t s1.rest (small f1.part are) s2.it s2.rest s2.first in
    found IsScript (ScriptIndexes t) s2.last (both f1.part f2.part) (f1.indexes, f2.indexes)

exception-found : Finds IsException Anything read_exception
unfolding read_exception
exception-found c are x r e =
    let s1 = then-of _ _ x r e in
    let f1 = u30-found c are s1.it s1.rest s1.first in
    let a1 = small f1.part are in
    let s2 = then-of _ _ x r s1.last in
    let f2 = u30-found s1.rest a1 s2.it s2.rest s2.first in
    let a2 = small f2.part a1 in
    let s3 = then-of _ _ x r s2.last in
    let f3 = u30-found s2.rest a2 s3.it s3.rest s3.first in
    let a3 = small f3.part a2 in
    let s4 = then-of _ _ x r s3.last in
    let f4 = u30-found s3.rest a3 s4.it s4.rest s4.first in
    let a4 = small f4.part a3 in
    let s5 = then-of _ _ x r s4.last in
    let f5 = u30-found s4.rest a4 s5.it s5.rest s5.first in
    found IsException Anything s5.last (both f1.part (both f2.part (both f3.part (both f4.part f5.part)))) tt

-- code, behind its size
code-found : Finds (λ code. Split (IsU30 (length code)) (Exactly code)) Anything read_code
unfolding read_code
code-found c are x r e =
    let s = then-of _ _ x r e in
    let n = u30-found c are s.it s.rest s.first in
    let p = piece-found s.it s.rest (small n.part are) x r s.last in
    record {
      part = both (subst (λ k. Part (IsU30 k) c s.rest) (sym p.part.holds.size) n.part) (record { front = p.part.front; is = p.part.is; holds = p.part.holds.is });
      indexes = tt;
    }

body-found : (t : Tables) → Finds IsBody (BodyIndexes t) (read_body t)
unfolding read_body
body-found t c are x r e =
    let s1 = then-of _ _ x r e in
    let f1 = index-found (method_rule t) c are s1.it s1.rest s1.first in
    let a1 = small f1.part are in
    let s2 = then-of _ _ x r s1.last in
    let f2 = u30-found s1.rest a1 s2.it s2.rest s2.first in
    let a2 = small f2.part a1 in
    let s3 = then-of _ _ x r s2.last in
    let f3 = u30-found s2.rest a2 s3.it s3.rest s3.first in
    let a3 = small f3.part a2 in
    let s4 = then-of _ _ x r s3.last in
    let f4 = u30-found s3.rest a3 s4.it s4.rest s4.first in
    let a4 = small f4.part a3 in
    let s5 = then-of _ _ x r s4.last in
    let f5 = u30-found s4.rest a4 s5.it s5.rest s5.first in
    let a5 = small f5.part a4 in
    let s6 = then-of _ _ x r s5.last in
    let f6 = code-found s5.rest a5 s6.it s6.rest s6.first in
    let a6 = small f6.part a5 in
    let s7 = then-of _ _ x r s6.last in
    let f7 = counted-found IsException Anything read_exception exception-found s6.rest a6 s7.it s7.rest s7.first in
    let a7 = small f7.part a6 in
    let s8 = then-of _ _ x r s7.last in
    let f8 = traits-found t s7.rest a7 s8.it s8.rest s8.first in
    found IsBody (BodyIndexes t) s8.last
    (both f1.part (both f2.part (both f3.part (both f4.part (both f5.part (behind f6.part (both f7.part f8.part)))))))
    (f1.indexes, f8.indexes)
  where
    -- three parts of which two stand together
    behind : {P Q R : List ℕ → Type 0} {c m r : Cursor} → Part (Split P Q) c m → Part R m r → Part (Split P (Split Q R)) c r
    behind {P} {Q} {R} {c} {m} {r} one other =
        let w = one.holds in
        record {
          front = w.front ++ (w.back ++ other.front);
          is = one.is ∙ ap (λ l. l ++ m.rest) w.is ∙ append_assoc w.front w.back m.rest ∙ ap (λ l. w.front ++ (w.back ++ l)) other.is
              ∙ ap (λ l. w.front ++ l) (sym (append_assoc w.back other.front r.rest)) ∙ sym (append_assoc w.front (w.back ++ other.front) r.rest);
          holds = record {
            front = w.front;
            back = w.back ++ other.front;
            is = refl;
            first = w.first;
            second = record { front = w.back; back = other.front; is = refl; first = w.second; second = other.holds };
          };
        }

-- the versions and the pool
record HeadFound (c : Cursor) (p : ConstantPool) (r : Cursor) : Type 0 where
  behind_minor : Cursor
  behind_major : Cursor
  minor : Part (Exactly (little_bytes 2 16)) c behind_minor
  major : Part (Exactly (little_bytes 2 46)) behind_minor behind_major
  pool : Part (IsPool p) behind_major r
  indexes : PoolIndexes (pool_tables p) p

head-found : (c : Cursor) → AreBytes c.rest → (p : ConstantPool) (r : Cursor) → read_head c ≡ done p r → HeadFound c p r
unfolding read_head
head-found c are p r e =
    let s1 = then-of _ _ p r e in
    let minor = version-found 16 c are s1.it s1.rest s1.first in
    let a1 = small minor are in
    let s2 = then-of _ _ p r s1.last in
    let major = version-found 46 s1.rest a1 s2.it s2.rest s2.first in
    let pool = pool-found s2.rest (small major a1) p r s2.last in
    record { behind_minor = s1.rest; behind_major = s2.rest; minor = minor; major = major; pool = pool.part; indexes = pool.indexes }

-- as many classes as instances
record ClassesFound (t : Tables) (c : Cursor) (x : Classes) (r : Cursor) : Type 0 where
  behind_count : Cursor
  behind_instances : Cursor
  count : Part (IsU30 (length x.instances)) c behind_count
  instances : Part (Each IsInstance x.instances) behind_count behind_instances
  classes : Part (Each IsClass x.classes) behind_instances r
  as_many : length x.classes ≡ length x.instances
  instance_indexes : All (InstanceIndexes (with_classes t (length x.classes))) x.instances
  class_indexes : All (ClassIndexes (with_classes t (length x.classes))) x.classes

classes-found : (t : Tables) (c : Cursor) → AreBytes c.rest → (x : Classes) (r : Cursor) → read_classes t c ≡ done x r → ClassesFound t c x r
unfolding read_classes
classes-found t c are x r e =
    let s1 = then-of _ _ x r e in
    let n = u30-found c are s1.it s1.rest s1.first in
    let a1 = small n.part are in
    let u = with_classes t s1.it in
    let s2 = then-of _ _ x r s1.last in
    let i = times-found IsInstance (InstanceIndexes u) (read_instance u) (instance-found u) s1.it s1.rest a1 s2.it s2.rest s2.first in
    let s3 = then-of _ _ x r s2.last in
    let k = times-found IsClass (ClassIndexes u) (read_class u) (class-found u) s1.it s2.rest (small i.part a1) s3.it s3.rest s3.first in
    let both_found : ClassesFound t c (record { instances = s2.it; classes = s3.it }) s3.rest = record {
      behind_count = s1.rest;
      behind_instances = s2.rest;
      count = subst (λ j. Part (IsU30 j) c s1.rest) (sym i.as_many) n.part;
      instances = i.part;
      classes = k.part;
      as_many = k.as_many ∙ sym i.as_many;
      instance_indexes = subst (λ j. All (InstanceIndexes (with_classes t j)) s2.it) (sym k.as_many) i.indexes;
      class_indexes = subst (λ j. All (ClassIndexes (with_classes t j)) s3.it) (sym k.as_many) k.indexes;
    } in
    subst (λ (read : Read Classes). ClassesFound t c read.it read.rest) (read_is (record { it = record { instances = s2.it; classes = s3.it }; rest = s3.rest }) (record { it = x; rest = r }) s3.last) both_found

file-found : Finds IsAbc HasIndexes read_file
unfolding read_file
file-found c are x r e =
    let s1 = then-of _ _ x r e in
    let f1 = head-found c are s1.it s1.rest s1.first in
    let a1 = small f1.pool (small f1.major (small f1.minor are)) in
    let p = pool_tables s1.it in
    let s2 = then-of _ _ x r s1.last in
    let f2 = counted-found IsMethod (MethodIndexes p) (read_method p) (method-found p) s1.rest a1 s2.it s2.rest s2.first in
    let a2 = small f2.part a1 in
    let s3 = then-of _ _ x r s2.last in
    let f3 = counted-found IsMetadata (MetadataIndexes p) (read_metadata p) (metadata-found p) s2.rest a2 s3.it s3.rest s3.first in
    let a3 = small f3.part a2 in
    let s4 = then-of _ _ x r s3.last in
    let f4 = classes-found (with_tables s1.it (length s2.it) (length s3.it) 0) s3.rest a3 s4.it s4.rest s4.first in
    let a4 = small f4.classes (small f4.instances (small f4.count a3)) in
    let t = with_tables s1.it (length s2.it) (length s3.it) (length s4.it.classes) in
    let s5 = then-of _ _ x r s4.last in
    let f5 = counted-found IsScript (ScriptIndexes t) (read_script t) (script-found t) s4.rest a4 s5.it s5.rest s5.first in
    let a5 = small f5.part a4 in
    let s6 = then-of _ _ x r s5.last in
    let f6 = counted-found IsBody (BodyIndexes t) (read_body t) (body-found t) s5.rest a5 s6.it s6.rest s6.first in
    let parts = both f1.minor (both f1.major (both f1.pool (both f2.part (both f3.part (both f4.count (both f4.instances (both f4.classes (both f5.part f6.part)))))))) in
    found IsAbc HasIndexes s6.last
    (record { front = parts.front; is = parts.is; holds = record { as_many = f4.as_many; parts = parts.holds } })
    (record {
      constant_pool = f1.indexes;
      methods = f2.indexes;
      metadata = f3.indexes;
      instances = f4.instance_indexes;
      classes = f4.class_indexes;
      scripts = f5.indexes;
      method_bodies = f6.indexes;
    })

-- nothing is left
empty_is : (bytes : List ℕ) → length bytes ≡ 0 → bytes ≡ []
empty_is [] e = refl
empty_is (byte ∷ bytes) e = absurd (omega arith)

-- all of the bytes
pub abc-found : (a : Abc) (bytes : List ℕ) → AreBytes bytes → read_abc bytes ≡ Ok a → IsAbc a bytes × HasIndexes a
unfolding read_abc
abc-found a bytes are e = by (read_file (start bytes)) refl e
  where
    by : (o : Reading Abc) → read_file (start bytes) ≡ o → whole o ≡ Ok a → IsAbc a bytes × HasIndexes a
    by (Err fault) f g = cc
    by (Ok file) f g = ending (length file.rest.rest == 0) refl g
      where
        ending : (b : Bool) → (length file.rest.rest == 0) ≡ b → (if b then Ok file.it else Err (fault_at file.rest reason.Trailing)) ≡ Ok a → IsAbc a bytes × HasIndexes a
        ending true h i =
            let w = file-found (start bytes) are file.it file.rest f in
            let none = empty_is file.rest.rest (eqb-true (length file.rest.rest) 0 h) in
            let is : w.part.front ≡ bytes = sym (append-nil w.part.front) ∙ ap (λ l. w.part.front ++ l) (sym none) ∙ sym w.part.is in
            let same : file.it ≡ a = cc in
            subst (λ b. IsAbc b bytes × HasIndexes b) same (subst (IsAbc file.it) is w.part.holds, w.indexes)
        ending false h i = cc

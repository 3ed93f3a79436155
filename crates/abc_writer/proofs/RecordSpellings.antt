-- Records that some bytes stand for stand for the bytes in the writer's spelling too.
use Rattle.std.proofs.Common.{◌≡◌, ℕ, ◌+◌, ◌<◌, List, [], ◌∷◌, ◌++◌, length, Bool, true, false, refl, subst, arith, append_assoc}
use Rattle.std.specs.Prelude.{All, MatchBool, if◌then◌else◌, ◌==◌, bit_and, FitsSigned}
use Rattle.std.specs.Int.{w32}
use Rattle.std.specs.List.{flat_map}
use Rattle.std.proofs.Math.Facts.{sfits_to_z}
use Rattle.std.proofs.lemmas.List.Elements.{All-head, All-tail, All-nil, All-cons}
use Rattle.byteorder.specs.Endian.{little_bytes}
use Rattle.flex_base.specs.Split.{Split, Each}
use Rattle.abc_format.specs.declared.records.Abc.{Abc}
use Rattle.abc_format.specs.declared.records.Multiname.TheVariants as multiname
use Rattle.abc_format.specs.declared.records.TraitKind.TheVariants as trait_kind
use Rattle.abc_format.specs.Numbers.{u30_bytes, int_bytes}
use Rattle.abc_writer.specs.Spelling.{counted, table, table_count, where_flag, string_bytes_of, namespace_bytes, multiname_bytes, pool_bytes, option_bytes, method_bytes, item_bytes, metadata_bytes, value_bytes, trait_parts, trait_bytes, instance_bytes, class_bytes, script_bytes, exception_bytes, body_bytes, abc_bytes}
use Rattle.abc_format.specs.Grammar.{IsU32, IsU30, IsS32, Exactly, WhereFlag, Counted, IsTableCount, Table, IsDouble, IsString, IsNamespace, IsMultiname, IsPool, IsOption, AreParamNames, IsMethod, IsItem, IsMetadata, IsVariable, IsTraitKind, IsTrait, IsInstance, IsClass, IsScript, IsException, IsBody, IsAbc}
use Rattle.abc_format.specs.Kinds.{namespace_kind_byte}
use Rattle.abc_format.proofs.SpellingLaws.{spelled, u30-spelled, int-spelled}
use Rattle.abc_format.proofs.PartLaws.{joined}
use Rattle.abc_writer.proofs.RecordParts.{variable-joined, pool-joined, method-joined, trait-joined, instance-joined, body-joined, abc-joined}

-- what some bytes stand for the written bytes stand for
abbrev Respells : {A : Type 0} → (A → List ℕ → Type 0) → (A → List ℕ) → Type 0
Respells {A} P write = (x : A) (bytes : List ℕ) → P x bytes → P x (write x)

u30-respelled : {n : ℕ} {bytes : List ℕ} → IsU30 n bytes → IsU30 n (u30_bytes n)
u30-respelled {n} w = u30-spelled n w.below

u32-respelled : Respells IsU32 u30_bytes
u32-respelled n bytes w = record { below = w.below; spelled = spelled n w.below }

int-respelled : Respells IsS32 int_bytes
int-respelled z bytes w = int-spelled z (subst (FitsSigned w32) w.is (sfits_to_z (record { fits = w.spelled.below })))

number-respelled : Respells IsU30 u30_bytes
number-respelled n bytes w = u30-respelled w

-- each item
pub each-spelled : {A : Type 0} (P : A → List ℕ → Type 0) (write : A → List ℕ) (items : List A) → All (λ x. P x (write x)) items → Each P items (flat_map write items)
each-spelled P write [] all = refl
each-spelled P write (x ∷ xs) all =
    joined (write x) (flat_map write xs) (All-head (λ y. P y (write y)) x xs all) (each-spelled P write xs (All-tail (λ y. P y (write y)) x xs all))

pub counted-spelled : {A : Type 0} (P : A → List ℕ → Type 0) (write : A → List ℕ) (items : List A) → length items < 1073741824 → All (λ x. P x (write x)) items
    → Counted P items (counted write items)
counted-spelled P write items few all = joined (u30_bytes (length items)) (flat_map write items) (u30-spelled (length items) few) (each-spelled P write items all)

-- the count of a table
table_count-spelled : {A : Type 0} (items : List A) → length items < 1073741823 → IsTableCount (length items) (u30_bytes (table_count items))
table_count-spelled [] lt = record { count = 0; spelled = u30-spelled 0 (omega arith); is = refl }
table_count-spelled (x ∷ xs) lt = record { count = length (x ∷ xs) + 1; spelled = u30-spelled (length (x ∷ xs) + 1) (omega arith); is = omega arith }

pub table-spelled : {A : Type 0} (P : A → List ℕ → Type 0) (write : A → List ℕ) (items : List A) → length items < 1073741823 → All (λ x. P x (write x)) items
    → Table P items (table write items)
table-spelled P write items few all = joined (u30_bytes (table_count items)) (flat_map write items) (table_count-spelled items few) (each-spelled P write items all)

-- the same of items that some bytes stand for
all-respelled : {A : Type 0} (P : A → List ℕ → Type 0) (write : A → List ℕ) → Respells P write → (items : List A) (bytes : List ℕ) → Each P items bytes
    → All (λ x. P x (write x)) items
all-respelled P write again [] bytes w = All-nil (λ y. P y (write y))
all-respelled P write again (x ∷ xs) bytes w =
    All-cons (λ y. P y (write y)) x xs (again x w.front w.first) (all-respelled P write again xs w.back w.second)

each-respelled : {A : Type 0} (P : A → List ℕ → Type 0) (write : A → List ℕ) → Respells P write → (items : List A) (bytes : List ℕ) → Each P items bytes
    → Each P items (flat_map write items)
each-respelled P write again items bytes w = each-spelled P write items (all-respelled P write again items bytes w)

counted-respelled : {A : Type 0} (P : A → List ℕ → Type 0) (write : A → List ℕ) → Respells P write → Respells (Counted P) (counted write)
counted-respelled P write again items bytes w = counted-spelled P write items w.first.below (all-respelled P write again items w.back w.second)

table-respelled : {A : Type 0} (P : A → List ℕ → Type 0) (write : A → List ℕ) → Respells P write → Respells (Table P) (table write)
table-respelled P write again items bytes w =
    let count = w.first in
    let below = count.spelled.below in
    let is = count.is in
    table-spelled P write items (omega arith) (all-respelled P write again items w.back w.second)

-- what stands only where a byte has a flag
choice-respelled : (b : Bool) (absent : Type 0) (P : List ℕ → Type 0) (bytes written : List ℕ) → (P bytes → P written) → MatchBool b ((bytes ≡ []) × absent) (P bytes)
    → MatchBool b (((if b then [] else written) ≡ []) × absent) (P (if b then [] else written))
choice-respelled true absent P bytes written again w = (refl, w.1)
choice-respelled false absent P bytes written again w = again w

flag-respelled : (flags flag : ℕ) (absent : Type 0) (P : List ℕ → Type 0) (bytes written : List ℕ) → (P bytes → P written) → WhereFlag flags flag absent P bytes
    → WhereFlag flags flag absent P (where_flag flags flag written)
flag-respelled flags flag = choice-respelled (bit_and flags flag == 0)

double-respelled : Respells IsDouble (little_bytes 8)
double-respelled double bytes w = record { fits = w.fits; is = refl }

string-respelled : Respells IsString string_bytes_of
string-respelled text bytes w = record { valid = w.valid; sized = joined (u30_bytes (length text)) text (u30-respelled w.sized.first) refl }

namespace-respelled : Respells IsNamespace namespace_bytes
namespace-respelled n bytes w = joined (namespace_kind_byte n.kind ∷ []) (u30_bytes n.name) refl (u30-respelled w.second)

-- a kind, and a number
one-respelled : (kind n : ℕ) {bytes : List ℕ} → IsU30 n bytes → Split (Exactly (kind ∷ [])) (IsU30 n) (kind ∷ u30_bytes n)
one-respelled kind n w = joined (kind ∷ []) (u30_bytes n) refl (u30-respelled w)

two-respelled : (first second : ℕ) (bytes : List ℕ) → Split (IsU30 first) (IsU30 second) bytes → Split (IsU30 first) (IsU30 second) (u30_bytes first ++ u30_bytes second)
two-respelled first second bytes w = joined (u30_bytes first) (u30_bytes second) (u30-respelled w.first) (u30-respelled w.second)

-- a kind, and two numbers
kind_two-respelled : (kind first second : ℕ) (bytes : List ℕ) → Split (Exactly (kind ∷ [])) (Split (IsU30 first) (IsU30 second)) bytes
    → Split (Exactly (kind ∷ [])) (Split (IsU30 first) (IsU30 second)) (kind ∷ (u30_bytes first ++ u30_bytes second))
kind_two-respelled kind first second bytes w = joined (kind ∷ []) (u30_bytes first ++ u30_bytes second) refl (two-respelled first second w.back w.second)

multiname-respelled : Respells IsMultiname multiname_bytes
multiname-respelled (multiname.QName namespace name) bytes w = kind_two-respelled 0x07 namespace name bytes w
multiname-respelled (multiname.QNameA namespace name) bytes w = kind_two-respelled 0x0D namespace name bytes w
multiname-respelled (multiname.RtqName name) bytes w = one-respelled 0x0F name w.second
multiname-respelled (multiname.RtqNameA name) bytes w = one-respelled 0x10 name w.second
multiname-respelled multiname.RtqNameL bytes w = refl
multiname-respelled multiname.RtqNameLA bytes w = refl
multiname-respelled (multiname.Multiname name namespace_set) bytes w = kind_two-respelled 0x09 name namespace_set bytes w
multiname-respelled (multiname.MultinameA name namespace_set) bytes w = kind_two-respelled 0x0E name namespace_set bytes w
multiname-respelled (multiname.MultinameL namespace_set) bytes w = one-respelled 0x1B namespace_set w.second
multiname-respelled (multiname.MultinameLA namespace_set) bytes w = one-respelled 0x1C namespace_set w.second

pool-respelled : Respells IsPool pool_bytes
pool-respelled p bytes w =
    let r1 = w.second in
    let r2 = r1.second in
    let r3 = r2.second in
    let r4 = r3.second in
    let r5 = r4.second in
    pool-joined p
    (table-respelled IsS32 int_bytes int-respelled p.integers w.front w.first)
    (table-respelled IsU32 u30_bytes u32-respelled p.unsigned_integers r1.front r1.first)
    (table-respelled IsDouble (little_bytes 8) double-respelled p.doubles r2.front r2.first)
    (table-respelled IsString string_bytes_of string-respelled p.strings r3.front r3.first)
    (table-respelled IsNamespace namespace_bytes namespace-respelled p.namespaces r4.front r4.first)
    (table-respelled (Counted IsU30) (counted u30_bytes) (counted-respelled IsU30 u30_bytes number-respelled) p.namespace_sets r5.front r5.first)
    (table-respelled IsMultiname multiname_bytes multiname-respelled p.multinames r5.back r5.second)

option-respelled : Respells IsOption option_bytes
option-respelled o bytes w = joined (u30_bytes o.value) (o.kind ∷ []) (u30-respelled w.first) refl

method-respelled : Respells IsMethod method_bytes
method-respelled m bytes w =
    let r1 = w.second in
    let r2 = r1.second in
    let r3 = r2.second in
    let r5 = r3.second.second in
    let named : AreParamNames m r5.back → AreParamNames m (flat_map u30_bytes m.param_names) =
    λ names. record { as_many = names.as_many; each = each-respelled IsU30 u30_bytes number-respelled m.param_names r5.back names.each } in
    method-joined m
    (u30-respelled w.first)
    (u30-respelled r1.first)
    (each-respelled IsU30 u30_bytes number-respelled m.param_types r2.front r2.first)
    (u30-respelled r3.first)
    (flag-respelled m.flags 0x08 (m.options ≡ []) (Counted IsOption m.options) r5.front (counted option_bytes m.options)
    (counted-respelled IsOption option_bytes option-respelled m.options r5.front) r5.first)
    (flag-respelled m.flags 0x80 (m.param_names ≡ []) (AreParamNames m) r5.back (flat_map u30_bytes m.param_names) named r5.second)

item-respelled : Respells IsItem item_bytes
item-respelled i bytes w = two-respelled i.key i.value bytes w

metadata-respelled : Respells IsMetadata metadata_bytes
metadata-respelled m bytes w =
    joined (u30_bytes m.name) (counted item_bytes m.items) (u30-respelled w.first) (counted-respelled IsItem item_bytes item-respelled m.items w.back w.second)

variable-respelled : (slot_id type_name vindex vkind : ℕ) (bytes : List ℕ) → IsVariable slot_id type_name vindex vkind bytes
    → IsVariable slot_id type_name vindex vkind (u30_bytes slot_id ++ u30_bytes type_name ++ value_bytes vindex vkind)
variable-respelled slot_id type_name vindex vkind bytes w =
    let r1 = w.second in
    let r2 = r1.second in
    variable-joined slot_id type_name vindex vkind (u30-respelled w.first) (u30-respelled r1.first) (u30-respelled r2.first)
    (choice-respelled (vindex == 0) (vkind ≡ 0) (Exactly (vkind ∷ [])) r2.back (vkind ∷ []) (λ e. refl) r2.second)

kind-respelled : Respells IsTraitKind trait_parts
kind-respelled (trait_kind.Slot slot_id type_name vindex vkind) bytes w = variable-respelled slot_id type_name vindex vkind bytes w
kind-respelled (trait_kind.Method disp_id method) bytes w = two-respelled disp_id method bytes w
kind-respelled (trait_kind.Getter disp_id method) bytes w = two-respelled disp_id method bytes w
kind-respelled (trait_kind.Setter disp_id method) bytes w = two-respelled disp_id method bytes w
kind-respelled (trait_kind.Class slot_id class) bytes w = two-respelled slot_id class bytes w
kind-respelled (trait_kind.Function slot_id function) bytes w = two-respelled slot_id function bytes w
kind-respelled (trait_kind.Const slot_id type_name vindex vkind) bytes w = variable-respelled slot_id type_name vindex vkind bytes w

trait-respelled : Respells IsTrait trait_bytes
trait-respelled t bytes w =
    let parts = w.parts in
    let r2 = parts.second.second in
    trait-joined t w.four_bits (u30-respelled parts.first) (kind-respelled t.kind r2.front r2.first)
    (flag-respelled t.attributes 0x04 (t.metadata ≡ []) (Counted IsU30 t.metadata) r2.back (counted u30_bytes t.metadata)
    (counted-respelled IsU30 u30_bytes number-respelled t.metadata r2.back) r2.second)

traits-respelled : Respells (Counted IsTrait) (counted trait_bytes)
traits-respelled = counted-respelled IsTrait trait_bytes trait-respelled

instance-respelled : Respells IsInstance instance_bytes
instance-respelled i bytes w =
    let r1 = w.second in
    let r3 = r1.second.second in
    let r4 = r3.second in
    let r5 = r4.second in
    instance-joined i
    (u30-respelled w.first)
    (u30-respelled r1.first)
    (flag-respelled i.flags 0x08 (i.protected_namespace ≡ 0) (IsU30 i.protected_namespace) r3.front (u30_bytes i.protected_namespace) u30-respelled r3.first)
    (counted-respelled IsU30 u30_bytes number-respelled i.interfaces r4.front r4.first)
    (u30-respelled r5.first)
    (traits-respelled i.traits r5.back r5.second)

class-respelled : Respells IsClass class_bytes
class-respelled c bytes w = joined (u30_bytes c.cinit) (counted trait_bytes c.traits) (u30-respelled w.first) (traits-respelled c.traits w.back w.second)

script-respelled : Respells IsScript script_bytes
script-respelled s bytes w = joined (u30_bytes s.init) (counted trait_bytes s.traits) (u30-respelled w.first) (traits-respelled s.traits w.back w.second)

exception-respelled : Respells IsException exception_bytes
exception-respelled e bytes w =
    let r1 = w.second in
    let r2 = r1.second in
    simp append_assoc
    (joined (u30_bytes e.from) _ (u30-respelled w.first) (joined (u30_bytes e.to) _ (u30-respelled r1.first)
    (joined (u30_bytes e.target) _ (u30-respelled r2.first) (two-respelled e.exc_type e.var_name r2.back r2.second))))

body-respelled : Respells IsBody body_bytes
body-respelled b bytes w =
    let r1 = w.second in
    let r2 = r1.second in
    let r3 = r2.second in
    let r4 = r3.second in
    let r5 = r4.second in
    let r7 = r5.second.second in
    body-joined b
    (u30-respelled w.first)
    (u30-respelled r1.first)
    (u30-respelled r2.first)
    (u30-respelled r3.first)
    (u30-respelled r4.first)
    (u30-respelled r5.first)
    (counted-respelled IsException exception_bytes exception-respelled b.exceptions r7.front r7.first)
    (traits-respelled b.traits r7.back r7.second)

pub respelled : (a : Abc) (bytes : List ℕ) → IsAbc a bytes → IsAbc a (abc_bytes a)
respelled a bytes w =
    let r2 = w.parts.second.second in
    let r3 = r2.second in
    let r4 = r3.second in
    let r5 = r4.second in
    let r6 = r5.second in
    let r7 = r6.second in
    let r8 = r7.second in
    abc-joined a w.as_many
    (pool-respelled a.constant_pool r2.front r2.first)
    (counted-respelled IsMethod method_bytes method-respelled a.methods r3.front r3.first)
    (counted-respelled IsMetadata metadata_bytes metadata-respelled a.metadata r4.front r4.first)
    (u30-respelled r5.first)
    (each-respelled IsInstance instance_bytes instance-respelled a.instances r6.front r6.first)
    (each-respelled IsClass class_bytes class-respelled a.classes r7.front r7.first)
    (counted-respelled IsScript script_bytes script-respelled a.scripts r8.front r8.first)
    (counted-respelled IsBody body_bytes body-respelled a.method_bodies r8.back r8.second)

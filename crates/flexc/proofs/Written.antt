-- The written bytes of the ABC of a document stand for it.
use Rattle.std.proofs.Common.{ℕ, ◌+◌, ◌*◌, ◌<◌, ◌≤◌, List, [], ◌∷◌, ◌++◌, length, refl, arith}
use Rattle.std.specs.Prelude.{All, pos, ℤ}
use Rattle.std.specs.Int.{w32}
use Rattle.std.specs.List.{flat_map}
use Rattle.std.proofs.lemmas.Int.{fits_signed_from_abs}
use Rattle.std.proofs.lemmas.List.Elements.{All-nil, All-cons, All-from_recursion}
use Rattle.byteorder.specs.Endian.{little_bytes}
use Rattle.abc_format.specs.Numbers.{u30_bytes, int_bytes}
use Rattle.abc_format.specs.Kinds.{namespace_kind_byte}
use Rattle.abc_writer.specs.Spelling.{counted, table, string_bytes_of, namespace_bytes, multiname_bytes, pool_bytes, method_bytes, item_bytes, metadata_bytes, trait_bytes, instance_bytes, class_bytes, script_bytes, exception_bytes, body_bytes, abc_bytes}
use Rattle.abc_format.specs.Grammar.{IsU30, IsU32, IsS32, IsDouble, Counted, Table, IsString, IsNamespace, IsMultiname, IsPool, IsMethod, IsItem, IsMetadata, IsTrait, IsInstance, IsClass, IsScript, IsException, IsBody, IsAbc}
use Rattle.abc_format.specs.declared.records.NamespaceKind.{NamespaceKind}
use Rattle.abc_format.specs.declared.records.NamespaceKind.TheVariants as space_kind
use Rattle.abc_format.proofs.PartLaws.{joined}
use Rattle.abc_writer.proofs.RecordParts.{variable-joined, pool-joined, method-joined, trait-joined, instance-joined, body-joined, abc-joined}
use Rattle.abc_format.proofs.SpellingLaws.{u30-spelled, int-spelled}
use Rattle.abc_writer.proofs.RecordSpellings.{each-spelled, counted-spelled, table-spelled}
use Rattle.flex_front.specs.declared.document.Element.{Element}
use Rattle.flex_front.specs.Source.{IsShort}
use Rattle.avm2_code.specs.declared.instruction.Instruction.TheVariants.{ReturnVoid}
use Rattle.flexc.specs.Emitted.{encode_all, each_from, each_handler, class_number, fixed_names, element_names, fixed_strings, element_strings, namespaces, id_name, id_trait, building_trait, handler_name, handler_trait, handler_number, class_trait, plain_method, handler_method, methods_of, bindable, class_info, script_info, instance_of, instance_traits, script_code, constructor_code, building_code, handler_code, body, handler_body, bodies_of, pool_of, abc_of}
use Rattle.flexc.proofs.Encodable.{class_number-low}
use Rattle.flexc.proofs.Sizes.{Within, each_from-length, each_from-all, each_handler-length, each_handler-all}
use Rattle.flexc.proofs.WrittenSize.{IsBrief, encode_all-within, building_code-within, instance_traits-length, instance_traits-all, names-length, names-all, strings-length, strings-brief, abc-within}

-- the ABC of a document isn't long
pub length-abc_bytes : (es : List Element) → length es ≤ 100 → All IsShort es → length (abc_bytes (abc_of es)) ≤ 1000000
length-abc_bytes es few short = let w = abc-within es few short in let h = w.within in omega arith

-- the written bytes of an item stand for it
abbrev IsSpelled : {A : Type 0} → (A → List ℕ → Type 0) → (A → List ℕ) → A → Type 0
IsSpelled P write x = P x (write x)

-- a low number is a u30
low : (n : ℕ) → n < 1000 → IsU30 n (u30_bytes n)
low n lt = u30-spelled n (omega arith)

-- a table and a list of none
empty_table : {A : Type 0} (P : A → List ℕ → Type 0) (write : A → List ℕ) → Table P [] (table write [])
empty_table P write = table-spelled P write [] (omega arith) (All-nil (IsSpelled P write))

empty_list : {A : Type 0} (P : A → List ℕ → Type 0) (write : A → List ℕ) → Counted P [] (counted write [])
empty_list P write = counted-spelled P write [] (omega arith) (All-nil (IsSpelled P write))

-- a list of one
single : {A : Type 0} (P : A → List ℕ → Type 0) (write : A → List ℕ) (x : A) → P x (write x) → Counted P (x ∷ []) (counted write (x ∷ []))
single P write x is = counted-spelled P write (x ∷ []) (omega arith) (All-cons (IsSpelled P write) x [] is (All-nil (IsSpelled P write)))

-- a list of four and more, of which there are few
four : {A : Type 0} (P : A → List ℕ → Type 0) (write : A → List ℕ) (a b c d : A) (others : List A) → P a (write a) → P b (write b) → P c (write c) → P d (write d)
    → All (IsSpelled P write) others → length others ≤ 100 → Counted P (a ∷ b ∷ c ∷ d ∷ others) (counted write (a ∷ b ∷ c ∷ d ∷ others))
four P write a b c d others p q r s all few =
    let Q = IsSpelled P write in
    counted-spelled P write (a ∷ b ∷ c ∷ d ∷ others) (omega arith)
    (All-cons Q a (b ∷ c ∷ d ∷ others) p (All-cons Q b (c ∷ d ∷ others) q (All-cons Q c (d ∷ others) r (All-cons Q d others s all))))

-- the ints of the pool
ints-spelled : (count : ℕ) → count ≤ 100 → Table IsS32 (each_from (λ k. pos k ∷ []) 0 count) (table int_bytes (each_from (λ k. pos k ∷ []) 0 count))
ints-spelled count few =
    let e = each_from-length (λ k. pos k ∷ []) 1 0 count (λ k. refl) in
    let Q : ℤ → Type 0 = IsSpelled IsS32 int_bytes in
    let is : (k : ℕ) → k < 100 → Q (pos k) = λ k lt. int-spelled (pos k) (fits_signed_from_abs w32 (pos k) (omega arith)) in
    table-spelled IsS32 int_bytes (each_from (λ k. pos k ∷ []) 0 count) (omega arith)
    (each_from-all Q (λ k. pos k ∷ []) 0 count 100 (omega arith) (λ k lt. All-cons Q (pos k) [] (is k lt) (All-nil Q)))

-- the strings of the pool
string-spelled : (text : List ℕ) → IsBrief text → IsString text (string_bytes_of text)
string-spelled text brief =
    let short = brief.short in
    record { valid = brief.valid; sized = joined (u30_bytes (length text)) text (u30-spelled (length text) (omega arith)) refl }

strings-spelled : (es : List Element) → length es ≤ 100 → All IsShort es
    → Table IsString (fixed_strings ++ flat_map element_strings es) (table string_bytes_of (fixed_strings ++ flat_map element_strings es))
strings-spelled es few short =
    let e = strings-length es in
    let brief = strings-brief es short in
    table-spelled IsString string_bytes_of (fixed_strings ++ flat_map element_strings es) (omega arith) (λ k d lt. string-spelled _ (brief k d lt))

-- the namespaces of the pool
namespace-spelled : (kind : NamespaceKind) (name : ℕ) → name < 1000 → IsNamespace (record { kind = kind; name = name }) (namespace_bytes (record { kind = kind; name = name }))
namespace-spelled kind name lt = joined (namespace_kind_byte kind ∷ []) (u30_bytes name) refl (low name lt)

namespaces-spelled : Table IsNamespace namespaces (table namespace_bytes namespaces)
namespaces-spelled =
    table-spelled IsNamespace namespace_bytes namespaces (omega arith)
    (All-from_recursion (IsSpelled IsNamespace namespace_bytes) namespaces (
      namespace-spelled space_kind.PackageNamespace 0 (omega arith),
      (
        namespace-spelled space_kind.PackageNamespace 2 (omega arith),
        (namespace-spelled space_kind.Namespace 6 (omega arith), (namespace-spelled space_kind.PackageNamespace 14 (omega arith), tt)),
      ),
    ))

-- the names of the pool
names-spelled : (count : ℕ) → count ≤ 100
    → Table IsMultiname (fixed_names ++ each_from element_names 0 count) (table multiname_bytes (fixed_names ++ each_from element_names 0 count))
names-spelled count few =
    let e = names-length count in
    table-spelled IsMultiname multiname_bytes (fixed_names ++ each_from element_names 0 count) (omega arith)
    (names-all (IsSpelled IsMultiname multiname_bytes) count
    (λ namespace name le less.
    joined (0x07 ∷ []) (u30_bytes namespace ++ u30_bytes name) refl
    (joined (u30_bytes namespace) (u30_bytes name) (low namespace (omega arith)) (low name (omega arith)))))

-- the pool
pool-spelled : (es : List Element) → length es ≤ 100 → All IsShort es → IsPool (pool_of es) (pool_bytes (pool_of es))
pool-spelled es few short =
    pool-joined (pool_of es)
    (ints-spelled (length es) few)
    (empty_table IsU32 u30_bytes)
    (empty_table IsDouble (little_bytes 8))
    (strings-spelled es few short)
    namespaces-spelled
    (empty_table (Counted IsU30) (counted u30_bytes))
    (names-spelled (length es) few)

-- a method without parameters
method-spelled : IsMethod plain_method (method_bytes plain_method)
method-spelled = method-joined plain_method (low 0 (omega arith)) (low 0 (omega arith)) refl (low 0 (omega arith)) (refl, refl) (refl, refl)

-- the method of a handler
handler_method-spelled : IsMethod handler_method (method_bytes handler_method)
handler_method-spelled =
    let Q : ℕ → Type 0 = IsSpelled IsU30 u30_bytes in
    method-joined handler_method (low 1 (omega arith)) (low 0 (omega arith))
    (each-spelled IsU30 u30_bytes (10 ∷ []) (All-cons Q 10 [] (low 10 (omega arith)) (All-nil Q)))
    (low 0 (omega arith)) (refl, refl) (refl, refl)

-- the methods
methods-spelled : (es : List Element) → length es ≤ 100 → Counted IsMethod (methods_of es) (counted method_bytes (methods_of es))
methods-spelled es few =
    let le = each_handler-length (λ h k. handler_method) 0 0 es in
    four
    IsMethod
    method_bytes
    plain_method
    plain_method
    plain_method
    plain_method
    (each_handler (λ h k. handler_method) 0 0 es)
    method-spelled
    method-spelled
    method-spelled
    method-spelled
    (each_handler-all (IsSpelled IsMethod method_bytes) (λ h k. handler_method) 0 0 100 100 es (omega arith) (omega arith) (λ h k is lt. handler_method-spelled))
    (omega arith)

-- the metadata
metadata-spelled : IsMetadata bindable (metadata_bytes bindable)
metadata-spelled = joined (u30_bytes 9) (counted item_bytes []) (low 9 (omega arith)) (empty_list IsItem item_bytes)

-- the slot of an element's id
id_trait-spelled : (k : ℕ) (e : Element) → k < 100 → IsTrait (id_trait k e) (trait_bytes (id_trait k e))
id_trait-spelled k e lt =
    let c = class_number-low e in
    trait-joined (id_trait k e) (omega arith) (low (id_name k) (omega arith))
    (variable-joined 0 (class_number e) 0 0 (low 0 (omega arith)) (low (class_number e) (omega arith)) (low 0 (omega arith)) (refl, refl))
    (single IsU30 u30_bytes 0 (low 0 (omega arith)))

-- the method that builds the document
building_trait-spelled : IsTrait building_trait (trait_bytes building_trait)
building_trait-spelled =
    trait-joined building_trait (omega arith) (low 6 (omega arith)) (joined (u30_bytes 0) (u30_bytes 3) (low 0 (omega arith)) (low 3 (omega arith))) (refl, refl)

-- the method of a handler
handler_trait-spelled : (h k : ℕ) → h < 100 → k < 100 → IsTrait (handler_trait h k) (trait_bytes (handler_trait h k))
handler_trait-spelled h k is lt =
    trait-joined (handler_trait h k) (omega arith) (low (handler_name k) (omega arith))
    (joined (u30_bytes 0) (u30_bytes (handler_number h)) (low 0 (omega arith)) (low (handler_number h) (omega arith))) (refl, refl)

-- the slot of the class
class_trait-spelled : IsTrait class_trait (trait_bytes class_trait)
class_trait-spelled =
    trait-joined class_trait (omega arith) (low 1 (omega arith)) (joined (u30_bytes 0) (u30_bytes 0) (low 0 (omega arith)) (low 0 (omega arith))) (refl, refl)

-- the traits of the instance
traits-spelled : (es : List Element) → length es ≤ 100 → Counted IsTrait (instance_traits es) (counted trait_bytes (instance_traits es))
traits-spelled es few =
    let le = instance_traits-length es in
    let handlers = each_handler-length handler_trait 0 0 es in
    counted-spelled IsTrait trait_bytes (instance_traits es) (omega arith)
    (instance_traits-all (IsSpelled IsTrait trait_bytes) es (λ k e lt. id_trait-spelled k e (omega arith)) building_trait-spelled
    (λ h k is lt. handler_trait-spelled h k (omega arith) (omega arith)))

-- the instance
instance-spelled : (es : List Element) → length es ≤ 100 → IsInstance (instance_of es) (instance_bytes (instance_of es))
instance-spelled es few =
    instance-joined (instance_of es) (low 1 (omega arith)) (low 2 (omega arith)) (refl, refl) (empty_list IsU30 u30_bytes) (low 2 (omega arith)) (traits-spelled es few)

-- the class
class-spelled : IsClass class_info (class_bytes class_info)
class-spelled = joined (u30_bytes 1) (counted trait_bytes []) (low 1 (omega arith)) (empty_list IsTrait trait_bytes)

-- the script
script-spelled : IsScript script_info (script_bytes script_info)
script-spelled =
    joined (u30_bytes 0) (counted trait_bytes (class_trait ∷ [])) (low 0 (omega arith)) (single IsTrait trait_bytes class_trait class_trait-spelled)

-- a body whose code isn't long
body-spelled : (method max_stack local_count most : ℕ) (code : List ℕ) → method < 1000 → max_stack < 1000 → local_count < 1000 → Within most code → most < 1000000
    → IsBody (body method max_stack local_count code) (body_bytes (body method max_stack local_count code))
body-spelled method max_stack local_count most code is_method is_stack is_count w lt =
    let h = w.within in
    body-joined (body method max_stack local_count code) (low method is_method) (low max_stack is_stack) (low local_count is_count) (low 0 (omega arith))
    (low 0 (omega arith)) (u30-spelled (length code) (omega arith)) (empty_list IsException exception_bytes) (empty_list IsTrait trait_bytes)

-- the body of a handler
handler_body-spelled : (h k : ℕ) → h < 100 → k < 100 → IsBody (handler_body h k) (body_bytes (handler_body h k))
handler_body-spelled h k is lt =
    body-spelled (handler_number h) 2 2 84 (encode_all (handler_code k)) (omega arith) (omega arith) (omega arith) (encode_all-within (handler_code k)) (omega arith)

-- the bodies
bodies-spelled : (es : List Element) → length es ≤ 100 → Counted IsBody (bodies_of es) (counted body_bytes (bodies_of es))
bodies-spelled es few =
    let script = encode_all script_code in
    let static = encode_all (ReturnVoid ∷ []) in
    let constructor = encode_all constructor_code in
    let le = each_handler-length handler_body 0 0 es in
    four
    IsBody
    body_bytes
    (body 0 2 1 script)
    (body 1 0 1 static)
    (body 2 1 1 constructor)
    (body 3 4 2 (encode_all (building_code es)))
    (each_handler handler_body 0 0 es)
    (body-spelled 0 2 1 105 script (omega arith) (omega arith) (omega arith) (encode_all-within script_code) (omega arith))
    (body-spelled 1 0 1 21 static (omega arith) (omega arith) (omega arith) (encode_all-within (ReturnVoid ∷ [])) (omega arith))
    (body-spelled 2 1 1 105 constructor (omega arith) (omega arith) (omega arith) (encode_all-within constructor_code) (omega arith))
    (body-spelled 3 4 2 (336 * length es + 21) (encode_all (building_code es)) (omega arith) (omega arith) (omega arith) (building_code-within es) (omega arith))
    (each_handler-all (IsSpelled IsBody body_bytes) handler_body 0 0 100 100 es (omega arith) (omega arith) handler_body-spelled)
    (omega arith)

-- the ABC of a document
pub abc-spelled : (es : List Element) → length es ≤ 100 → All IsShort es → IsAbc (abc_of es) (abc_bytes (abc_of es))
abc-spelled es few short =
    abc-joined (abc_of es) refl
    (pool-spelled es few short)
    (methods-spelled es few)
    (single IsMetadata metadata_bytes bindable metadata-spelled)
    (low 1 (omega arith))
    (each-spelled IsInstance instance_bytes (instance_of es ∷ [])
    (All-cons (IsSpelled IsInstance instance_bytes) (instance_of es) [] (instance-spelled es few) (All-nil (IsSpelled IsInstance instance_bytes))))
    (each-spelled IsClass class_bytes (class_info ∷ [])
    (All-cons (IsSpelled IsClass class_bytes) class_info [] class-spelled (All-nil (IsSpelled IsClass class_bytes))))
    (single IsScript script_bytes script_info script-spelled)
    (bodies-spelled es few)

-- How many bytes the ABC of a document has at most.
use Rattle.std.proofs.Common.{◌≡◌, ℕ, ◌+◌, ◌*◌, ◌<◌, ◌≤◌, List, [], ◌∷◌, ◌++◌, length, refl, arith, length-append}
use Rattle.std.specs.Prelude.{nat_lt, true, None, Some, All, pos, codes}
use Rattle.std.specs.Str.{IsAscii, IsUtf8}
use Rattle.std.proofs.lemmas.Bool.{ltb-true}
use Rattle.std.proofs.lemmas.Str.{IsUtf8-from_ascii, IsUtf8-append}
use Rattle.std.proofs.lemmas.Str.Ascii.{IsAscii-from_all}
use Rattle.std.proofs.lemmas.List.Sums.{AllPass-from_list_all}
use Rattle.byteorder.specs.Endian.{little_bytes}
use Rattle.std.specs.List.{flat_map, list_all}
use Rattle.std.proofs.lemmas.List.Elements.{All-head, All-tail, All-nil, All-cons, All-append, All-from_recursion}
use Rattle.abc_format.specs.Numbers.{u30_bytes, int_bytes}
use Rattle.abc_writer.specs.Spelling.{counted, table, string_bytes_of, namespace_bytes, multiname_bytes, method_bytes, metadata_bytes, trait_bytes, instance_bytes, class_bytes, script_bytes, body_bytes, pool_bytes, abc_bytes}
use Rattle.abc_format.specs.declared.records.Multiname.{Multiname}
use Rattle.abc_format.specs.declared.records.Multiname.TheVariants.{QName}
use Rattle.abc_format.specs.declared.records.Trait.{Trait}
use Rattle.flex_front.specs.declared.document.Element.{Element}
use Rattle.flex_front.specs.declared.document.Element.TheVariants.{Label, Button}
use Rattle.flex_front.specs.Source.{IsShort}
use Rattle.avm2_code.specs.declared.instruction.Instruction.{Instruction}
use Rattle.avm2_code.specs.declared.instruction.Instruction.TheVariants.{ReturnVoid}
use Rattle.avm2_code.specs.Writing.{encode}
use Rattle.avm2_code.proofs.SizeLaws.{instruction-length}
use Rattle.flexc.specs.Emitted.{encode_all, each_from, each_element, each_handler, class_number, id_name, handler_name, handler_number, id_trait, building_trait, handler_trait, class_trait, plain_method, handler_method, methods_of, bindable, class_info, script_info, instance_of, instance_traits, element_code, building_code, script_code, constructor_code, handler_code, body, handler_body, bodies_of, namespaces, id_string, handler_string, fixed_names, element_names, fixed_strings, element_strings, handler_text, main_text, pool_of, abc_of}
use Rattle.flexc.proofs.Sizes.{Within, loosen, none, one, ◌⊕◌, u30-within, int-within, counted-within, table-within, empty-within, flat_map-within, each_from-length, each_from-all, each_element-length, each_element-short, each_element-all, each_handler-length, each_handler-all}

-- so many instructions
pub encode_all-within : (is : List Instruction) → Within (21 * length is) (encode_all is)
encode_all-within [] = none
encode_all-within (i ∷ is) =
    let first : Within 21 (encode i) = record { within = instruction-length i } in
    loosen (first ⊕ encode_all-within is) (omega arith)

-- how many instructions an element takes
element_code-length : (k : ℕ) (e : Element) → length (element_code k e) ≤ 16
element_code-length k (Label id text) = omega arith
element_code-length k (Button id None) = omega arith
element_code-length k (Button id (Some text)) = omega arith

-- the code that builds the elements
pub building_code-length : (es : List Element) → length (building_code es) ≤ 16 * length es + 1
building_code-length es =
    omega (arith, each_element-short element_code 16 0 es element_code-length, length-append (each_element element_code 0 es) (ReturnVoid ∷ []))

pub building_code-within : (es : List Element) → Within (336 * length es + 21) (encode_all (building_code es))
building_code-within es = loosen (encode_all-within (building_code es)) (omega (arith, building_code-length es))

-- the size of a method
method-within : Within 16 (method_bytes plain_method)
method-within = let h = u30-within 0 ⊕ u30-within 0 ⊕ none ⊕ u30-within 0 ⊕ one 0 ⊕ none ⊕ none in loosen h (omega arith)

-- the size of a handler's method
handler_method-within : Within 21 (method_bytes handler_method)
handler_method-within = let h = u30-within 1 ⊕ u30-within 0 ⊕ (u30-within 10 ⊕ none) ⊕ u30-within 0 ⊕ one 0 ⊕ none ⊕ none in loosen h (omega arith)

-- the size of all the methods
methods-within : (es : List Element) → length es ≤ 100 → Within 2200 (counted method_bytes (methods_of es))
methods-within es few =
    let le = each_handler-length (λ h k. handler_method) 0 0 es in
    let all = each_handler-all (λ m. Within 21 (method_bytes m)) (λ h k. handler_method) 0 0 100 100 es (omega arith) (omega arith) (λ h k is lt. handler_method-within) in
    let handlers = flat_map-within method_bytes 21 (each_handler (λ h k. handler_method) 0 0 es) all in
    let h = u30-within (length (methods_of es)) ⊕ (method-within ⊕ (method-within ⊕ (method-within ⊕ (method-within ⊕ handlers)))) in
    loosen h (omega arith)

-- the size of the metadata
metadata-within : Within 15 (metadata_bytes bindable)
metadata-within = let h = u30-within 9 ⊕ (u30-within 0 ⊕ none) in loosen h (omega arith)

-- a slot with one number of metadata
id_trait-within : (k : ℕ) (e : Element) → Within 40 (trait_bytes (id_trait k e))
id_trait-within k e =
    let slot = u30-within 0 ⊕ u30-within (class_number e) ⊕ (u30-within 0 ⊕ none) in
    let metadata = u30-within 1 ⊕ (u30-within 0 ⊕ none) in
    let h = u30-within (id_name k) ⊕ one 64 ⊕ slot ⊕ metadata in
    loosen h (omega arith)

-- the size of the trait of the method that builds
building_trait-within : Within 40 (trait_bytes building_trait)
building_trait-within = let h = u30-within 6 ⊕ one 1 ⊕ (u30-within 0 ⊕ u30-within 3) ⊕ none in loosen h (omega arith)

-- the size of the trait of a handler's method
handler_trait-within : (h k : ℕ) → Within 40 (trait_bytes (handler_trait h k))
handler_trait-within h k =
    let size = u30-within (handler_name k) ⊕ one 1 ⊕ (u30-within 0 ⊕ u30-within (handler_number h)) ⊕ none in
    loosen size (omega arith)

-- the size of the trait of the class
class_trait-within : Within 40 (trait_bytes class_trait)
class_trait-within = let h = u30-within 1 ⊕ one 4 ⊕ (u30-within 0 ⊕ u30-within 0) ⊕ none in loosen h (omega arith)

-- a slot for each element, the method that builds them, and at most one handler for each
pub instance_traits-length : (es : List Element) → length (instance_traits es) ≤ 2 * length es + 1
instance_traits-length es =
    let slots = each_element-length id_trait 0 es in
    let handlers = each_handler-length handler_trait 0 0 es in
    omega (arith, length-append (each_element (λ k x. id_trait k x ∷ []) 0 es) (building_trait ∷ each_handler handler_trait 0 0 es))

-- what holds of the slots, of the method and of the handlers holds of all the traits
pub instance_traits-all : (P : Trait → Type 0) (es : List Element) → ((k : ℕ) (e : Element) → k < length es → P (id_trait k e)) → P building_trait
    → ((h k : ℕ) → h < length (each_handler handler_trait 0 0 es) → k < length es → P (handler_trait h k)) → All P (instance_traits es)
instance_traits-all P es slot method handler =
    let slots = each_element-all P id_trait 0 (length es) es (omega arith) slot in
    let handlers = each_handler-all P handler_trait 0 0 (length (each_handler handler_trait 0 0 es)) (length es) es (omega arith) (omega arith) handler in
    All-append P (each_element (λ k x. id_trait k x ∷ []) 0 es) (building_trait ∷ each_handler handler_trait 0 0 es) slots (All-cons P building_trait (each_handler handler_trait 0 0 es) method handlers)

-- the size of all the traits of the instance
traits-within : (es : List Element) → length es ≤ 100 → Within 8045 (counted trait_bytes (instance_traits es))
traits-within es few =
    let all = instance_traits-all (λ t. Within 40 (trait_bytes t)) es (λ k e lt. id_trait-within k e) building_trait-within (λ h k is lt. handler_trait-within h k) in
    let le = instance_traits-length es in
    counted-within trait_bytes 40 201 (instance_traits es) all (omega arith)

-- the size of the instance
instance-within : (es : List Element) → length es ≤ 100 → Within 8100 (instance_bytes (instance_of es))
instance-within es few =
    let h = u30-within 1 ⊕ u30-within 2 ⊕ one 1 ⊕ none ⊕ (u30-within 0 ⊕ none) ⊕ u30-within 2 ⊕ traits-within es few in
    loosen h (omega arith)

-- the size of the class
class-within : Within 10 (class_bytes class_info)
class-within = let h = u30-within 1 ⊕ (u30-within 0 ⊕ none) in loosen h (omega arith)

-- the size of the script
script-within : Within 50 (script_bytes script_info)
script-within = let h = u30-within 0 ⊕ (u30-within 1 ⊕ (class_trait-within ⊕ none)) in loosen h (omega arith)

-- a body has its code, and at most so many bytes besides
body-within : (method max_stack local_count most : ℕ) (code : List ℕ) → Within most code → Within (most + 40) (body_bytes (body method max_stack local_count code))
body-within method max_stack local_count most code w =
    let front = u30-within method ⊕ u30-within max_stack ⊕ u30-within local_count ⊕ u30-within 0 ⊕ u30-within 0 ⊕ u30-within (length code) in
    let h = front ⊕ w ⊕ (u30-within 0 ⊕ none) ⊕ (u30-within 0 ⊕ none) in
    loosen h (omega arith)

-- the size of a handler's body
handler_body-within : (h k : ℕ) → Within 124 (body_bytes (handler_body h k))
handler_body-within h k = body-within (handler_number h) 2 2 84 (encode_all (handler_code k)) (encode_all-within (handler_code k))

-- the size of all the bodies
bodies-within : (es : List Element) → length es ≤ 100 → Within 50000 (counted body_bytes (bodies_of es))
bodies-within es few =
    let script = body-within 0 2 1 105 (encode_all script_code) (encode_all-within script_code) in
    let static = body-within 1 0 1 21 (encode_all (ReturnVoid ∷ [])) (encode_all-within (ReturnVoid ∷ [])) in
    let constructor = body-within 2 1 1 105 (encode_all constructor_code) (encode_all-within constructor_code) in
    let building = body-within 3 4 2 (336 * length es + 21) (encode_all (building_code es)) (building_code-within es) in
    let le = each_handler-length handler_body 0 0 es in
    let all = each_handler-all (λ b. Within 124 (body_bytes b)) handler_body 0 0 100 100 es (omega arith) (omega arith) (λ h k is lt. handler_body-within h k) in
    let handlers = flat_map-within body_bytes 124 (each_handler handler_body 0 0 es) all in
    let h = u30-within (length (bodies_of es)) ⊕ (script ⊕ (static ⊕ (constructor ⊕ (building ⊕ handlers)))) in
    loosen h (omega arith)

-- the size of the namespaces
namespaces-within : Within 40 (table namespace_bytes namespaces)
namespaces-within =
    let h = u30-within 5 ⊕ (one 0x16 ⊕ u30-within 0 ⊕ (one 0x16 ⊕ u30-within 2 ⊕ (one 0x08 ⊕ u30-within 6 ⊕ (one 0x16 ⊕ u30-within 14 ⊕ none)))) in
    loosen h (omega arith)

-- the size of a name
qname-within : (namespace name : ℕ) → Within 11 (multiname_bytes (QName namespace name))
qname-within namespace name = let h = one 7 ⊕ u30-within namespace ⊕ u30-within name in loosen h (omega arith)

-- what holds of each name of a string in a namespace of the pool holds of all the names
pub names-all : (P : Multiname → Type 0) (count : ℕ) → ((namespace name : ℕ) → namespace ≤ 4 → name ≤ 15 + 3 * count → P (QName namespace name))
    → All P (fixed_names ++ each_from element_names 0 count)
names-all P count each =
    let fixed = All-from_recursion P fixed_names (
      each 1 1 (omega arith) (omega arith),
      (
        each 2 3 (omega arith) (omega arith),
        (
          each 2 4 (omega arith) (omega arith),
          (
            each 1 5 (omega arith) (omega arith),
            (
              each 3 7 (omega arith) (omega arith),
              (
                each 3 8 (omega arith) (omega arith),
                (
                  each 2 10 (omega arith) (omega arith),
                  (
                    each 1 11 (omega arith) (omega arith),
                    (each 1 13 (omega arith) (omega arith), (each 4 15 (omega arith) (omega arith), tt)),
                  ),
                ),
              ),
            ),
          ),
        ),
      ),
    ) in
    let pair = λ (k : ℕ) (lt : k < count).
    All-from_recursion P (element_names k) (each 1 (id_string k) (omega arith) (omega arith), (each 3 (handler_string k) (omega arith) (omega arith), tt)) in
    All-append P fixed_names (each_from element_names 0 count) fixed (each_from-all P element_names 0 count count (omega arith) pair)

-- how many names the pool has
pub names-length : (count : ℕ) → length (fixed_names ++ each_from element_names 0 count) ≡ 10 + 2 * count
names-length count = let e = each_from-length element_names 2 0 count (λ k. refl) in omega arith

-- the size of all the names
names-within : (count : ℕ) → count ≤ 100 → Within 2315 (table multiname_bytes (fixed_names ++ each_from element_names 0 count))
names-within count few =
    let names = fixed_names ++ each_from element_names 0 count in
    let e = names-length count in
    let all = names-all (λ m. Within 11 (multiname_bytes m)) count (λ namespace name lt less. qname-within namespace name) in
    table-within multiname_bytes 11 210 names all (omega arith)

-- the size of all the ints
ints-within : (count : ℕ) → count ≤ 100 → Within 505 (table int_bytes (each_from (λ k. pos k ∷ []) 0 count))
ints-within count few =
    let e = each_from-length (λ k. pos k ∷ []) 1 0 count (λ k. refl) in
    let one_int = λ (k : ℕ) (lt : k < 100). All-cons (λ z. Within 5 (int_bytes z)) (pos k) [] (int-within (pos k)) (All-nil (λ z. Within 5 (int_bytes z))) in
    let all = each_from-all (λ z. Within 5 (int_bytes z)) (λ k. pos k ∷ []) 0 count 100 (omega arith) one_int in
    table-within int_bytes 5 100 (each_from (λ k. pos k ∷ []) 0 count) all (omega arith)

-- a string that isn't long
pub record IsBrief (text : List ℕ) : Type 0 where
  pub short : length text ≤ 200
  pub valid : IsUtf8 text

-- the size of such a string
string-within : (text : List ℕ) → IsBrief text → Within 205 (string_bytes_of text)
string-within text brief =
    let h : Within 200 text = record { within = brief.short } in
    u30-within (length text) ⊕ h

-- an element has three strings
element_strings-length : (es : List Element) → length (flat_map element_strings es) ≡ 3 * length es
element_strings-length [] = refl
element_strings-length (Label id text ∷ es) = let e = element_strings-length es in omega arith
element_strings-length (Button id None ∷ es) = let e = element_strings-length es in omega arith
element_strings-length (Button id (Some text) ∷ es) = let e = element_strings-length es in omega arith

-- how many strings the pool has
pub strings-length : (es : List Element) → length (fixed_strings ++ flat_map element_strings es) ≡ 15 + 3 * length es
strings-length es = let e = element_strings-length es in omega arith

-- a text of ASCII
pub text-brief : (text : List ℕ) → list_all (λ b. nat_lt b 128) text ≡ true → length text ≤ 200 → IsBrief text
text-brief text e short =
    let pass = AllPass-from_list_all (λ b. nat_lt b 128) text e in
    let ascii : IsAscii text = IsAscii-from_all text (λ k d lt. ltb-true _ 128 (pass k d lt)) in
    record { short = short; valid = IsUtf8-from_ascii text ascii }

-- an id that isn't too long
id-brief : (id : List ℕ) → length id ≤ 32 → IsUtf8 id → IsBrief id
id-brief id short valid = record { short = omega arith; valid = valid }

-- nothing
empty-brief : IsBrief []
empty-brief = text-brief [] refl (omega arith)

-- the name of a handler
handler-brief : (id : List ℕ) → length id ≤ 32 → IsUtf8 id → IsBrief (handler_text id)
handler-brief id short valid =
    let front = text-brief (codes "#click-") refl (omega arith) in
    record { short = omega (arith, length-append (codes "#click-") id); valid = IsUtf8-append (codes "#click-") id front.valid valid }

-- no string of a short element is long
element-brief : (e : Element) → IsShort e → All IsBrief (element_strings e)
element-brief (Label id text) short =
    let brief : IsBrief text = record { short = short.2; valid = short.3 } in
    All-from_recursion IsBrief (id ∷ text ∷ [] ∷ []) (id-brief id short.0 short.1, (brief, (empty-brief, tt)))
element-brief (Button id None) short = All-from_recursion IsBrief (id ∷ [] ∷ [] ∷ []) (id-brief id short.0 short.1, (empty-brief, (empty-brief, tt)))
element-brief (Button id (Some text)) short =
    let brief : IsBrief text = record { short = short.2; valid = short.3 } in
    All-from_recursion IsBrief (id ∷ text ∷ handler_text id ∷ []) (id-brief id short.0 short.1, (brief, (handler-brief id short.0 short.1, tt)))

-- no string of short elements is long
element_strings-brief : (es : List Element) → All IsShort es → All IsBrief (flat_map element_strings es)
element_strings-brief [] all = All-nil IsBrief
element_strings-brief (e ∷ es) all =
    let here = element-brief e (All-head IsShort e es all) in
    All-append IsBrief (element_strings e) (flat_map element_strings es) here (element_strings-brief es (All-tail IsShort e es all))

-- no string of the pool is long
pub strings-brief : (es : List Element) → All IsShort es → All IsBrief (fixed_strings ++ flat_map element_strings es)
strings-brief es all =
    let fixed = All-from_recursion IsBrief fixed_strings (
      text-brief main_text refl (omega arith),
      (
        text-brief (codes "spark.components") refl (omega arith),
        (
          text-brief (codes "Application") refl (omega arith),
          (
            text-brief (codes "Label") refl (omega arith),
            (
              text-brief (codes "text") refl (omega arith),
              (
                text-brief (codes "flexc") refl (omega arith),
                (
                  text-brief (codes "place") refl (omega arith),
                  (
                    text-brief (codes "#building") refl (omega arith),
                    (
                      text-brief (codes "Bindable") refl (omega arith),
                      (
                        text-brief (codes "Button") refl (omega arith),
                        (
                          text-brief (codes "trace") refl (omega arith),
                          (
                            text-brief (codes "click") refl (omega arith),
                            (
                              text-brief (codes "addEventListener") refl (omega arith),
                              (
                                text-brief (codes "flash.events") refl (omega arith),
                                (text-brief (codes "MouseEvent") refl (omega arith), tt),
                              ),
                            ),
                          ),
                        ),
                      ),
                    ),
                  ),
                ),
              ),
            ),
          ),
        ),
      ),
    ) in
    All-append IsBrief fixed_strings (flat_map element_strings es) fixed (element_strings-brief es all)

-- the size of all the strings
strings-within : (es : List Element) → length es ≤ 100 → All IsShort es → Within 64600 (table string_bytes_of (fixed_strings ++ flat_map element_strings es))
strings-within es few all =
    let strings = fixed_strings ++ flat_map element_strings es in
    let e = strings-length es in
    let brief = strings-brief es all in
    let each : All (λ t. Within 205 (string_bytes_of t)) strings = λ k d lt. string-within _ (brief k d lt) in
    loosen (table-within string_bytes_of 205 315 strings each (omega arith)) (omega arith)

-- the size of the pool
pool-within : (es : List Element) → length es ≤ 100 → All IsShort es → Within 68000 (pool_bytes (pool_of es))
pool-within es few all =
    let numbers = ints-within (length es) few ⊕ empty-within u30_bytes ⊕ empty-within (little_bytes 8) in
    let h = numbers ⊕ strings-within es few all ⊕ namespaces-within ⊕ empty-within (counted u30_bytes) ⊕ names-within (length es) few in
    loosen h (omega arith)

-- the size of the ABC of a document
pub abc-within : (es : List Element) → length es ≤ 100 → All IsShort es → Within 130000 (abc_bytes (abc_of es))
abc-within es few all =
    let metadata = u30-within 1 ⊕ (metadata-within ⊕ none) in
    let instances = instance-within es few ⊕ none in
    let scripts = u30-within 1 ⊕ (script-within ⊕ none) in
    let version : Within 4 (little_bytes 2 16 ++ little_bytes 2 46) = record { within = omega arith } in
    let front = version ⊕ pool-within es few all ⊕ methods-within es few ⊕ metadata in
    let h = front ⊕ u30-within 1 ⊕ instances ⊕ (class-within ⊕ none) ⊕ scripts ⊕ bodies-within es few in
    loosen h (omega arith)

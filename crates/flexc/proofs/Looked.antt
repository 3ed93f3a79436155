-- What the machine finds in the ABC of a document.
use Rattle.std.proofs.Common.{◌≡◌, ℕ, zero, suc, ◌+◌, ◌*◌, ◌<◌, List, [], ◌∷◌, ◌++◌, length, Option, None, Some, Bool, true, false, refl, sym, ap, ◌∙◌, arith, append_assoc, length-append}
use Rattle.std.specs.Prelude.{map, option_map, slice_get, pos, codes}
use Rattle.std.specs.List.{flat_map}
use Rattle.std.proofs.lemmas.List.{append-nil}
use Rattle.abc_format.specs.declared.records.Abc.{Abc}
use Rattle.abc_format.specs.declared.records.Trait.{Trait}
use Rattle.abc_format.specs.declared.records.TraitKind.TheVariants as trait_kind
use Rattle.flex_front.specs.declared.document.Element.{Element}
use Rattle.flex_front.specs.declared.document.Element.TheVariants as element
use Rattle.flex_front.specs.Source.{id_of}
use Rattle.avm2_machine.specs.declared.stage.Slot.{Slot}
use Rattle.flexc.specs.Emitted.{each_from, each_element, each_handler, class_number, id_string, text_string, handler_string, id_name, handler_name, rank_int, fixed_names, fixed_strings, element_strings, element_names, handler_text, id_trait, handler_trait, building_trait, instance_traits, abc_of}
use Rattle.flexc.specs.Meaning.{id_property, element_class}
use Rattle.flex_base.specs.Events.{click}
use Rattle.avm2_machine.specs.declared.frame.Operand.TheVariants as operand
use Rattle.flex_base.specs.Lists.{entry}
use Rattle.avm2_machine.specs.Names.{Name, string_at, name_of, with_texts, name_at, native_at, holder}
use Rattle.avm2_machine.specs.Tables.{public_text, public_at, typed_slot, declared_slot, and_slot, declared_onto, method_by, is_named, method_named}
use Rattle.flexc.proofs.Sims.{IsMethodName}
use Rattle.flexc.proofs.States.{slot_of}

-- what stands behind other items
slice_get_behind : {A : Type 0} (front back : List A) (n : ℕ) → slice_get (front ++ back) (length front + n) ≡ slice_get back n
slice_get_behind [] back n = ap (slice_get back) (omega arith)
slice_get_behind (x ∷ front) back n =
    let e : length (x ∷ front) + n ≡ suc (length front + n) = omega arith in
    ap (slice_get (x ∷ front ++ back)) e ∙ slice_get_behind front back n

-- the first item behind others
pub slice_get_seam : {A : Type 0} (front : List A) (x : A) (back : List A) → slice_get (front ++ x ∷ back) (length front) ≡ Some x
slice_get_seam front x back =
    let e : length front ≡ length front + 0 = omega arith in
    ap (slice_get (front ++ x ∷ back)) e ∙ slice_get_behind front (x ∷ back) 0

-- the item of a number
slice_get-each_from : {A : Type 0} (f : ℕ → A) (k n j : ℕ) → j < n → slice_get (each_from (λ i. f i ∷ []) k n) j ≡ Some (f (k + j))
slice_get-each_from f k zero j lt = absurd (omega arith)
slice_get-each_from f k (suc n) zero lt = let e : k ≡ k + 0 = omega arith in ap (λ i. Some (f i)) e
slice_get-each_from f k (suc n) (suc j) lt =
    let e : suc k + j ≡ k + suc j = omega arith in
    slice_get-each_from f (suc k) n j (omega arith) ∙ ap (λ i. Some (f i)) e

-- the string of an element that holds its text
abbrev pub text_of : Element → List ℕ
text_of (element.Label id text) = text
text_of (element.Button id None) = []
text_of (element.Button id (Some text)) = text

-- the string that names its handler
abbrev pub handler_of : Element → List ℕ
handler_of (element.Button id (Some text)) = handler_text id
handler_of _ = []

-- the strings of an element
strings-of : (e : Element) → element_strings e ≡ id_of e ∷ text_of e ∷ handler_of e ∷ []
strings-of (element.Label id text) = refl
strings-of (element.Button id None) = refl
strings-of (element.Button id (Some text)) = refl

-- one of three items in front of others
one_of_three : (a b c : List ℕ) (rest : List (List ℕ)) (j : ℕ) → j < 3 → slice_get (a ∷ b ∷ c ∷ rest) j ≡ slice_get (a ∷ b ∷ c ∷ []) j
one_of_three a b c rest zero lt = refl
one_of_three a b c rest (suc zero) lt = refl
one_of_three a b c rest (suc (suc zero)) lt = refl
one_of_three a b c rest (suc (suc (suc j))) lt = absurd (omega arith)

string-at : (es : List Element) (k j : ℕ) (e : Element) → slice_get es k ≡ Some e → j < 3
    → slice_get (flat_map element_strings es) (3 * k + j) ≡ slice_get (id_of e ∷ text_of e ∷ handler_of e ∷ []) j
string-at [] k j e is lt = absurd (cc)
string-at (x ∷ es) zero j e is lt =
    let same : x ≡ e = cc in
    let at : 3 * 0 + j ≡ j = omega arith in
    ap (slice_get (flat_map element_strings (x ∷ es))) at ∙ ap (λ l. slice_get (l ++ flat_map element_strings es) j) (strings-of x)
    ∙ one_of_three (id_of x) (text_of x) (handler_of x) (flat_map element_strings es) j lt ∙ ap (λ y. slice_get (id_of y ∷ text_of y ∷ handler_of y ∷ []) j) same
string-at (x ∷ es) (suc k) j e is lt =
    let at : 3 * suc k + j ≡ suc (suc (suc (3 * k + j))) = omega arith in
    ap (slice_get (flat_map element_strings (x ∷ es))) at ∙ ap (λ l. slice_get (l ++ flat_map element_strings es) (suc (suc (suc (3 * k + j))))) (strings-of x)
    ∙ string-at es k j e is lt

-- the names of an element
name-at : (k n i j : ℕ) → i < n → j < 2 → slice_get (each_from element_names k n) (2 * i + j) ≡ slice_get (element_names (k + i)) j
name-at k zero i j lt two = absurd (omega arith)
name-at k (suc n) zero zero lt two = let e : k ≡ k + 0 = omega arith in ap (λ i. slice_get (element_names i) 0) e
name-at k (suc n) zero (suc zero) lt two = let e : k ≡ k + 0 = omega arith in ap (λ i. slice_get (element_names i) 1) e
name-at k (suc n) zero (suc (suc j)) lt two = absurd (omega arith)
name-at k (suc n) (suc i) j lt two =
    let e : suc k + i ≡ k + suc i = omega arith in
    let at : 2 * suc i + j ≡ suc (suc (2 * i + j)) = omega arith in
    ap (slice_get (each_from element_names k (suc n))) at ∙ name-at (suc k) n i j (omega arith) two ∙ ap (λ m. slice_get (element_names m) j) e

module _ (es : List Element) where
  abbrev pub abc : Abc
  abc = abc_of es

  pub class_is : (e : Element) → native_at abc (class_number e) ≡ Some (element_class e)
  class_is (element.Label id text) = refl
  class_is (element.Button id _) = refl

  pub holder_is : (e : Element) → holder (name_at abc (class_number e)) ≡ Some operand.Natives
  holder_is (element.Label id text) = refl
  holder_is (element.Button id _) = refl

  pub text_name : public_at abc 4 ≡ Some (codes "text")
  text_name = refl

  pub place_name : name_at abc 5 ≡ Some (record { space = codes "flexc"; local = codes "place" })
  place_name = refl

  abbrev pub building : Name
  building = record { space = codes "flexc"; local = codes "#building" }

  pub building_name : name_at abc 6 ≡ Some building
  building_name = refl

  pub building_is_other : IsMethodName building
  building_is_other = record { placing = refl; listening = refl; tracing = refl }

  pub listener_name : name_at abc 9 ≡ Some (record { space = []; local = codes "addEventListener" })
  listener_name = refl

  pub trace_name : name_at abc 8 ≡ Some (record { space = []; local = codes "trace" })
  trace_name = refl

  pub click_is : string_at abc 12 ≡ Some click
  click_is = refl

  -- the strings of the pool behind the fixed ones
  string_behind : (j n : ℕ) (text : List ℕ) → n ≡ suc (length fixed_strings + j) → slice_get (flat_map element_strings es) j ≡ Some text → string_at abc n ≡ Some text
  string_behind j n text e at = ap (string_at abc) e ∙ slice_get_behind fixed_strings (flat_map element_strings es) j ∙ at

  module _ (k : ℕ) (x : Element) (at : slice_get es k ≡ Some x) (within : k < length es) where
    string_is : (j n : ℕ) (text : List ℕ) → n ≡ suc (length fixed_strings + (3 * k + j)) → j < 3 → slice_get (id_of x ∷ text_of x ∷ handler_of x ∷ []) j ≡ Some text
        → string_at abc n ≡ Some text
    string_is j n text e lt is = string_behind (3 * k + j) n text e (string-at es k j x at lt ∙ is)

    id_is : string_at abc (id_string k) ≡ Some (id_of x)
    id_is = string_is 0 (id_string k) (id_of x) (omega arith) (omega arith) refl

    pub text_is : string_at abc (text_string k) ≡ Some (text_of x)
    text_is = string_is 1 (text_string k) (text_of x) (omega arith) (omega arith) refl

    handler_string_is : string_at abc (handler_string k) ≡ Some (handler_of x)
    handler_string_is = string_is 2 (handler_string k) (handler_of x) (omega arith) (omega arith) refl

    name_entry : (j n : ℕ) → n ≡ suc (length fixed_names + (2 * k + j)) → j < 2 → entry abc.constant_pool.multinames n ≡ slice_get (element_names k) j
    name_entry j n e lt =
        let z : 0 + k ≡ k = omega arith in
        ap (entry abc.constant_pool.multinames) e ∙ slice_get_behind fixed_names (each_from element_names 0 (length es)) (2 * k + j)
        ∙ name-at 0 (length es) k j within lt ∙ ap (λ i. slice_get (element_names i) j) z

    pub id_public : public_at abc (id_name k) ≡ Some (id_of x)
    id_public = ap (λ m. public_text (name_of abc m)) (name_entry 0 (id_name k) (omega arith) (omega arith)) ∙ ap (λ s. public_text (with_texts (Some []) s)) id_is

    pub handler_named : name_at abc (handler_name k) ≡ Some (record { space = codes "flexc"; local = handler_of x })
    handler_named =
        ap (name_of abc) (name_entry 1 (handler_name k) (omega arith) (omega arith)) ∙ ap (with_texts (Some (codes "flexc"))) handler_string_is

    pub rank_is : entry abc.constant_pool.integers (rank_int k) ≡ Some (pos k)
    rank_is =
        let e : rank_int k ≡ suc k = omega arith in
        ap (entry abc.constant_pool.integers) e ∙ slice_get-each_from pos 0 (length es) k within ∙ ap (λ i. Some (pos i)) (omega arith)

  -- no variable is a method
  passed : (t : Bool) (slot_id type_name vindex vkind : ℕ) (rest : Option ℕ) → method_by t (trait_kind.Slot slot_id type_name vindex vkind) rest ≡ rest
  passed true slot_id type_name vindex vkind rest = refl
  passed false slot_id type_name vindex vkind rest = refl

  method_behind : (k : ℕ) (xs : List Element) (traits : List Trait) (name : Name)
      → method_named abc (each_element (λ i e. id_trait i e ∷ []) k xs ++ traits) name ≡ method_named abc traits name
  method_behind k [] traits name = refl
  method_behind k (x ∷ xs) traits name = passed (is_named abc (id_name k) name) 0 (class_number x) 0 0 _ ∙ method_behind (suc k) xs traits name

  -- the methods of the class, behind its variables
  pub class_methods : (name : Name) → method_named abc (instance_traits es) name ≡ method_named abc (building_trait ∷ each_handler handler_trait 0 0 es) name
  class_methods name = method_behind 0 es (building_trait ∷ each_handler handler_trait 0 0 es) name

  pub building_method : method_named abc (instance_traits es) building ≡ Some 3
  building_method = class_methods building

  abbrev pub id_slot : Element → Slot
  id_slot e = slot_of (id_property e)

  id_declared : (k : ℕ) (x : Element) → slice_get es k ≡ Some x → k < length es → declared_slot abc (id_name k) (trait_kind.Slot 0 (class_number x) 0 0) ≡ Some (Some (id_slot x))
  id_declared k x at within =
      ap (λ n. option_map Some (typed_slot n (native_at abc (class_number x)))) (id_public k x at within) ∙ ap (λ c. option_map Some (typed_slot (Some (id_of x)) c)) (class_is x)

  -- no handler is a variable
  no_slots : (h k : ℕ) (xs : List Element) (slots : List Slot) → declared_onto abc (each_handler handler_trait h k xs) slots ≡ Some slots
  no_slots h k [] slots = refl
  no_slots h k (element.Label id text ∷ xs) slots = no_slots h (suc k) xs slots
  no_slots h k (element.Button id None ∷ xs) slots = no_slots h (suc k) xs slots
  no_slots h k (element.Button id (Some text) ∷ xs) slots = no_slots (suc h) (suc k) xs slots

  abbrev methods : List Trait
  methods = building_trait ∷ each_handler handler_trait 0 0 es

  declared_from : (before rest : List Element) (k : ℕ) (slots : List Slot) → es ≡ before ++ rest → k ≡ length before
      → declared_onto abc (each_element (λ i e. id_trait i e ∷ []) k rest ++ methods) slots ≡ Some (slots ++ map id_slot rest)
  declared_from before [] k slots all is = no_slots 0 0 es slots ∙ ap Some (sym (append-nil slots))
  declared_from before (x ∷ rest) k slots all is =
      let at : slice_get es k ≡ Some x = ap (λ ls. slice_get ls k) all ∙ ap (slice_get (before ++ x ∷ rest)) is ∙ slice_get_seam before x rest in
      let size : length es ≡ length before + length (x ∷ rest) = ap length all ∙ length-append before (x ∷ rest) in
      let within : k < length es = omega arith in
      let next : es ≡ (before ++ x ∷ []) ++ rest = all ∙ sym (append_assoc before (x ∷ []) rest) in
      let place : suc k ≡ length (before ++ x ∷ []) = omega (arith, length-append before (x ∷ [])) in
      ap (λ d. and_slot d slots (declared_onto abc (each_element (λ i e. id_trait i e ∷ []) (suc k) rest ++ methods))) (id_declared k x at within)
      ∙ declared_from (before ++ x ∷ []) rest (suc k) (slots ++ id_slot x ∷ []) next place
      ∙ ap Some (append_assoc slots (id_slot x ∷ []) (map id_slot rest))

  pub declared_are : declared_onto abc (instance_traits es) [] ≡ Some (map id_slot es)
  declared_are = declared_from [] es 0 [] refl refl

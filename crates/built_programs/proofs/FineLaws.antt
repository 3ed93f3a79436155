-- The programs of documents whose elements have ids are fine.
use Rattle.std.proofs.Common.{All, Bool, List, None, Option, Some, [], add-one, ap, append_assoc, arith, cond, eq-eqb, false, get_or, length, map, refl, slice_get, subst, suc, true, zero, ℕ, ◌+◌, ◌++◌, ◌<◌, ◌≤◌, ◌∙◌, ◌∷◌, ◌≡◌}
use Rattle.std.proofs.lemmas.List.Elements.{All-cons, All-head, All-nil, All-tail}
use Rattle.std.proofs.lemmas.Slice.Eq.{bytes_eq-Decides}
use Rattle.std.proofs.lemmas.Bool.Decides.{Decides-eqb}
use Rattle.std.specs.List.{find, flat_map, list_all, list_any}
use Rattle.std.specs.Prelude.{codes, if◌then◌else◌, is_some, not, option_and_then, option_map, ◌&&◌, ◌==◌, ◌||◌}
use Rattle.std.specs.Str.{bytes_eq}
use Rattle.component_catalog.specs.Classes.{lineage}
use Rattle.component_catalog.specs.Laws.{are_distinct}
use Rattle.component_catalog.specs.declared.class.NativeClass.TheVariants as native
use Rattle.flex_front.specs.Source.{AreNewIds, IsElement, IsId, id_of, is_among, is_letter, is_short, keywords, properties}
use Rattle.flex_front.specs.declared.document.Element.{Element}
use Rattle.flex_front.specs.declared.document.Element.TheVariants as element
use Rattle.flex_program.specs.Classes.{bases, fields_of, variable_field}
use Rattle.flex_program.specs.Fine.{are_numbered, can_write, computed_type, has_fine_names, holds, instance_class, is_fine_class, is_fine_contents, is_fine_document, is_fine_handler, is_fine_instance, is_fine_made, is_fine_method, is_fine_part, is_fine_variable}
use Rattle.flex_program.specs.Instances.{instances_in, part_of, parts_of}
use Rattle.flex_program.specs.Program.{Part, Program}
use Rattle.flex_world.specs.Classes.{is_component, is_container, same_class}
use Rattle.flex_world.specs.declared.kind.Class.{Class}
use Rattle.flex_world.specs.declared.kind.Class.TheVariants as Class
use Rattle.flex_world.specs.declared.kind.StaticType.{StaticType}
use Rattle.flex_world.specs.Making.{native_fields}
use Rattle.flex_world.specs.Objects.{Field, can_be_written}
use Rattle.built_programs.specs.Fine.{HaveIds, ProgramsAreFine, SourceProgramsAreFine}
use Rattle.built_programs.specs.Programs.{child_of, children_of, declared_document, element_class, element_part, handlers_in, id_variable, main_class, next_handler, root_of, root_part, source_program}

both : (s t : Bool) → s ≡ true → t ≡ true → (s && t) ≡ true
both true t e f = f
both false t e f = absurd (cc)

neither : (s t : Bool) → s ≡ false → t ≡ false → (s || t) ≡ false
neither true t e f = absurd (cc)
neither false t e f = f

and_left : (s t : Bool) → (s && t) ≡ true → s ≡ true
and_left true t e = refl
and_left false t e = absurd (cc)

and_right : (s t : Bool) → (s && t) ≡ true → t ≡ true
and_right true t e = e
and_right false t e = absurd (cc)

not_so : (s : Bool) → s ≡ false → not s ≡ true
not_so true e = absurd (cc)
not_so false e = refl

same_number : (n : ℕ) → (n == n) ≡ true
same_number n = eq-eqb n n refl

not_true : (s : Bool) → (s ≡ true → ⊥) → s ≡ false
not_true true h = absurd (h refl)
not_true false h = refl

other_number : (m n : ℕ) → (m ≡ n → ⊥) → (m == n) ≡ false
other_number m n differ = not_true (m == n) (λ e. differ ((Decides-eqb m n).0 e))

same_bytes : (id : List ℕ) → bytes_eq id id ≡ true
same_bytes id = (bytes_eq-Decides id id).1 refl

-- an id is none of the words that are properties or have other characters than small letters
abbrev is_taken : List ℕ → Bool
is_taken word = is_among properties word || not (list_all is_letter word)

not_taken : (s t : Bool) → s ≡ false → t ≡ true → (s || not t) ≡ true → ⊥
not_taken true t e f g = cc
not_taken false true e f g = cc
not_taken false false e f g = cc

not_this : (word id : List ℕ) → is_taken word ≡ true → IsId id → bytes_eq id word ≡ false
not_this word id taken i = not_true (bytes_eq id word) (λ e. by ((bytes_eq-Decides id word).0 e))
  where
    letters : list_all is_letter id ≡ true
    letters =
        and_left (list_all is_letter id) (not (is_among keywords id))
        (and_right (is_short id) (list_all is_letter id && not (is_among keywords id)) i.name)

    by : id ≡ word → ⊥
    by e = not_taken (is_among properties word) (list_all is_letter word) (subst (λ w. is_among properties w ≡ false) e i.free) (subst (λ w. list_all is_letter w ≡ true) e letters) taken

none_of : (words : List (List ℕ)) (id : List ℕ) → list_all is_taken words ≡ true → IsId id → list_any (bytes_eq id) words ≡ false
none_of [] id taken i = refl
none_of (word ∷ words) id taken i =
    neither (bytes_eq id word) (list_any (bytes_eq id) words) (not_this word id (and_left (is_taken word) (list_all is_taken words) taken) i)
    (none_of words id (and_right (is_taken word) (list_all is_taken words) taken) i)

abbrev program : List Element → Program
program es = source_program (record { elements = es })

abbrev main : Class
main = Class.File 0

-- the fields of an Application
abbrev application_fields : List Field
application_fields = flat_map native_fields (lineage native.Application)

abbrev id_fields : List Element → List Field
id_fields es = map variable_field (map id_variable es)

abbrev names : List Field → List (List ℕ)
names fields = map (λ f. f.name) fields

fields_are : (es : List Element) → fields_of (program es) main ≡ id_fields es ++ application_fields
fields_are es = refl

-- no later element has the id of an earlier one
all_at : (P : Element → Type 0) (before : List Element) (e : Element) (after : List Element) → All P (before ++ e ∷ after) → P e
all_at P [] e after h = All-head P e after h
all_at P (b ∷ before) e after h = all_at P before e after (All-tail P b (before ++ e ∷ after) h)

later_differ : (e : Element) (before after es : List Element) → AreNewIds (before ++ e ∷ after) es → All (λ x. bytes_eq (id_of e) (id_of x) ≡ false) es
later_differ e before after [] h = All-nil (λ x. bytes_eq (id_of e) (id_of x) ≡ false)
later_differ e before after (x ∷ xs) h =
    All-cons (λ y. bytes_eq (id_of e) (id_of y) ≡ false) x xs (all_at (λ y. bytes_eq (id_of y) (id_of x) ≡ false) before e after h.0)
    (later_differ e before (after ++ x ∷ []) xs (subst (λ l. AreNewIds l xs) (append_assoc before (e ∷ after) (x ∷ [])) h.1))

none_named : (id : List ℕ) (es : List Element) (more : List Field) → All (λ x. bytes_eq id (id_of x) ≡ false) es → list_any (bytes_eq id) (names more) ≡ false
    → list_any (bytes_eq id) (names (id_fields es ++ more)) ≡ false
none_named id [] more h k = k
none_named id (x ∷ xs) more h k =
    neither (bytes_eq id (id_of x)) (list_any (bytes_eq id) (names (id_fields xs ++ more))) (All-head (λ y. bytes_eq id (id_of y) ≡ false) x xs h)
    (none_named id xs more (All-tail (λ y. bytes_eq id (id_of y) ≡ false) x xs h) k)

distinct_names : (before es : List Element) (more : List Field) → AreNewIds before es → All (λ e. list_any (bytes_eq (id_of e)) (names more) ≡ false) es → are_distinct (names more) ≡ true
    → are_distinct (names (id_fields es ++ more)) ≡ true
distinct_names before [] more h free d = d
distinct_names before (e ∷ es) more h free d =
    both (not (list_any (bytes_eq (id_of e)) (names (id_fields es ++ more)))) (are_distinct (names (id_fields es ++ more)))
    (not_so (list_any (bytes_eq (id_of e)) (names (id_fields es ++ more)))
    (none_named (id_of e) es more (later_differ e before [] es h.1) (All-head (λ x. list_any (bytes_eq (id_of x)) (names more) ≡ false) e es free)))
    (distinct_names (before ++ e ∷ []) es more h.1 (All-tail (λ x. list_any (bytes_eq (id_of x)) (names more) ≡ false) e es free) d)

not_computed : (s t u v : Bool) (a b : StaticType) → s ≡ false → u ≡ false → is_some (if s && t then Some a else if u && v then Some b else None) ≡ false
not_computed true t u v a b e f = absurd (cc)
not_computed false t true v a b e f = absurd (cc)
not_computed false t false v a b e f = refl

none_computed : (all es : List Element) → All (λ e. IsId (id_of e)) es → list_any (λ f. is_some (computed_type (program all) main f.name)) (id_fields es ++ application_fields) ≡ false
none_computed all [] ids = refl
none_computed all (e ∷ es) ids =
    let i = All-head (λ x. IsId (id_of x)) e es ids in
    neither (is_some (computed_type (program all) main (id_of e))) (list_any (λ f. is_some (computed_type (program all) main f.name)) (id_fields es ++ application_fields))
    (not_computed (bytes_eq (id_of e) (codes "parent")) (is_component (bases (program all)) main) (bytes_eq (id_of e) (codes "numElements")) (is_container (bases (program all)) main) _ _
    (not_this (codes "parent") (id_of e) refl i) (not_this (codes "numElements") (id_of e) refl i))
    (none_computed all es (All-tail (λ x. IsId (id_of x)) e es ids))

fine_names : (es : List Element) → HaveIds es → has_fine_names (program es) main ≡ true
fine_names es h =
    both (are_distinct (names (id_fields es ++ application_fields))) (not (list_any (λ f. is_some (computed_type (program es) main f.name)) (id_fields es ++ application_fields)))
    (distinct_names [] es application_fields h.distinct (λ k d lt. none_of (names application_fields) (id_of (get_or es k d)) refl (h.ids k d lt)) refl)
    (not_so (list_any (λ f. is_some (computed_type (program es) main f.name)) (id_fields es ++ application_fields)) (none_computed es es h.ids))

fine_variables : (all es : List Element) → list_all (is_fine_variable (program all) main) (map id_variable es) ≡ true
fine_variables all [] = refl
fine_variables all (e ∷ es) = fine_variables all es

-- an id can be written
abbrev type_written : Field → Option StaticType
type_written f = if can_be_written f then Some f.type else None

any_at : (test : Element → Bool) (es : List Element) (k : ℕ) (d : Element) → k < length es → test (get_or es k d) ≡ true → list_any test es ≡ true
any_at test [] k d lt h = absurd (omega arith)
any_at test (e ∷ es) zero d lt h = ap (λ t. t || list_any test es) h
any_at test (e ∷ es) (suc k) d lt h = by (test e) (any_at test es k d (omega arith) h)
  where
    by : (t : Bool) → list_any test es ≡ true → (t || list_any test es) ≡ true
    by true g = refl
    by false g = g

found_to_write : (id : List ℕ) (es : List Element) (more : List Field) → list_any (λ x. bytes_eq (id_of x) id) es ≡ true
    → is_some (option_and_then type_written (find (λ f. bytes_eq f.name id) (id_fields es ++ more))) ≡ true
found_to_write id [] more h = absurd (cc)
found_to_write id (e ∷ es) more h = by (bytes_eq (id_of e) id) h (found_to_write id es more)
  where
    by : (t : Bool) → (t || list_any (λ x. bytes_eq (id_of x) id) es) ≡ true
        → (list_any (λ x. bytes_eq (id_of x) id) es ≡ true → is_some (option_and_then type_written (find (λ f. bytes_eq f.name id) (id_fields es ++ more))) ≡ true)
        → is_some (option_and_then type_written (cond t (Some (variable_field (id_variable e))) (find (λ f. bytes_eq f.name id) (id_fields es ++ more)))) ≡ true
    by true g others = refl
    by false g others = others g

ids_written : (es : List Element) → All (λ e. can_write (program es) main (id_of e) ≡ true) es
ids_written es k d lt =
    found_to_write (id_of (get_or es k d)) es application_fields (any_at (λ x. bytes_eq (id_of x) (id_of (get_or es k d))) es k d lt (same_bytes (id_of (get_or es k d))))

-- the parts of the elements, numbered from this on
abbrev parts_from : ℕ → ℕ → List Element → List Part
parts_from number handler es = map part_of (instances_in (children_of number handler es))

numbered : (p : Program) (es : List Element) (number handler : ℕ) → are_numbered p number (parts_from number handler es) ≡ true
numbered p [] number handler = refl
numbered p (e ∷ es) number handler =
    both (number == number) (are_numbered p (suc number) (parts_from (number + 1) (next_handler handler e) es)) (same_number number)
    (subst (λ n. are_numbered p n (parts_from (number + 1) (next_handler handler e) es) ≡ true) (add-one number) (numbered p es (number + 1) (next_handler handler e)))

abbrev has_number : ℕ → Part → Bool
has_number n part = part.number == n

module _ (all : List Element) where
  -- what is known of the elements that are left, where the next part and the next handler have these numbers
  record AreLeft (number handler : ℕ) (rest : List Element) : Type 0 where
    above : 0 < number
    parts : (n : ℕ) → number ≤ n → find (has_number n) (parts_of (root_of all)) ≡ find (has_number n) (parts_from number handler rest)
    handlers : (m : ℕ) → slice_get (flat_map handlers_in all) (handler + m) ≡ slice_get (flat_map handlers_in rest) m
    written : All (λ e. can_write (program all) main (id_of e) ≡ true) rest

  at_first : AreLeft 1 0 all
  at_first = record {
    above = omega arith;
    parts = λ n le. ap (λ t. cond t (Some root_part) (find (has_number n) (parts_from 1 0 all))) (other_number 0 n (λ e. omega arith));
    handlers = λ m. let e : 0 + m ≡ m = omega arith in ap (slice_get (flat_map handlers_in all)) e;
    written = ids_written all;
  }

  handlers_on : (number handler : ℕ) (e : Element) (rest : List Element) → AreLeft number handler (e ∷ rest) → (m : ℕ)
      → slice_get (flat_map handlers_in all) (next_handler handler e + m) ≡ slice_get (flat_map handlers_in rest) m
  handlers_on number handler (element.Label id text) rest l m = l.handlers m
  handlers_on number handler (element.Button id None) rest l m = l.handlers m
  handlers_on number handler (element.Button id (Some text)) rest l m = let e : handler + 1 + m ≡ handler + suc m = omega arith in ap (slice_get (flat_map handlers_in all)) e ∙ l.handlers (suc m)

  go_on : (number handler : ℕ) (e : Element) (rest : List Element) → AreLeft number handler (e ∷ rest) → AreLeft (number + 1) (next_handler handler e) rest
  go_on number handler e rest l = record {
    above = omega arith;
    parts = λ n le. l.parts n (omega arith) ∙ ap (λ t. cond t (Some (element_part number handler e)) (find (has_number n) (parts_from (number + 1) (next_handler handler e) rest))) (other_number number n (λ e. omega arith));
    handlers = handlers_on number handler e rest l;
    written = All-tail (λ x. can_write (program all) main (id_of x) ≡ true) e rest l.written;
  }

  part_found : (number handler : ℕ) (e : Element) (rest : List Element) → AreLeft number handler (e ∷ rest) → find (has_number number) (parts_of (root_of all)) ≡ Some (element_part number handler e)
  part_found number handler e rest l =
      l.parts number (omega arith)
      ∙ ap (λ t. cond t (Some (element_part number handler e)) (find (has_number number) (parts_from (number + 1) (next_handler handler e) rest))) (same_number number)

  no_root : (number : ℕ) → 0 < number → not (number == 0) ≡ true
  no_root number lt = not_so (number == 0) (other_number number 0 (λ e. omega arith))

  own_class : (number handler : ℕ) (e : Element) (rest : List Element) → AreLeft number handler (e ∷ rest)
      → holds (same_class (Class.Native (element_class e))) (instance_class (program all) main (root_of all) number) ≡ true
  own_class number handler e rest l = ap (λ o. holds (same_class (Class.Native (element_class e))) (option_map (λ part. part.class) o)) (part_found number handler e rest l) ∙ by e
    where
      by : (x : Element) → same_class (Class.Native (element_class x)) (Class.Native (element_class x)) ≡ true
      by (element.Label id text) = refl
      by (element.Button id click) = refl

  fine_handler : (number handler : ℕ) (id text : List ℕ) (rest : List Element) → AreLeft number handler (element.Button id (Some text) ∷ rest) → is_fine_handler (program all) main handler ≡ true
  fine_handler number handler id text rest l =
      let e : handler ≡ handler + 0 = omega arith in
      ap (holds (λ x. is_fine_method (program all) main x && (length x.parameters == 1))) (ap (slice_get (flat_map handlers_in all)) e ∙ l.handlers 0)

  fine_part : (number handler : ℕ) (e : Element) (rest : List Element) → AreLeft number handler (e ∷ rest) → is_fine_part (program all) main (root_of all) (element_part number handler e) ≡ true
  fine_part number handler (element.Label id text) rest l =
      let written = All-head (λ x. can_write (program all) main (id_of x) ≡ true) (element.Label id text) rest l.written in
      both _ _ (both _ _ (both true _ refl written) refl) (own_class number handler (element.Label id text) rest l)
  fine_part number handler (element.Button id None) rest l =
      let written = All-head (λ x. can_write (program all) main (id_of x) ≡ true) (element.Button id None) rest l.written in
      both _ _ (both _ _ (both true _ refl written) refl) (own_class number handler (element.Button id None) rest l)
  fine_part number handler (element.Button id (Some text)) rest l =
      let written = All-head (λ x. can_write (program all) main (id_of x) ≡ true) (element.Button id (Some text)) rest l.written in
      both _ _ (both _ _ (both _ _ (both _ true (fine_handler number handler id text rest l) refl) written) refl) (own_class number handler (element.Button id (Some text)) rest l)

  fine_child : (number handler : ℕ) (e : Element) (rest : List Element) → AreLeft number handler (e ∷ rest)
      → (is_container (bases (program all)) (Class.Native native.Application) && is_component (bases (program all)) (Class.Native (element_class e)) && is_fine_made (program all) main (root_of all) (child_of number handler e)
      && is_fine_instance (program all) main (root_of all) (child_of number handler e)) ≡ true
  fine_child number handler (element.Label id text) rest l =
      both _ _ (both true _ refl (both true _ refl (no_root number l.above))) (both _ true (fine_part number handler (element.Label id text) rest l) refl)
  fine_child number handler (element.Button id click) rest l =
      both _ _ (both true _ refl (both true _ refl (no_root number l.above))) (both _ true (fine_part number handler (element.Button id click) rest l) refl)

  fine_children : (rest : List Element) (number handler : ℕ) → AreLeft number handler rest
      → is_fine_contents (program all) main (root_of all) (Class.Native native.Application) (children_of number handler rest) ≡ true
  fine_children [] number handler l = refl
  fine_children (e ∷ rest) number handler l =
      both _ _ (fine_child number handler e rest l) (fine_children rest (number + 1) (next_handler handler e) (go_on number handler e rest l))

fine_document : (es : List Element) → is_fine_document (program es) main (declared_document es) ≡ true
fine_document es = both _ true (both _ true (both _ _ (both _ _ (both true _ refl (numbered (program es) es 1 0)) refl) (fine_children es es 1 0 (at_first es))) refl) refl

fine_class : (es : List Element) → HaveIds es → is_fine_class (program es) 0 (main_class es) ≡ true
fine_class es h = both _ _ (both _ _ (both _ true (both _ _ (both true _ refl (fine_names es h)) (fine_variables es es)) refl) refl) (fine_document es)

pub programs_are_fine : ProgramsAreFine
programs_are_fine d h = both _ true (both _ true (both _ true (fine_class d.elements h) refl) refl) refl

-- the elements of a source have ids
element_id : (e : Element) → IsElement e → IsId (id_of e)
element_id (element.Label id text) h = h.0
element_id (element.Button id None) h = h
element_id (element.Button id (Some text)) h = h.0

pub source_programs_are_fine : SourceProgramsAreFine
source_programs_are_fine name bytes d h =
    let es = h.is.elements in
    programs_are_fine d (record { ids = λ k x lt. element_id (get_or d.elements k x) (es.fine k x lt); distinct = es.distinct })

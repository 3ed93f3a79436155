-- The items that a tree stands for have no fault.
use Rattle.std.proofs.Common.{◌≡◌, ℕ, ◌+◌, ◌≤◌, List, [], ◌∷◌, ◌++◌, Bool, true, false, not, Option, None, Some, length, inl, inr, refl, ap, sym, ◌∙◌, subst, true≢false, append_assoc, MatchBool, arith}
use Rattle.std.proofs.lemmas.List.{map-append}
use Rattle.std.proofs.lemmas.Slice.Eq.{bytes_eq-Decides}
use Rattle.std.specs.Prelude.{◌&&◌, nat_le}
use Rattle.mxml_items.specs.Items as i
use Rattle.mxml_items.specs.Items.{Placed}
use Rattle.mxml_tree.specs.declared.fault.TreeCode.{TreeCode}
use Rattle.mxml_tree.specs.declared.fault.TreeCode.TheVariants as code
use Rattle.mxml_tree.specs.declared.tree.Element.{Element}
use Rattle.mxml_tree.specs.Faults.{Around, Fault, Open, at_start, fault, fault_of, fault_of_tag, first_fault, is_outside, is_unknown, own_prefixes, past, plain, prefixes_around}
use Rattle.mxml_tree.specs.IsTree.{AreNodes, ArePassedOver, IsElement, IsTagOf, is_passed_over}
use Rattle.mxml_tree.specs.Namespaces.{Declared, at_first}
use Rattle.mxml_tree.specs.Texts.{AreTexts}
use Rattle.mxml_tree.specs.Tree.{Elem, Chars, Nodes, NoNode, MoreNode}
use Rattle.mxml_tree.proofs.FaultLaws.{broken_later}
use Rattle.mxml_tree.proofs.KnownPrefixes.{prefixes_of, prefixes_declared, unknown_by_space}
use Rattle.mxml_tree.proofs.NodeLaws.{append_nil}
use Rattle.mxml_tree.proofs.TagFaults.{are_all_known}
use Rattle.mxml_tree.proofs.TextReading.{no_zero, text_fault, text_past, true_back, true_front}

-- items are read without a fault, from one place to another
abbrev pub AreFine : List Placed → Around → Around → Type 0
AreFine items around next = (left : List Placed) (end : ℕ) (rest : List ℕ) → first_fault (items ++ left) around end rest ≡ first_fault left next end rest

abbrev after : Placed → List Placed → Around → ℕ → List ℕ → Option TreeCode → Option Fault
after placed left around end rest found = elim found [ Some code ↦ Some (fault placed.at code) | None ↦ first_fault left (past placed.item around) end rest ]

one_fine : (placed : Placed) (around next : Around) → fault_of placed.item around ≡ None → past placed.item around ≡ next → AreFine (placed ∷ []) around next
one_fine placed around next none is left end rest = ap (after placed left around end rest) none ∙ ap (λ a. first_fault left a end rest) is

more_fine : (front back : List Placed) (around mid next : Around) → AreFine front around mid → AreFine back mid next → AreFine (front ++ back) around next
more_fine front back around mid next first second left end rest =
    ap (λ items. first_fault items around end rest) (append_assoc front back left) ∙ first (back ++ left) end rest ∙ second left end rest

passed_fine : (item : i.Item) (around : Around) → is_passed_over item ≡ true → (fault_of item around ≡ None) × (past item around ≡ around)
passed_fine i.Instruction around over = (refl, refl)
passed_fine i.Comment around over = (refl, refl)
passed_fine (i.Words content) around over = (text_fault (i.Words content) around refl (inr over), refl)
passed_fine (i.CData content) around over = absurd (true≢false (sym over))
passed_fine (i.Tag name attributes empty) around over = absurd (true≢false (sym over))
passed_fine (i.End_tag name) around over = absurd (true≢false (sym over))

pub all_passed_fine : (items : List Placed) (around : Around) → ArePassedOver items → AreFine items around around
all_passed_fine [] around over left end rest = refl
all_passed_fine (placed ∷ items) around over left end rest =
    let (none, same) = passed_fine placed.item around (true_front _ _ over) in
    one_fine placed around around none same (items ++ left) end rest ∙ all_passed_fine items around (true_back _ _ over) left end rest

texts_fine : (items : List Placed) (around : Around) → AreTexts items → is_outside around ≡ false → AreFine items around around
texts_fine [] around are inside left end rest = refl
texts_fine (placed ∷ items) around are inside left end rest =
    let text = true_front _ _ are in
    one_fine placed around around (text_fault placed.item around text (inl inside)) (text_past placed.item around text) (items ++ left) end rest
    ∙ texts_fine items around (true_back _ _ are) inside left end rest

-- elements are those around a level where these namespaces are declared
pub record Fits (elements : List Open) (level : ℕ) (declared : List Declared) : Type 0 where
  pub deep : length elements + 1 ≡ level
  pub prefixes : prefixes_around elements ≡ prefixes_of declared

abbrev with_root : Around → Around
with_root around = record around { rooted = true }

tag_fine : (elements : List Open) (level : ℕ) (element : Element) (declared own : List Declared) (name : List ℕ) (attributes : List i.Written) → Fits elements level declared → level ≤ 64 → IsTagOf element declared own name attributes → fault_of_tag elements name attributes ≡ None
tag_fine elements level element declared own name attributes fits less is =
    broken_later code.TooDeep _ _ (not_deep (length elements) (let deep = fits.deep in omega (arith, less, deep)))
    ∙ broken_later code.DuplicateAttribute _ _ is.no_attribute_twice
    ∙ broken_later code.UnknownPrefix (is_unknown (own_prefixes attributes ++ prefixes_around elements) name attributes) None known
  where
    not_deep : (n : ℕ) → n + 1 ≤ 64 → nat_le 64 n ≡ false
    not_deep n less = grind (arith, less)

    prefixes : own_prefixes attributes ++ prefixes_around elements ≡ prefixes_of (own ++ declared)
    prefixes =
        ap (λ ps. ps ++ prefixes_around elements) (prefixes_declared attributes own is.are_declared)
        ∙ ap (λ ps. prefixes_of own ++ ps) fits.prefixes
        ∙ sym (map-append (λ (d : Declared). d.prefix) own declared)

    known : is_unknown (own_prefixes attributes ++ prefixes_around elements) name attributes ≡ false
    known =
        ap (λ ps. is_unknown ps name attributes) prefixes
        ∙ unknown_by_space (own ++ declared) name attributes
        ∙ rw is.is_named.space (ap not (are_all_known (own ++ declared) (plain attributes) element.attributes is.are_attributes))

fits_inside : (elements : List Open) (level : ℕ) (declared own : List Declared) (name : List ℕ) (attributes : List i.Written) (element : Element) → Fits elements level declared → IsTagOf element declared own name attributes → Fits (record { name = name; prefixes = own_prefixes attributes } ∷ elements) (level + 1) (own ++ declared)
fits_inside elements level declared own name attributes element fits is =
    record {
      deep = (let deep = fits.deep in omega (arith, deep));
      prefixes =
          ap (λ ps. ps ++ prefixes_around elements) (prefixes_declared attributes own is.are_declared)
          ∙ ap (λ ps. prefixes_of own ++ ps) fits.prefixes
          ∙ sym (map-append (λ (d : Declared). d.prefix) own declared);
    }

-- what stands inside an element of a level is fine
abbrev InnerFine : (List Declared → List Placed → Type 0) → ℕ → Type 0
InnerFine Inner level =
    (declared : List Declared) (items : List Placed) (innermost : Open) (elements : List Open) → Inner declared items → Fits (innermost ∷ elements) level declared
    → AreFine items (record { elements = innermost ∷ elements; rooted = true }) (record { elements = innermost ∷ elements; rooted = true })

element_fine : (at : ℕ) (element : Element) (Inner : List Declared → List Placed → Type 0) (declared : List Declared) (level : ℕ) (items : List Placed) (around : Around) → InnerFine Inner (level + 1) → Fits around.elements level declared → (is_outside around && around.rooted) ≡ false → IsElement at element Inner declared level items → AreFine items around (with_root around)
element_fine at element Inner declared level items around inner_fine fits may e = subst (λ xs. AreFine xs around (with_root around)) (sym e.is) (by_form e.empty e.starts e.ends)
  where
    tag : fault_of_tag around.elements e.name e.attributes ≡ None
    tag = tag_fine around.elements level element declared e.own e.name e.attributes fits e.not_too_deep e.is_tag

    start_fine : (empty : Bool) → e.start.item ≡ i.Tag e.name e.attributes empty → fault_of e.start.item around ≡ None
    start_fine empty starts = rw starts (broken_later code.TextOutside _ _ may ∙ tag)

    by_form : (empty : Bool) → e.start.item ≡ i.Tag e.name e.attributes empty → MatchBool empty ((e.inner ≡ []) × (e.last ≡ [])) ((end : Placed) × (e.last ≡ end ∷ []) × (end.item ≡ i.End_tag e.name)) → AreFine (e.start ∷ e.inner ++ e.last) around (with_root around)
    by_form true starts (no_inner, no_last) =
        rw no_inner rw no_last (one_fine e.start around (with_root around) (start_fine true starts) (rw starts refl))
    by_form false starts (last, is_last, ends) =
        let innermost : Open = record { name = e.name; prefixes = own_prefixes e.attributes } in
        let inside : Around = record { elements = innermost ∷ around.elements; rooted = true } in
        let first = one_fine e.start around inside (start_fine false starts) (rw starts refl) in
        let second = inner_fine (e.own ++ declared) e.inner innermost around.elements e.stands_inside (fits_inside around.elements level declared e.own e.name e.attributes element fits e.is_tag) in
        let third = one_fine last inside (with_root around) (rw ends (broken_later code.WrongEnd _ _ (ap not ((bytes_eq-Decides e.name e.name).1 refl)))) (rw ends refl) in
        rw is_last (more_fine (e.start ∷ e.inner) (last ∷ []) around inside (with_root around) (more_fine (e.start ∷ []) e.inner around inside inside first second) third)

is_inside : (innermost : Open) (elements : List Open) → is_outside (record { elements = innermost ∷ elements; rooted = true }) ≡ false
is_inside innermost elements = no_zero (length (innermost ∷ elements)) (omega arith)

pub nodes_fine : (nodes : Nodes) (level : ℕ) → InnerFine (AreNodes nodes level) level
nodes_fine NoNode level declared items innermost elements over fits = all_passed_fine items _ over
nodes_fine (MoreNode (Elem at element nodes) others) level declared items innermost elements makes fits =
    let here : Around = record { elements = innermost ∷ elements; rooted = true } in
    let own = element_fine at element (AreNodes nodes (level + 1)) declared level makes.own here (nodes_fine nodes (level + 1)) fits (ap (λ t. t && true) (is_inside innermost elements)) makes.is_one in
    subst (λ xs. AreFine xs here here) (sym makes.is)
    (more_fine (makes.passed ++ makes.own) makes.others here here here (more_fine makes.passed makes.own here here here (all_passed_fine makes.passed here makes.passed_over) own) (nodes_fine others level declared makes.others innermost elements makes.go_on fits))
nodes_fine (MoreNode (Chars at characters) others) level declared items innermost elements makes fits =
    let here : Around = record { elements = innermost ∷ elements; rooted = true } in
    let own = texts_fine makes.own here makes.is_one.0.are_texts (is_inside innermost elements) in
    subst (λ xs. AreFine xs here here) (sym makes.is)
    (more_fine (makes.passed ++ makes.own) makes.others here here here (more_fine makes.passed makes.own here here here (all_passed_fine makes.passed here makes.passed_over) own) (nodes_fine others level declared makes.others innermost elements makes.go_on fits))

-- the items of a tree's root are fine from the beginning, and an element came
pub root_fine : (at : ℕ) (element : Element) (nodes : Nodes) (items : List Placed) → AreNodes (MoreNode (Elem at element nodes) NoNode) 1 at_first items → AreFine items at_start (with_root at_start)
root_fine at element nodes items makes =
    let own = element_fine at element (AreNodes nodes (1 + 1)) at_first 1 makes.own at_start (nodes_fine nodes (1 + 1)) (record { deep = refl; prefixes = refl }) refl makes.is_one in
    subst (λ xs. AreFine xs at_start (with_root at_start)) (sym makes.is)
    (more_fine (makes.passed ++ makes.own) makes.others at_start (with_root at_start) (with_root at_start) (more_fine makes.passed makes.own at_start at_start (with_root at_start) (all_passed_fine makes.passed at_start makes.passed_over) own) (all_passed_fine makes.others (with_root at_start) makes.go_on))

-- so nothing is at fault where they are all of a text
pub no_fault : (at : ℕ) (element : Element) (nodes : Nodes) (items : List Placed) (end : ℕ) → AreNodes (MoreNode (Elem at element nodes) NoNode) 1 at_first items → first_fault items at_start end [] ≡ None
no_fault at element nodes items end makes = ap (λ xs. first_fault xs at_start end []) (sym (append_nil items)) ∙ root_fine at element nodes items makes [] end []

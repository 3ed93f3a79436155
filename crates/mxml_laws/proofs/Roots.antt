-- The items of a whole text, where nothing is at fault, are those of a root, and no text stands behind them.
use Rattle.std.proofs.Common.{◌≡◌, ℕ, ◌+◌, List, [], ◌∷◌, ◌++◌, Bool, true, false, not, None, is_some, refl, ap, sym, ◌∙◌, subst, true≢false, append_assoc}
use Rattle.std.proofs.lemmas.Bool.{not-false}
use Rattle.std.specs.List.{list_all}
use Rattle.mxml_items.specs.Items as i
use Rattle.mxml_items.specs.Items.{Placed, Written}
use Rattle.mxml_items.specs.Pieces.{is_white}
use Rattle.mxml_items.proofs.RunLaws.{and_true}
use Rattle.mxml_tree.specs.declared.fault.TreeCode.TheVariants as code
use Rattle.mxml_tree.specs.declared.tree.Element.{Element}
use Rattle.mxml_tree.specs.Faults.{at_start, fault_of, fault_of_tag, first_fault, own_prefixes, past}
use Rattle.mxml_tree.specs.IsTree.{AreNodes, ArePassedOver, IsElement, is_passed_over}
use Rattle.mxml_tree.specs.Namespaces.{at_first}
use Rattle.mxml_tree.specs.Tree.{Elem, Nodes, NoNode, MoreNode}
use Rattle.mxml_tree.proofs.FaultLaws.{not_broken, others_not_broken}
use Rattle.mxml_tree.proofs.NodeLaws.{passed_in_front}
use Rattle.mxml_tree.proofs.NoFault.{Fits}
use Rattle.mxml_laws.proofs.Insides.{Inside, empty_element, inside, no_rest, nodes_inside, whole_element}
use Rattle.mxml_laws.proofs.Meanings.{HasMeaning, HaveMeanings}
use Rattle.mxml_laws.proofs.Tags.{ElementOf, element_of, fits_inside, with_end}
use Rattle.mxml_laws.proofs.Texts.{both_fine}

-- outside, an end tag closes nothing, and CDATA may not stand
no_end_tag : (name : List ℕ) (rooted : Bool) → fault_of (i.End_tag name) (record { elements = []; rooted = rooted }) ≡ None → ⊥
no_end_tag name rooted none = true≢false (ap is_some none)

no_cdata : (content : List ℕ) (rooted : Bool) → fault_of (i.CData content) (record { elements = []; rooted = rooted }) ≡ None → ⊥
no_cdata content rooted none = true≢false (ap is_some none)

-- behind the root all items are passed over
pub all_behind : (items : List Placed) (end : ℕ) (rest : List ℕ) → first_fault items (inside []) end rest ≡ None → ArePassedOver items × (rest ≡ [])
all_behind [] end [] none = (refl, refl)
all_behind [] end (b ∷ rest) none = absurd (no_rest end b rest (inside []) none)
all_behind (placed ∷ items) end rest none =
    let (first, second) = both_fine placed items (inside []) end rest none in
    by placed.item refl first second (all_behind items end rest)
  where
    one_more : is_passed_over placed.item ≡ true → ArePassedOver items × (rest ≡ []) → ArePassedOver (placed ∷ items) × (rest ≡ [])
    one_more over (others, ends) = (and_true (is_passed_over placed.item) _ over others, ends)

    by : (item : i.Item) → placed.item ≡ item → fault_of item (inside []) ≡ None → first_fault items (past item (inside [])) end rest ≡ None → (first_fault items (inside []) end rest ≡ None → ArePassedOver items × (rest ≡ [])) → ArePassedOver (placed ∷ items) × (rest ≡ [])
    by i.Instruction is no_fault fine further = one_more (ap is_passed_over is) (further fine)
    by i.Comment is no_fault fine further = one_more (ap is_passed_over is) (further fine)
    by (i.Words content) is no_fault fine further = one_more (ap is_passed_over is ∙ not-false (list_all is_white content) (not_broken code.TextOutside (not (list_all is_white content)) None no_fault)) (further fine)
    by (i.CData content) is no_fault fine further = absurd (no_cdata content true no_fault)
    by (i.End_tag name) is no_fault fine further = absurd (no_end_tag name true no_fault)
    by (i.Tag name attributes empty) is no_fault fine further = absurd (true≢false (not_broken code.TextOutside true (fault_of_tag [] name attributes) no_fault))

-- the root, and that nothing stands behind the items
pub record Rooted (items : List Placed) (rest : List ℕ) : Type 0 where
  pub at : ℕ
  pub element : Element
  pub nodes : Nodes
  pub are : AreNodes (MoreNode (Elem at element nodes) NoNode) 1 at_first items
  pub ends : rest ≡ []

rooted_by : (at : ℕ) (element : Element) (nodes : Nodes) (own left : List Placed) (rest : List ℕ) → IsElement at element (AreNodes nodes (1 + 1)) at_first 1 own → ArePassedOver left × (rest ≡ []) → Rooted (own ++ left) rest
rooted_by at element nodes own left rest is (behind, ends) =
    record { at = at; element = element; nodes = nodes; are = record { passed = []; own = own; others = left; is = refl; passed_over = refl; is_one = is; go_on = behind }; ends = ends }

fits : Fits [] 1 at_first
fits = record { deep = refl; prefixes = refl }

pub rooted : (items : List Placed) (end : ℕ) (rest : List ℕ) → HaveMeanings items → first_fault items at_start end rest ≡ None → Rooted items rest
rooted [] end [] have none = absurd (true≢false (ap is_some none))
rooted [] end (b ∷ rest) have none = absurd (no_rest end b rest at_start none)
rooted (placed ∷ items) end rest have none =
    let (first, second) = both_fine placed items at_start end rest none in
    by placed.item refl first second have.0 (rooted items end rest have.1)
  where
    past_one : is_passed_over placed.item ≡ true → Rooted items rest → Rooted (placed ∷ items) rest
    past_one over r = record { at = r.at; element = r.element; nodes = r.nodes; are = passed_in_front (MoreNode (Elem r.at r.element r.nodes) NoNode) 1 at_first (placed ∷ []) items (rw over refl) r.are; ends = r.ends }

    by_whole : (name : List ℕ) (attributes : List Written) → placed.item ≡ i.Tag name attributes false → (e : ElementOf at_first 1 name attributes placed.end)
        → Inside (e.own ++ at_first) (1 + 1) name [] end rest items → Rooted (placed ∷ items) rest
    by_whole name attributes is e s =
        subst (λ xs. Rooted xs rest) (ap (λ t. placed ∷ t) (append_assoc s.inner (s.last ∷ []) s.behind ∙ sym s.is))
        (rooted_by placed.at (with_end e s.last.end).element s.nodes (placed ∷ s.inner ++ s.last ∷ []) s.behind rest
        (whole_element at_first 1 placed name attributes s.inner s.last s.nodes is s.ends (with_end e s.last.end) s.are) (all_behind s.behind end rest s.fine))

    by_start : (name : List ℕ) (attributes : List Written) → placed.item ≡ i.Tag name attributes false → first_fault items (inside (record { name = name; prefixes = own_prefixes attributes } ∷ [])) end rest ≡ None → ElementOf at_first 1 name attributes placed.end → Rooted (placed ∷ items) rest
    by_start name attributes is fine e =
        by_whole name attributes is e
        (nodes_inside items (record { name = name; prefixes = own_prefixes attributes }) [] (1 + 1) (e.own ++ at_first) end rest have.1 (fits_inside [] 1 at_first e.own name attributes e.element fits e.is_tag) fine)

    by_empty : (name : List ℕ) (attributes : List Written) → placed.item ≡ i.Tag name attributes true → first_fault items (inside []) end rest ≡ None → ElementOf at_first 1 name attributes placed.end → Rooted (placed ∷ items) rest
    by_empty name attributes is fine e = rooted_by placed.at e.element NoNode (placed ∷ []) items rest (empty_element at_first 1 placed name attributes is e) (all_behind items end rest fine)

    by : (item : i.Item) → placed.item ≡ item → fault_of item at_start ≡ None → first_fault items (past item at_start) end rest ≡ None → HasMeaning item → (first_fault items at_start end rest ≡ None → Rooted items rest) → Rooted (placed ∷ items) rest
    by i.Instruction is no_fault fine has further = past_one (ap is_passed_over is) (further fine)
    by i.Comment is no_fault fine has further = past_one (ap is_passed_over is) (further fine)
    by (i.Words content) is no_fault fine has further = past_one (ap is_passed_over is ∙ not-false (list_all is_white content) (not_broken code.TextOutside (not (list_all is_white content)) None no_fault)) (further fine)
    by (i.CData content) is no_fault fine has further = absurd (no_cdata content false no_fault)
    by (i.End_tag name) is no_fault fine has further = absurd (no_end_tag name false no_fault)
    by (i.Tag name attributes true) is no_fault fine has further = by_empty name attributes is fine (element_of [] 1 at_first name attributes placed.end fits has (others_not_broken code.TextOutside false (fault_of_tag [] name attributes) no_fault))
    by (i.Tag name attributes false) is no_fault fine has further = by_start name attributes is fine (element_of [] 1 at_first name attributes placed.end fits has (others_not_broken code.TextOutside false (fault_of_tag [] name attributes) no_fault))

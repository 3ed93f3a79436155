-- A text has one tree or one first fault.
use Rattle.std.proofs.Common.{◌≡◌, ◌⊎◌, ℕ, suc, ◌+◌, ◌-◌, ◌∷◌, ◌≤◌, List, [], Option, None, Some, length, inl, inr, refl, ap, sym, ◌∙◌, subst, true≢false, arith}
use Rattle.std.proofs.lemmas.List.{take_all}
use Rattle.std.specs.Prelude.{IsUtf8, is_some, option_map}
use Rattle.std.specs.Str.{IsValidUpTo}
use Rattle.mxml_items.specs.Items.{AreItems, Placed}
use Rattle.mxml_tree.specs.declared.fault.TreeCode.{TreeCode}
use Rattle.mxml_tree.specs.Faults.{Around, Fault, at_start, fault, fault_at_end, fault_of, first_fault, past}
use Rattle.mxml_tree.specs.IsTree.{AreNodes, In_bytes, In_items, IsTree}
use Rattle.mxml_tree.specs.Laws.{IsFaultWithin, IsNeverBoth, IsOneFault, IsOneTree}
use Rattle.mxml_tree.specs.Namespaces.{at_first}
use Rattle.mxml_tree.specs.Tree.{Node, Elem, Nodes, NoNode, MoreNode, table_of}
use Rattle.mxml_items.proofs.TextLaws.{begun_is_short}
use Rattle.mxml_tree.proofs.NoFault.{no_fault}
use Rattle.mxml_tree.proofs.OneTree.{same_nodes}
use Rattle.mxml_tree.proofs.SameItems.{consists_of_one}

abbrev first_node : Node → Nodes → Node
first_node default NoNode = default
first_node default (MoreNode node nodes) = node

same_root : (text : List ℕ) (root other : Node) → IsTree root text → IsTree other text → root ≡ other
same_root text root other is was =
    let items = (consists_of_one is.items was.items _ _ _ _ text is.whole was.whole).0 in
    let one : AreNodes (MoreNode root NoNode) 1 at_first is.items = is.one in
    let two : AreNodes (MoreNode other NoNode) 1 at_first is.items = subst (AreNodes (MoreNode other NoNode) 1 at_first) (sym items) was.one in
    ap (first_node root) (same_nodes (MoreNode root NoNode) (MoreNode other NoNode) 1 at_first is.items is.items [] [] one two tt tt refl).0

pub one_tree : IsOneTree
one_tree text nodes others has had = has.is ∙ ap table_of (same_root text has.root had.root has.is_tree had.is_tree) ∙ sym had.is

order : (m n : ℕ) → (m ≡ n) ⊎ ((suc m ≤ n) ⊎ (suc n ≤ m))
order m n = grind arith

same_place : (text : List ℕ) (m n : ℕ) → IsValidUpTo text m → IsValidUpTo text n → m ≡ n
same_place text m n is was = by (order m n)
  where
    by : (m ≡ n) ⊎ ((suc m ≤ n) ⊎ (suc n ≤ m)) → m ≡ n
    by (inl same) = same
    by (inr (inl less)) = absurd (is.longest n less was.front)
    by (inr (inr more)) = absurd (was.longest m more is.front)

not_both : (text : List ℕ) (n : ℕ) → IsValidUpTo text n → IsUtf8 text → ⊥
not_both text n is utf8 = is.longest (length text) is.short (subst IsUtf8 (sym (take_all (length text) text (omega arith))) utf8)

same_fault : (f g : Fault) → f.code ≡ g.code → f.at ≡ g.at → f ≡ g
same_fault f g codes places k = record { code = codes k; at = places k }

abbrev fault_or : Fault → Option Fault → Fault
fault_or default None = default
fault_or default (Some f) = f

pub one_fault : IsOneFault
one_fault text f g (In_bytes code place) (In_bytes other where_else) = same_fault f g (code ∙ sym other) (same_place text f.at g.at place where_else)
one_fault text f g (In_bytes code place) (In_items items end rest consists is) = absurd (not_both text f.at place consists.utf8)
one_fault text f g (In_items items end rest consists is) (In_bytes code place) = absurd (not_both text g.at place consists.utf8)
one_fault text f g (In_items xs end rest consists is) (In_items ys end2 rest2 consists2 was) =
    let (items, ends, rests) = consists_of_one xs ys end end2 rest rest2 text consists consists2 in
    ap (fault_or f)
    (sym is
    ∙ ap (λ items. first_fault items at_start end rest) items
    ∙ ap (λ end. first_fault ys at_start end rest) ends
    ∙ ap (first_fault ys at_start end2) rests
    ∙ was)

pub never_both : IsNeverBoth
never_both text nodes f has (In_bytes code place) = not_both text f.at place has.is_tree.whole.utf8
never_both text nodes f has (In_items items end rest consists is) =
    let tree = has.is_tree in
    let (same, ends, rests) = consists_of_one items tree.items end (length text) rest [] text consists tree.whole in
    let root : AreNodes (MoreNode (Elem tree.at tree.element tree.nodes) NoNode) 1 at_first tree.items = subst (λ root. AreNodes (MoreNode root NoNode) 1 at_first tree.items) tree.is_element tree.one in
    true≢false
    (sym (ap is_some is)
    ∙ ap (λ items. is_some (first_fault items at_start end rest)) same
    ∙ ap (λ rest. is_some (first_fault tree.items at_start end rest)) rests
    ∙ ap is_some (no_fault tree.at tree.element tree.nodes tree.items end root))

-- the first fault of items stands at one of them, or where they end
within_items : (items : List Placed) (around : Around) (end : ℕ) (rest : List ℕ) (at : ℕ) (text : List ℕ) (f : Fault) → AreItems items end rest at text → first_fault items around end rest ≡ Some f → f.at ≤ at + length text
within_items [] around end rest at text f (ends, _) is = by (fault_at_end around rest) is
  where
    by : (found : Option TreeCode) → option_map (fault end) found ≡ Some f → f.at ≤ at + length text
    by None none = absurd (true≢false (sym (ap is_some none)))
    by (Some code) same = (let place = ap (λ o. (fault_or f o).at) same in omega (arith, place, ends))
within_items (placed ∷ items) around end rest at text f are is =
    by (fault_of placed.item around) is (λ rest_is. within_items items (past placed.item around) end rest placed.end are.rest f are.go_on rest_is)
  where
    by : (found : Option TreeCode) → elim found [ Some code ↦ Some (fault placed.at code) | None ↦ first_fault items (past placed.item around) end rest ] ≡ Some f → (first_fault items (past placed.item around) end rest ≡ Some f → f.at ≤ placed.end + length are.rest) → f.at ≤ at + length text
    by (Some code) same later = (let place = ap (λ o. (fault_or f o).at) same in let stands = are.stands in omega (arith, place, stands))
    by None same later = (let less = later same in let ends = are.ends in omega (arith, less, ends))

pub fault_within : IsFaultWithin
fault_within text f (In_bytes code place) = (let short = place.short in omega (arith, short))
fault_within text f (In_items items end rest consists is) =
    let less = within_items items at_start end rest (length text - length consists.begun) consists.begun f consists.are is in
    let begun = begun_is_short text consists.begun consists.is_begun in
    omega (arith, less, begun)

-- What the state of a reading stands for behind an end tag, and where all items are read.
use Rattle.std.proofs.Common.{◌≡◌, ℕ, ◌==◌, List, [], ◌∷◌, ◌++◌, Bool, true, false, not, Option, None, Some, length, map, reverse, drop, refl, ap, sym, ◌∙◌, true≢false, arith}
use Rattle.std.proofs.lemmas.List.{length-set, reverse-append}
use Rattle.std.proofs.lemmas.Slice.Eq.{bytes_eq-Decides}
use Rattle.std.specs.Prelude.{is_some, slice_get, slice_set, codes}
use Rattle.std.specs.List.{starts_with}
use Rattle.mxml_items.specs.Items as i
use Rattle.mxml_items.specs.Items.{Placed}
use Rattle.mxml_tree.specs.declared.building.Building.{Building}
use Rattle.mxml_tree.specs.declared.elements.OpenElement.{OpenElement}
use Rattle.mxml_tree.specs.declared.fault.TreeCode.{TreeCode}
use Rattle.mxml_tree.specs.declared.fault.TreeCode.TheVariants as code
use Rattle.mxml_tree.specs.declared.tree.Node as Row
use Rattle.mxml_tree.specs.Building.{AreAtMostRoot, Finishes, Holds, IsDone, Nest, Outside, Inside, Stands, around, end_at, ended, opened_in, table}
use Rattle.mxml_tree.specs.Faults.{closes, fault_at_end, is_outside, past}
use Rattle.mxml_tree.specs.Opened.{open_of}
use Rattle.mxml_tree.specs.Tree.{Elem, Chars, Nodes, NoNode, MoreNode, rows_of, table_of}
use Rattle.mxml_tree.proofs.FaultLaws.{AreLeft, one_read, broken_later}
use Rattle.mxml_tree.proofs.NestLaws.{all_hold, holds_closed}
use Rattle.mxml_tree.proofs.NodeLaws.{append_nil}
use Rattle.mxml_tree.proofs.StandsLaws.{opened_with_child, zero_is}
use Rattle.mxml_tree.proofs.TableLaws.{closed, table_closed, with_child}

abbrev with_found : ℕ → ℕ → List Row.Node → Option Row.Node → List Row.Node
with_found number end nodes found = elim found [ Some row ↦ slice_set nodes number (ended end row) | None ↦ nodes ]

same_length : (number end : ℕ) (nodes : List Row.Node) → length (end_at number end nodes) ≡ length nodes
same_length number end nodes = go (slice_get nodes number)
  where
    go : (found : Option Row.Node) → length (with_found number end nodes found) ≡ length nodes
    go None = refl
    go (Some row) = length-set nodes number (ended end row)

pub stands_closed : (all left : List Placed) (b new : Building) (placed : Placed) (name : List ℕ) (element : OpenElement) → placed.item ≡ i.End_tag name → closes name (map open_of (reverse b.opened.items)) ≡ true → b.opened.items ≡ new.opened.items ++ element ∷ [] → new.nodes ≡ end_at element.node placed.end b.nodes → Stands all (placed ∷ left) b → Stands all left new
stands_closed all left b new placed name element is may is_last nodes stands = go stands.nest stands.holds (stands.opened ∙ reversed) stands.nodes
  where
    reversed : reverse b.opened.items ≡ element ∷ reverse new.opened.items
    reversed = ap reverse is_last ∙ reverse-append new.opened.items (element ∷ [])

    same_name : name ≡ element.name.now
    same_name = (bytes_eq-Decides name element.name.now).0 (ap (λ opened. closes name (map open_of opened)) (sym reversed) ∙ may)

    around_new : past placed.item (around b) ≡ around new
    around_new = rw is rw reversed rw nodes rw (same_length element.node placed.end b.nodes) refl

    faults : AreLeft all left (around new)
    faults = one_read all left placed (around b) (around new) stands.faults (rw is (broken_later code.WrongEnd _ _ (ap not may))) around_new

    first : OpenElement → List OpenElement → OpenElement
    first default [] = default
    first default (x ∷ xs) = x

    go : (nest : Nest) → Holds all nest (placed ∷ left) → opened_in nest ≡ element ∷ reverse new.opened.items → b.nodes ≡ table nest → Stands all left new
    go (Outside done items) holds opened is_table = absurd (true≢false (sym (ap is_open opened)))
      where
        is_open : List OpenElement → Bool
        is_open [] = false
        is_open (x ∷ xs) = true
    go (Inside begun done items outer) holds opened is_table =
        let same : begun.opened ≡ element = ap (first element) opened in
        let own = begun.start ∷ items ++ placed ∷ [] in
        record {
          nest = with_child outer (closed begun placed.end done) own;
          holds = holds_closed all begun done items outer placed left (is ∙ ap i.End_tag (same_name ∙ ap (λ (e : OpenElement). e.name.now) (sym same))) holds;
          opened = opened_with_child outer (closed begun placed.end done) own ∙ ap (drop 1) opened;
          nodes =
              nodes
              ∙ ap (λ (e : OpenElement). end_at e.node placed.end b.nodes) (sym same)
              ∙ ap (λ number. end_at number placed.end b.nodes) holds.0.number
              ∙ ap (end_at (length (table outer)) placed.end) is_table
              ∙ sym (table_closed begun done items outer placed.end own);
          faults = faults;
        }

abbrev rest_code : Bool → Option TreeCode
rest_code doctype = elim doctype [ true ↦ Some code.Doctype | false ↦ Some code.NotAnItem ]

abbrev end_code : Bool → Bool → Option TreeCode
end_code outside rooted = elim outside [ false ↦ Some code.Unclosed | true ↦ elim rooted [ true ↦ None | false ↦ Some code.NoRoot ] ]

nothing_at_end : (b : Building) (rest : List ℕ) → fault_at_end (around b) rest ≡ None → rest ≡ []
nothing_at_end b [] none = refl
nothing_at_end b (c ∷ rest) none = absurd (true≢false (two (starts_with ◌==◌ (c ∷ rest) (codes "<!DOCTYPE")) none))
  where
    two : (t : Bool) → rest_code t ≡ None → true ≡ false
    two true none = ap is_some none
    two false none = ap is_some none

pub finishes : (b : Building) (rest : List ℕ) → fault_at_end (around b) rest ≡ None → Finishes b rest b.nodes
finishes b rest none all stands =
    go stands.nest stands.holds stands.opened stands.nodes
  where
    nothing : rest ≡ []
    nothing = nothing_at_end b rest none

    outside : (t s : Bool) → end_code t s ≡ None → t ≡ true
    outside true s none = refl
    outside false s none = absurd (true≢false (ap is_some none))

    rooted : (t s : Bool) → end_code t s ≡ None → s ≡ true
    rooted t true none = refl
    rooted true false none = absurd (true≢false (ap is_some none))
    rooted false false none = absurd (true≢false (ap is_some none))

    at_end : fault_at_end (around b) [] ≡ None
    at_end = ap (fault_at_end (around b)) (sym nothing) ∙ none

    is_out : is_outside (around b) ≡ true
    is_out = outside _ (around b).rooted at_end

    is_rooted : not (length b.nodes == 0) ≡ true
    is_rooted = rooted (is_outside (around b)) _ at_end

    root : (done : Nodes) (items : List Placed) → Holds all (Outside done items) [] → AreAtMostRoot done → b.nodes ≡ rows_of None 0 done → IsDone b rest all b.nodes
    root NoNode items holds at_most nodes = absurd (true≢false (sym is_rooted ∙ ap (λ ns. not (length ns == 0)) nodes))
    root (MoreNode (Elem at element inner) NoNode) items holds at_most nodes =
        record {
          nothing_behind = nothing;
          at = at;
          element = element;
          inner = inner;
          is_table = nodes ∙ append_nil (table_of (Elem at element inner));
          are_nodes = all_hold all (MoreNode (Elem at element inner) NoNode) items holds;
        }
    root (MoreNode (Elem at element inner) (MoreNode node others)) items holds at_most nodes = absurd at_most
    root (MoreNode (Chars at characters) others) items holds at_most nodes = absurd at_most

    go : (nest : Nest) → Holds all nest [] → opened_in nest ≡ reverse b.opened.items → b.nodes ≡ table nest → IsDone b rest all b.nodes
    go (Outside done items) holds opened nodes = root done items holds holds.1 nodes
    go (Inside begun done items outer) holds opened nodes =
        let none_open = zero_is (length (map open_of (reverse b.opened.items))) is_out in
        let long = ap (λ es. length (map open_of es)) opened in
        absurd (omega (arith, none_open, long))

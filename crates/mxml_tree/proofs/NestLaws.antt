-- What holds of a nest as items are read.
use Rattle.std.proofs.Common.{◌≡◌, ℕ, ◌+◌, ◌≤◌, List, [], ◌∷◌, ◌++◌, true, false, length, refl, sym, ◌∙◌, subst, append_assoc, arith}
use Rattle.mxml_items.specs.Items as i
use Rattle.mxml_items.specs.Items.{Placed}
use Rattle.mxml_tree.specs.declared.tree.Element.{Element}
use Rattle.mxml_tree.specs.Building.{AreAtMostRoot, Begins, Begun, Holds, MayBegin, Nest, Outside, Inside, level_in, opened_in, with_node}
use Rattle.mxml_tree.specs.IsTree.{AreNodes, ArePassedOver, IsNode, IsTagOf}
use Rattle.mxml_tree.specs.Namespaces.{Declared, at_first}
use Rattle.mxml_tree.specs.Opened.{declared_in, own_of}
use Rattle.mxml_tree.specs.Tree.{Node, Elem, Nodes, NoNode}
use Rattle.mxml_tree.proofs.NodeLaws.{append_nil, nothing_goes_on, goes_on_past, goes_on_with, all_gone_on}
use Rattle.mxml_tree.proofs.TableLaws.{closed, with_child, with_passed}

-- a nest may have the node next
abbrev pub MayTake : Nest → Node → Type 0
MayTake (Outside done items) node = AreAtMostRoot (with_node done node)
MayTake (Inside begun done items outer) node = Unit {0}

element_begins : (outer : Nest) (at : ℕ) (element : Element) (nodes : Nodes) → MayBegin outer → MayTake outer (Elem at element nodes)
element_begins (Outside done items) at element nodes may = subst (λ ns. AreAtMostRoot (with_node ns (Elem at element nodes))) (sym may) tt
element_begins (Inside begun done items outer) at element nodes may = tt

pub holds_at_first : (all : List Placed) → Holds all (Outside NoNode []) all
holds_at_first all = (refl, tt, nothing_goes_on at_first 1 all)

pub holds_past : (all : List Placed) (nest : Nest) (passed left : List Placed) → ArePassedOver passed → Holds all nest (passed ++ left) → Holds all (with_passed nest passed) left
holds_past all (Outside done items) passed left over (is, root, go_on) = (append_assoc items passed left ∙ is, root, goes_on_past at_first 1 done items passed left over go_on)
holds_past all (Inside begun done items outer) passed left over (begins, around, go_on) =
    (begins, subst (λ t. Holds all outer (begun.start ∷ t)) (sym (append_assoc items passed left)) around, goes_on_past _ (level_in outer + 1) done items passed left over go_on)

pub holds_with : (all : List Placed) (nest : Nest) (node : Node) (own left : List Placed) → MayTake nest node → ((inner behind : List Placed) → inner ++ behind ≡ left → IsNode node (declared_in (opened_in nest)) (level_in nest) own inner) → Holds all nest (own ++ left) → Holds all (with_child nest node own) left
holds_with all (Outside done items) node own left may is_node (is, root, go_on) = (append_assoc items own left ∙ is, may, goes_on_with at_first 1 done node items own left is_node go_on)
holds_with all (Inside begun done items outer) node own left may is_node (begins, around, go_on) =
    (begins, subst (λ t. Holds all outer (begun.start ∷ t)) (sym (append_assoc items own left)) around, goes_on_with _ (level_in outer + 1) done node items own left is_node go_on)

pub holds_open : (all : List Placed) (outer : Nest) (begun : Begun) (left : List Placed) → Begins begun outer → Holds all outer (begun.start ∷ left) → Holds all (Inside begun NoNode [] outer) left
holds_open all outer begun left begins holds = (begins, holds, nothing_goes_on _ (level_in outer + 1) left)

with_end : (element : Element) (end : ℕ) (declared own : List Declared) (name : List ℕ) (attributes : List i.Written) → IsTagOf element declared own name attributes → IsTagOf (record element { end = end }) declared own name attributes
with_end element end declared own name attributes is =
    record {
      are_declared = is.are_declared;
      no_attribute_twice = is.no_attribute_twice;
      is_named = record { space = is.is_named.space; local = is.is_named.local };
      are_attributes = is.are_attributes;
    }

pub holds_closed : (all : List Placed) (begun : Begun) (done : Nodes) (items : List Placed) (outer : Nest) (last : Placed) (left : List Placed) → last.item ≡ i.End_tag begun.opened.name.now → Holds all (Inside begun done items outer) (last ∷ left) → Holds all (with_child outer (closed begun last.end done) (begun.start ∷ items ++ last ∷ [])) left
holds_closed all begun done items outer last left ends (begins, around, go_on) =
    let node = closed begun last.end done in
    let own = begun.start ∷ items ++ last ∷ [] in
    holds_with all outer node own left (element_begins outer _ _ _ begins.may)
    (λ inner behind same. record {
      start = begun.start;
      inner = items;
      last = last ∷ [];
      is = refl;
      name = begun.opened.name.now;
      attributes = begins.attributes;
      empty = false;
      starts = begins.starts;
      ends = (last, refl, ends);
      not_too_deep = begins.not_too_deep;
      own = own_of begun.opened.declarations;
      is_tag = with_end begun.element last.end _ _ _ _ begins.is_tag;
      stands = refl;
      stops = refl;
      stands_inside = all_gone_on _ _ done items (last ∷ left) go_on;
    })
    (subst (λ t. Holds all outer (begun.start ∷ t)) (sym (append_assoc items (last ∷ []) left)) around)

pub holds_empty : (all : List Placed) (nest : Nest) (start : Placed) (element : Element) (name : List ℕ) (attributes : List i.Written) (own : List Declared) (left : List Placed) → start.item ≡ i.Tag name attributes true → MayBegin nest → level_in nest ≤ 64 → IsTagOf element (declared_in (opened_in nest)) own name attributes → element.end ≡ start.end → Holds all nest (start ∷ left) → Holds all (with_child nest (Elem start.at element NoNode) (start ∷ [])) left
holds_empty all nest start element name attributes own left starts may not_too_deep is_tag stops holds =
    holds_with all nest (Elem start.at element NoNode) (start ∷ []) left (element_begins nest _ _ _ may)
    (λ inner behind same. record {
      start = start;
      inner = [];
      last = [];
      is = refl;
      name = name;
      attributes = attributes;
      empty = true;
      starts = starts;
      ends = (refl, refl);
      not_too_deep = not_too_deep;
      own = own;
      is_tag = is_tag;
      stands = refl;
      stops = stops;
      stands_inside = refl;
    })
    holds

pub all_hold : (all : List Placed) (done : Nodes) (items : List Placed) → Holds all (Outside done items) [] → AreNodes done 1 at_first all
all_hold all done items (is, root, go_on) = subst (AreNodes done 1 at_first) (sym (append_nil items) ∙ is) (all_gone_on at_first 1 done items [] go_on)

pub level_is : (nest : Nest) → level_in nest ≡ length (opened_in nest) + 1
level_is (Outside done items) = refl
level_is (Inside begun done items outer) = (let is = level_is outer in omega (arith, is))

-- Nodes of a level: what items that are passed over and one more node add to them.
use Rattle.std.proofs.Common.{◌≡◌, ℕ, List, [], ◌∷◌, ◌++◌, Bool, true, refl, ap, sym, ◌∙◌, subst, append_assoc}
use Rattle.std.proofs.lemmas.List.Folds.{list_all-append}
use Rattle.std.specs.Prelude.{◌&&◌}
use Rattle.mxml_items.specs.Items.{Placed}
use Rattle.mxml_tree.specs.Building.{GoesOn, with_node, with_nodes}
use Rattle.mxml_tree.specs.IsTree.{AreNodes, ArePassedOver, IsNode, is_passed_over}
use Rattle.mxml_tree.specs.Namespaces.{Declared}
use Rattle.mxml_tree.specs.Tree.{Node, Nodes, NoNode, MoreNode}

pub append_nil : {A : Type 0} (xs : List A) → xs ++ [] ≡ xs
append_nil [] = refl
append_nil (x ∷ xs) = ap (λ t. x ∷ t) (append_nil xs)

pub with_none : (nodes : Nodes) → with_nodes nodes NoNode ≡ nodes
with_none NoNode = refl
with_none (MoreNode node nodes) = ap (MoreNode node) (with_none nodes)

with_more : (done : Nodes) (node : Node) (nodes : Nodes) → with_nodes (with_node done node) nodes ≡ with_nodes done (MoreNode node nodes)
with_more NoNode node nodes = refl
with_more (MoreNode first done) node nodes = ap (MoreNode first) (with_more done node nodes)

both_true : (x y : Bool) → x ≡ true → y ≡ true → (x && y) ≡ true
both_true x y is also = rw is also

pub passed_in_front : (nodes : Nodes) (level : ℕ) (declared : List Declared) (passed items : List Placed) → ArePassedOver passed → AreNodes nodes level declared items → AreNodes nodes level declared (passed ++ items)
passed_in_front NoNode level declared passed items over are = list_all-append (λ (placed : Placed). is_passed_over placed.item) passed items ∙ both_true _ _ over are
passed_in_front (MoreNode node nodes) level declared passed items over makes =
    record {
      passed = passed ++ makes.passed;
      own = makes.own;
      others = makes.others;
      is = ap (λ t. passed ++ t) makes.is ∙ sym (append_assoc passed (makes.passed ++ makes.own) makes.others) ∙ ap (λ t. t ++ makes.others) (sym (append_assoc passed makes.passed makes.own));
      passed_over = list_all-append (λ (placed : Placed). is_passed_over placed.item) passed makes.passed ∙ both_true _ _ over makes.passed_over;
      is_one = makes.is_one;
      go_on = makes.go_on;
    }

pub nothing_goes_on : (declared : List Declared) (level : ℕ) (left : List Placed) → GoesOn declared level NoNode [] left
nothing_goes_on declared level left nodes inner behind same are = are

pub goes_on_past : (declared : List Declared) (level : ℕ) (done : Nodes) (items passed left : List Placed) → ArePassedOver passed → GoesOn declared level done items (passed ++ left) → GoesOn declared level done (items ++ passed) left
goes_on_past declared level done items passed left over go_on nodes inner behind same are =
    subst (AreNodes (with_nodes done nodes) level declared) (sym (append_assoc items passed inner))
    (go_on nodes (passed ++ inner) behind (append_assoc passed inner behind ∙ ap (λ t. passed ++ t) same) (passed_in_front nodes level declared passed inner over are))

pub goes_on_with : (declared : List Declared) (level : ℕ) (done : Nodes) (node : Node) (items own left : List Placed) → ((inner behind : List Placed) → inner ++ behind ≡ left → IsNode node declared level own inner) → GoesOn declared level done items (own ++ left) → GoesOn declared level (with_node done node) (items ++ own) left
goes_on_with declared level done node items own left is_node go_on nodes inner behind same are =
    subst (λ ns. AreNodes ns level declared ((items ++ own) ++ inner)) (sym (with_more done node nodes))
    (subst (AreNodes (with_nodes done (MoreNode node nodes)) level declared) (sym (append_assoc items own inner))
    (go_on (MoreNode node nodes) (own ++ inner) behind (append_assoc own inner behind ∙ ap (λ t. own ++ t) same)
    (record { passed = []; own = own; others = inner; is = refl; passed_over = refl; is_one = is_node inner behind same; go_on = are })))

pub all_gone_on : (declared : List Declared) (level : ℕ) (done : Nodes) (items left : List Placed) → GoesOn declared level done items left → AreNodes done level declared items
all_gone_on declared level done items left go_on =
    subst (λ ns. AreNodes ns level declared items) (with_none done)
    (subst (AreNodes (with_nodes done NoNode) level declared) (append_nil items) (go_on NoNode [] left refl refl))

-- What the state of a reading stands for, as items are read.
use Rattle.std.proofs.Common.{◌≡◌, ℕ, ◌+◌, ◌≤◌, ◌==◌, List, [], ◌∷◌, ◌++◌, Bool, true, false, not, Option, None, Some, length, map, reverse, refl, ap, sym, ◌∙◌, subst, true≢false, Bor, arith}
use Rattle.std.proofs.lemmas.List.{length-append, length-map, reverse-append}
use Rattle.std.specs.Prelude.{◌&&◌, nat_le}
use Rattle.flex_base.specs.declared.sequence.Sequence.{Sequence}
use Rattle.mxml_items.specs.declared.item.Item as Code
use Rattle.mxml_items.specs.declared.item.Attribute as Code_attribute
use Rattle.mxml_items.specs.declared.item.Item.TheVariants as item
use Rattle.mxml_items.specs.Items as i
use Rattle.mxml_items.specs.Reading.{item_of}
use Rattle.mxml_items.specs.Items.{Placed}
use Rattle.mxml_tree.specs.declared.building.Building.{Building}
use Rattle.mxml_tree.specs.declared.elements.Declaration.{Declaration}
use Rattle.mxml_tree.specs.declared.fault.TreeCode.TheVariants as code
use Rattle.mxml_tree.specs.declared.tree.Element.{Element}
use Rattle.mxml_tree.specs.declared.tree.Node as Row
use Rattle.mxml_tree.specs.declared.tree.NodeKind.TheVariants as kind
use Rattle.mxml_tree.specs.Building.{Adds, Begins, BeginsIn, Begun, Holds, MayBegin, Nest, Outside, Inside, Opens, Stands, around, innermost, is_after_root, level_in, opened_in, parent_in, table}
use Rattle.mxml_tree.specs.Faults.{Around, fault_of, fault_of_tag, is_outside, past}
use Rattle.mxml_tree.specs.IsTree.{IsTagOf, is_passed_over}
use Rattle.mxml_tree.specs.Opened.{declared_in, open_of, own_of}
use Rattle.mxml_tree.specs.Texts.{is_text}
use Rattle.mxml_tree.specs.Tree.{Node, Elem, Chars, Nodes, NoNode, MoreNode, rows_of}
use Rattle.mxml_tree.proofs.FaultLaws.{one_read, not_broken, broken_later}
use Rattle.mxml_tree.proofs.NestLaws.{holds_at_first, holds_past, holds_open, holds_empty, level_is}
use Rattle.mxml_tree.proofs.TableLaws.{table_with_child, table_with_passed, with_child, with_passed}

pub stands_at_first : (all : List Placed) (b : Building) → b.opened.items ≡ [] → b.nodes ≡ [] → Stands all all b
stands_at_first all b none no_node =
    record {
      nest = Outside NoNode [];
      holds = holds_at_first all;
      opened = sym (ap reverse none);
      nodes = no_node;
      faults = λ end rest. rw none rw no_node refl;
    }

pub opened_with_passed : (nest : Nest) (passed : List Placed) → opened_in (with_passed nest passed) ≡ opened_in nest
opened_with_passed (Outside done items) passed = refl
opened_with_passed (Inside begun done items outer) passed = refl

pub opened_with_child : (nest : Nest) (node : Node) (own : List Placed) → opened_in (with_child nest node own) ≡ opened_in nest
opened_with_child (Outside done items) node own = refl
opened_with_child (Inside begun done items outer) node own = refl

-- an item that says nothing is read
pub stands_past : (all left : List Placed) (placed : Placed) (b : Building) → is_passed_over placed.item ≡ true → fault_of placed.item (around b) ≡ None → past placed.item (around b) ≡ around b → Stands all (placed ∷ left) b → Stands all left b
stands_past all left placed b over none same stands =
    record {
      nest = with_passed stands.nest (placed ∷ []);
      holds = holds_past all stands.nest (placed ∷ []) left (rw over refl) stands.holds;
      opened = opened_with_passed stands.nest (placed ∷ []) ∙ stands.opened;
      nodes = stands.nodes ∙ sym (table_with_passed stands.nest (placed ∷ []));
      faults = one_read all left placed (around b) (around b) stands.faults none same;
    }

-- what an instruction and a comment are
pub says_nothing : (it : Code.Item) (around : Around) → ((name : Bor (List ℕ)) (attributes : Sequence Code_attribute.Attribute) (empty : Bool) → it ≡ item.Tag name attributes empty → ⊥) → ((name : Bor (List ℕ)) → it ≡ item.EndTag name → ⊥) → is_text (item_of it) ≡ false → (is_passed_over (item_of it) ≡ true) × (fault_of (item_of it) around ≡ None) × (past (item_of it) around ≡ around)
says_nothing item.Instruction around no_tag no_end no_text = (refl, refl, refl)
says_nothing item.Comment around no_tag no_end no_text = (refl, refl, refl)
says_nothing (item.CData content) around no_tag no_end no_text = absurd (true≢false no_text)
says_nothing (item.Words content) around no_tag no_end no_text = absurd (true≢false no_text)
says_nothing (item.Tag name attributes empty) around no_tag no_end no_text = absurd (no_tag name attributes empty refl)
says_nothing (item.EndTag name) around no_tag no_end no_text = absurd (no_end name refl)

pub parent_is : (all left : List Placed) (nest : Nest) → Holds all nest left → parent_in nest ≡ innermost (opened_in nest)
parent_is all left (Outside done items) holds = refl
parent_is all left (Inside begun done items outer) (begins, _, _) = ap Some (sym begins.number)

no_rows : (parent : Option ℕ) (n : ℕ) (nodes : Nodes) → length (rows_of parent n nodes) ≡ 0 → nodes ≡ NoNode
no_rows parent n NoNode none = refl
no_rows parent n (MoreNode (Elem at element nodes) others) none =
    let own = rows_of (Some n) (n + 1) nodes in
    let row : Row.Node = record { parent = parent; at = at; kind = kind.Element element } in
    let long = length-append (row ∷ own) (rows_of parent (n + length (row ∷ own)) others) in
    absurd (omega (arith, none, long))
no_rows parent n (MoreNode (Chars at characters) others) none = absurd (omega (arith, none))

pub zero_is : (n : ℕ) → (n == 0) ≡ true → n ≡ 0
zero_is n is = grind (arith, is)

may_begin : (all left : List Placed) (b : Building) (stands : Stands all left b) → is_after_root b ≡ false → MayBegin stands.nest
may_begin all left b stands not_after = go stands.nest stands.opened stands.nodes
  where
    not_rooted : (outside zero : Bool) → outside ≡ true → (outside && not zero) ≡ false → zero ≡ true
    not_rooted true true is none = refl
    not_rooted true false is none = absurd (true≢false none)
    not_rooted false zero is none = absurd (true≢false (sym is))

    go : (nest : Nest) → opened_in nest ≡ reverse b.opened.items → b.nodes ≡ table nest → MayBegin nest
    go (Outside done items) opened nodes =
        let outside : is_outside (around b) ≡ true = rw (sym opened) refl in
        let none = zero_is (length b.nodes) (not_rooted _ (length b.nodes == 0) outside not_after) in
        no_rows None 0 done (sym (ap length nodes) ∙ none)
    go (Inside begun done items outer) opened nodes = tt

not_deep : (n : ℕ) → nat_le 64 n ≡ false → n + 1 ≤ 64
not_deep n less = grind (arith, less)

may_be_so_deep : (all left : List Placed) (b : Building) (stands : Stands all left b) (name : List ℕ) (attributes : List i.Written) → fault_of_tag (map open_of (reverse b.opened.items)) name attributes ≡ None → level_in stands.nest ≤ 64
may_be_so_deep all left b stands name attributes none =
    let deep = not_broken code.TooDeep _ _ none in
    let long = ap length (ap (map open_of) stands.opened) in
    let same = length-map (opened_in stands.nest) open_of in
    let is = level_is stands.nest in
    let level = not_deep (length (map open_of (reverse b.opened.items))) deep in
    omega (arith, long, same, is, level)

pub add_nothing : {A : Type 0} (xs : List A) (x : A) → (length (xs ++ x ∷ []) == 0) ≡ false
add_nothing xs x = (let long = length-append xs (x ∷ []) in zero_no (length (xs ++ x ∷ [])) (omega (arith, long)))
  where
    zero_no : (n : ℕ) → 1 ≤ n → (n == 0) ≡ false
    zero_no n some = grind (arith, some)

-- the root comes, or an element in others
no_tag_fault : (b : Building) (placed : Placed) (name : List ℕ) (attributes : List i.Written) (empty : Bool) → placed.item ≡ i.Tag name attributes empty → is_after_root b ≡ false → fault_of_tag (map open_of (reverse b.opened.items)) name attributes ≡ None → fault_of placed.item (around b) ≡ None
no_tag_fault b placed name attributes empty is not_after none = rw is (broken_later code.TextOutside _ _ not_after ∙ none)

pub stands_empty : (all left : List Placed) (b new : Building) (placed : Placed) (name : List ℕ) (attributes : List i.Written) (declarations : List Declaration) (element : Element) → placed.item ≡ i.Tag name attributes true → is_after_root b ≡ false → BeginsIn b.opened.items name attributes placed.end declarations element → Adds (record { parent = innermost (reverse b.opened.items); at = placed.at; kind = kind.Element element }) b new → Stands all (placed ∷ left) b → Stands all left new
stands_empty all left b new placed name attributes declarations element is not_after begins adds stands =
    let nest = stands.nest in
    let node = Elem placed.at element NoNode in
    let is_tag = subst (λ opened. IsTagOf element (declared_in opened) (own_of declarations) name attributes) (sym stands.opened) begins.is_tag in
    let parent = parent_is all (placed ∷ left) nest stands.holds ∙ ap innermost stands.opened in
    record {
      nest = with_child nest node (placed ∷ []);
      holds = holds_empty all nest placed element name attributes (own_of declarations) left is (may_begin all (placed ∷ left) b stands not_after) (may_be_so_deep all (placed ∷ left) b stands name attributes begins.no_fault) is_tag begins.ends stands.holds;
      opened = opened_with_child nest node (placed ∷ []) ∙ stands.opened ∙ ap reverse (sym adds.same);
      nodes = adds.nodes ∙ ap (λ t. t ++ record { parent = innermost (reverse b.opened.items); at = placed.at; kind = kind.Element element } ∷ []) stands.nodes ∙ ap (λ parent. table nest ++ record { parent = parent; at = placed.at; kind = kind.Element element } ∷ []) (sym parent) ∙ sym (table_with_child nest node (placed ∷ []));
      faults = one_read all left placed (around b) (around new) stands.faults (no_tag_fault b placed name attributes true is not_after begins.no_fault) around_new;
    }
  where
    around_new : past placed.item (around b) ≡ around new
    around_new = rw is rw adds.same rw adds.nodes rw (add_nothing b.nodes (record { parent = innermost (reverse b.opened.items); at = placed.at; kind = kind.Element element })) refl

pub stands_open : (all left : List Placed) (b new : Building) (placed : Placed) (name : List ℕ) (attributes : List i.Written) (declarations : List Declaration) (element : Element) → placed.item ≡ i.Tag name attributes false → is_after_root b ≡ false → BeginsIn b.opened.items name attributes placed.end declarations element → Opens name declarations (record { parent = innermost (reverse b.opened.items); at = placed.at; kind = kind.Element element }) b new → Stands all (placed ∷ left) b → Stands all left new
stands_open all left b new placed name attributes declarations element is not_after begins opens stands =
    let nest = stands.nest in
    let parent = parent_is all (placed ∷ left) nest stands.holds ∙ ap innermost stands.opened in
    record {
      nest = Inside begun NoNode [] nest;
      holds = holds_open all nest begun left begins_here stands.holds;
      opened = ap (λ t. opens.element ∷ t) stands.opened ∙ sym opened_new;
      nodes = opens.nodes ∙ ap (λ t. t ++ record { parent = innermost (reverse b.opened.items); at = placed.at; kind = kind.Element element } ∷ []) stands.nodes ∙ ap (λ parent. table nest ++ record { parent = parent; at = placed.at; kind = kind.Element element } ∷ []) (sym parent);
      faults = one_read all left placed (around b) (around new) stands.faults (no_tag_fault b placed name attributes false is not_after begins.no_fault) around_new;
    }
  where
    begun : Begun
    begun = record { start = placed; element = element; opened = opens.element }

    opened_new : reverse new.opened.items ≡ opens.element ∷ reverse b.opened.items
    opened_new = ap reverse opens.is ∙ reverse-append b.opened.items (opens.element ∷ [])

    begins_here : Begins begun stands.nest
    begins_here =
        record {
          attributes = attributes;
          starts = is ∙ ap (λ n. i.Tag n attributes false) (sym opens.is_named);
          is_tag = rw opens.is_named rw opens.declares (subst (λ opened. IsTagOf element (declared_in opened) (own_of declarations) name attributes) (sym stands.opened) begins.is_tag);
          not_too_deep = may_be_so_deep all (placed ∷ left) b stands name attributes begins.no_fault;
          number = opens.number ∙ ap length stands.nodes;
          may = may_begin all (placed ∷ left) b stands not_after;
        }

    around_new : past placed.item (around b) ≡ around new
    around_new = rw is rw opened_new rw opens.nodes rw (add_nothing b.nodes (record { parent = innermost (reverse b.opened.items); at = placed.at; kind = kind.Element element })) rw opens.is_named rw opens.declares rw (sym begins.prefixes) refl

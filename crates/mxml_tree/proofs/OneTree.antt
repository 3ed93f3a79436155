-- Items stand for one tree.
use Rattle.std.proofs.Common.{◌≡◌, ℕ, ◌+◌, ◌≤◌, List, [], ◌∷◌, ◌++◌, Bool, true, false, MatchBool, refl, ap, sym, ◌∙◌, subst, true≢false, append_assoc, arith}
use Rattle.mxml_items.specs.Items as i
use Rattle.mxml_items.specs.Items.{Placed, Written}
use Rattle.mxml_items.proofs.ItemLaws.{form}
use Rattle.mxml_tree.specs.declared.tree.Element.{Element}
use Rattle.mxml_tree.specs.declared.tree.Characters.{Characters}
use Rattle.mxml_tree.specs.IsTree.{AreNodes, ArePassedOver, IsElement, IsTagOf, end_of, is_passed_over}
use Rattle.mxml_tree.specs.Namespaces.{Declared}
use Rattle.mxml_tree.specs.Texts.{NoTextBegins, is_text, not_white}
use Rattle.mxml_tree.specs.Tree.{Node, Elem, Chars, Nodes, NoNode, MoreNode}
use Rattle.mxml_tree.proofs.OneCharacters.{from_first, one_node, same_run, unpassed, unpassed_first, unpassed_over}
use Rattle.mxml_tree.proofs.OneElement.{one_declaration, one_element}
use Rattle.mxml_tree.proofs.TextReading.{true_front}

-- a level ends: no item comes, or an end tag
abbrev pub EndsHere : List Placed → Type 0
EndsHere [] = Unit {0}
EndsHere (placed ∷ items) = form placed.item ≡ 4

abbrev is_nil : List Placed → Bool
is_nil [] = true
is_nil (x ∷ xs) = false

abbrev first_or : Placed → List Placed → Placed
first_or default [] = default
first_or default (x ∷ xs) = x

abbrev behind_first : List Placed → List Placed
behind_first [] = []
behind_first (x ∷ xs) = xs

end_stays : (item : i.Item) → form item ≡ 4 → is_passed_over item ≡ false
end_stays (i.End_tag name) is = refl
end_stays i.Instruction is = absurd (omega (arith, is))
end_stays i.Comment is = absurd (omega (arith, is))
end_stays (i.CData content) is = absurd (omega (arith, is))
end_stays (i.Words content) is = absurd (omega (arith, is))
end_stays (i.Tag name attributes empty) is = absurd (omega (arith, is))

unpassed_end : (items : List Placed) → EndsHere items → unpassed items ≡ items
unpassed_end [] ends = refl
unpassed_end (placed ∷ items) ends = unpassed_first placed items (end_stays placed.item ends)

no_text_at_end : (items : List Placed) → EndsHere items → NoTextBegins items
no_text_at_end [] ends = tt
no_text_at_end (placed ∷ items) ends = no_text placed.item ends
  where
    no_text : (item : i.Item) → form item ≡ 4 → is_text item ≡ false
    no_text (i.End_tag name) is = refl
    no_text i.Instruction is = refl
    no_text i.Comment is = refl
    no_text (i.CData content) is = absurd (omega (arith, is))
    no_text (i.Words content) is = absurd (omega (arith, is))
    no_text (i.Tag name attributes empty) is = refl

no_text_behind : (others items : List Placed) → NoTextBegins others → EndsHere items → NoTextBegins (others ++ items)
no_text_behind [] items none ends = no_text_at_end items ends
no_text_behind (placed ∷ others) items none ends = none

text_form : (item : i.Item) → is_text item ≡ true → form item ≤ 3
text_form (i.Words content) is = omega arith
text_form (i.CData content) is = omega arith
text_form i.Instruction is = absurd (true≢false (sym is))
text_form i.Comment is = absurd (true≢false (sym is))
text_form (i.Tag name attributes empty) is = absurd (true≢false (sym is))
text_form (i.End_tag name) is = absurd (true≢false (sym is))

-- where a level ends no other form of item comes first
not_at_end : (items : List Placed) (first : Placed) (others : List Placed) → EndsHere items → items ≡ first ∷ others → form first.item ≡ 4
not_at_end [] first others ends is = absurd (true≢false (ap is_nil is))
not_at_end (placed ∷ items) first others ends is = subst (λ (p : Placed). form p.item ≡ 4) (ap (first_or placed) is) ends

-- the items of a level from its first node on, whose first item stands there
behind_passed : (items passed own others behind : List Placed) → items ≡ passed ++ own ++ others → ArePassedOver passed → unpassed (items ++ behind) ≡ unpassed (own ++ (others ++ behind))
behind_passed items passed own others behind is over =
    ap (λ t. unpassed (t ++ behind)) is
    ∙ ap unpassed (append_assoc (passed ++ own) others behind ∙ append_assoc passed own (others ++ behind))
    ∙ unpassed_over passed (own ++ (others ++ behind)) over

element_first : (at : ℕ) (element : Element) (Inner : List Declared → List Placed → Type 0) (declared : List Declared) (level : ℕ) (own behind : List Placed) (e : IsElement at element Inner declared level own) → unpassed (own ++ behind) ≡ e.start ∷ (e.inner ++ (e.last ++ behind))
element_first at element Inner declared level own behind e =
    ap (λ t. unpassed (t ++ behind)) e.is
    ∙ unpassed_first e.start ((e.inner ++ e.last) ++ behind) (ap is_passed_over e.starts)
    ∙ ap (λ t. e.start ∷ t) (append_assoc e.inner e.last behind)

-- a tag's parts
abbrev tag_name : i.Item → List ℕ
tag_name (i.Tag name attributes empty) = name
tag_name _ = []

abbrev tag_attributes : i.Item → List Written
tag_attributes (i.Tag name attributes empty) = attributes
tag_attributes _ = []

abbrev is_empty_tag : i.Item → Bool
is_empty_tag (i.Tag name attributes empty) = empty
is_empty_tag _ = false

-- two elements that begin alike, with what their nodes share
record SameElement (at where_else : ℕ) (a b : Element) (nodes others : Nodes) (r s : List Placed) : Type 0 where
  places : at ≡ where_else
  elements : a ≡ b
  inside : nodes ≡ others
  behind : r ≡ s

-- what stands in an element says its nodes
abbrev SameInside : Nodes → Nodes → ℕ → Type 0
SameInside nodes others level =
    (declared : List Declared) (xs ys r s : List Placed) → AreNodes nodes level declared xs → AreNodes others level declared ys → EndsHere r → EndsHere s → xs ++ r ≡ ys ++ s → (nodes ≡ others) × (r ≡ s)

none_in_nothing : (nodes : Nodes) (level : ℕ) (declared : List Declared) → AreNodes nodes level declared [] → nodes ≡ NoNode
none_in_nothing NoNode level declared are = refl
none_in_nothing (MoreNode (Elem at element nodes) others) level declared makes =
    let e = makes.is_one in
    absurd (true≢false (ap is_nil (behind_passed [] makes.passed makes.own makes.others [] makes.is makes.passed_over ∙ element_first at element (AreNodes nodes (level + 1)) declared level makes.own (makes.others ++ []) e)))
none_in_nothing (MoreNode (Chars at characters) others) level declared makes =
    let c = makes.is_one.0 in
    let from = from_first makes.own c.first c.others c.are_texts c.are in
    absurd (true≢false (ap is_nil (behind_passed [] makes.passed makes.own makes.others [] makes.is makes.passed_over ∙ from.is (makes.others ++ []))))

same_elements : (at where_else : ℕ) (a b : Element) (nodes others : Nodes) (declared : List Declared) (level : ℕ) (own own2 r s : List Placed) → SameInside nodes others (level + 1) → (e : IsElement at a (AreNodes nodes (level + 1)) declared level own) (f : IsElement where_else b (AreNodes others (level + 1)) declared level own2) → e.start ∷ (e.inner ++ (e.last ++ r)) ≡ f.start ∷ (f.inner ++ (f.last ++ s)) → SameElement at where_else a b nodes others r s
same_elements at where_else a b nodes others declared level own own2 r s inside e f same = by_form e.empty f.empty refl refl e.ends f.ends
  where
    start : e.start ≡ f.start
    start = ap (first_or e.start) same

    behind : e.inner ++ (e.last ++ r) ≡ f.inner ++ (f.last ++ s)
    behind = ap behind_first same

    items : i.Tag e.name e.attributes e.empty ≡ i.Tag f.name f.attributes f.empty
    items = sym e.starts ∙ ap (λ (p : Placed). p.item) start ∙ f.starts

    names : e.name ≡ f.name
    names = ap tag_name items

    attributes : e.attributes ≡ f.attributes
    attributes = ap tag_attributes items

    empties : e.empty ≡ f.empty
    empties = ap is_empty_tag items

    f_tag : IsTagOf b declared f.own e.name e.attributes
    f_tag = subst (λ name. IsTagOf b declared f.own name e.attributes) (sym names) (subst (IsTagOf b declared f.own f.name) (sym attributes) f.is_tag)

    own_same : e.own ≡ f.own
    own_same = one_declaration declared e.own f.own e.name e.attributes a b e.is_tag f_tag

    places : at ≡ where_else
    places = e.stands ∙ ap (λ (p : Placed). p.at) start ∙ sym f.stands

    elements : e.last ≡ f.last → a ≡ b
    elements last =
        one_element declared e.own e.name e.attributes a b
        (e.stops ∙ ap (λ p. end_of p e.last) start ∙ ap (end_of f.start) last ∙ sym f.stops)
        e.is_tag (subst (λ own. IsTagOf b declared own e.name e.attributes) (sym own_same) f_tag)

    by_form : (x y : Bool) → e.empty ≡ x → f.empty ≡ y
        → MatchBool e.empty ((e.inner ≡ []) × (e.last ≡ [])) ((end : Placed) × (e.last ≡ end ∷ []) × (end.item ≡ i.End_tag e.name))
        → MatchBool f.empty ((f.inner ≡ []) × (f.last ≡ [])) ((end : Placed) × (f.last ≡ end ∷ []) × (end.item ≡ i.End_tag f.name))
        → SameElement at where_else a b nodes others r s
    by_form true true x y ends ends2 =
        let (no_inner, no_last) : (e.inner ≡ []) × (e.last ≡ []) = rw x at ends in
        let (no_inner2, no_last2) : (f.inner ≡ []) × (f.last ≡ []) = rw y at ends2 in
        let none = none_in_nothing nodes (level + 1) (e.own ++ declared) (subst (AreNodes nodes (level + 1) (e.own ++ declared)) no_inner e.stands_inside) in
        let none2 = none_in_nothing others (level + 1) (f.own ++ declared) (subst (AreNodes others (level + 1) (f.own ++ declared)) no_inner2 f.stands_inside) in
        record {
          places = places;
          elements = elements (no_last ∙ sym no_last2);
          inside = none ∙ sym none2;
          behind =
              sym (ap (λ t. t ++ (e.last ++ r)) no_inner ∙ ap (λ t. t ++ r) no_last)
              ∙ behind
              ∙ (ap (λ t. t ++ (f.last ++ s)) no_inner2 ∙ ap (λ t. t ++ s) no_last2);
        }
    by_form false false x y ends ends2 =
        let (last, is_last, ends_it) : (end : Placed) × (e.last ≡ end ∷ []) × (end.item ≡ i.End_tag e.name) = rw x at ends in
        let (last2, is_last2, ends_it2) : (end : Placed) × (f.last ≡ end ∷ []) × (end.item ≡ i.End_tag f.name) = rw y at ends2 in
        let (nodes_same, rest) =
        inside (e.own ++ declared) e.inner f.inner (last ∷ r) (last2 ∷ s) e.stands_inside (subst (λ own. AreNodes others (level + 1) (own ++ declared) f.inner) (sym own_same) f.stands_inside) (ap form ends_it) (ap form ends_it2)
        (sym (ap (λ t. e.inner ++ (t ++ r)) is_last) ∙ behind ∙ ap (λ t. f.inner ++ (t ++ s)) is_last2) in
        record {
          places = places;
          elements = elements (is_last ∙ ap (λ p. p ∷ []) (ap (first_or last) rest) ∙ sym is_last2);
          inside = nodes_same;
          behind = ap behind_first rest;
        }
    by_form true false x y ends ends2 = absurd (true≢false (sym x ∙ empties ∙ y))
    by_form false true x y ends ends2 = absurd (true≢false (sym y ∙ sym empties ∙ x))

none_or_more : (node : Node) (others : Nodes) (level : ℕ) (declared : List Declared) (xs ys r s : List Placed) → ArePassedOver xs → AreNodes (MoreNode node others) level declared ys → EndsHere r → EndsHere s → xs ++ r ≡ ys ++ s → ⊥
none_or_more (Elem at element nodes) others level declared xs ys r s are makes ends ends2 same =
    let e = makes.is_one in
    let is = sym (unpassed_over xs r are ∙ unpassed_end r ends) ∙ ap unpassed same ∙ behind_passed ys makes.passed makes.own makes.others s makes.is makes.passed_over ∙ element_first at element (AreNodes nodes (level + 1)) declared level makes.own (makes.others ++ s) e in
    let four = not_at_end r e.start (e.inner ++ (e.last ++ (makes.others ++ s))) ends is in
    let five : form e.start.item ≡ 5 = ap form e.starts in
    absurd (omega (arith, four, five))
none_or_more (Chars at characters) others level declared xs ys r s are makes ends ends2 same =
    let c = makes.is_one.0 in
    let from = from_first makes.own c.first c.others c.are_texts c.are in
    let is = sym (unpassed_over xs r are ∙ unpassed_end r ends) ∙ ap unpassed same ∙ behind_passed ys makes.passed makes.own makes.others s makes.is makes.passed_over ∙ from.is (makes.others ++ s) in
    let four = not_at_end r c.first (from.more ++ (makes.others ++ s)) ends is in
    let less = text_form c.first.item (true_front (is_text c.first.item) _ from.are_texts) in
    absurd (omega (arith, four, less))

element_or_text : (at where_else : ℕ) (a : Element) (b : Characters) (nodes more more2 : Nodes) (level : ℕ) (declared : List Declared) (xs ys r s : List Placed) → AreNodes (MoreNode (Elem at a nodes) more) level declared xs → AreNodes (MoreNode (Chars where_else b) more2) level declared ys → EndsHere r → EndsHere s → xs ++ r ≡ ys ++ s → ⊥
element_or_text at where_else a b nodes more more2 level declared xs ys r s makes makes2 ends ends2 same =
    let e = makes.is_one in
    let d = makes2.is_one.0 in
    let from2 = from_first makes2.own d.first d.others d.are_texts d.are in
    let is =
    sym (behind_passed xs makes.passed makes.own makes.others r makes.is makes.passed_over ∙ element_first at a (AreNodes nodes (level + 1)) declared level makes.own (makes.others ++ r) e)
    ∙ ap unpassed same
    ∙ (behind_passed ys makes2.passed makes2.own makes2.others s makes2.is makes2.passed_over ∙ from2.is (makes2.others ++ s)) in
    let five : form e.start.item ≡ 5 = ap form e.starts in
    let one = ap (λ (p : Placed). form p.item) (ap (first_or e.start) is) in
    let less = text_form d.first.item (true_front (is_text d.first.item) _ from2.are_texts) in
    absurd (omega (arith, five, one, less))

-- items up to the end of a level say its nodes
pub same_nodes : (nodes others : Nodes) (level : ℕ) → SameInside nodes others level
same_nodes NoNode NoNode level declared xs ys r s are also ends ends2 same =
    (refl, sym (unpassed_over xs r are ∙ unpassed_end r ends) ∙ ap unpassed same ∙ unpassed_over ys s also ∙ unpassed_end s ends2)
same_nodes NoNode (MoreNode node others) level declared xs ys r s are makes ends ends2 same = absurd (none_or_more node others level declared xs ys r s are makes ends ends2 same)
same_nodes (MoreNode node others) NoNode level declared xs ys r s makes are ends ends2 same = absurd (none_or_more node others level declared ys xs s r are makes ends2 ends (sym same))
same_nodes (MoreNode (Elem at a nodes) more) (MoreNode (Elem where_else b others) more2) level declared xs ys r s makes makes2 ends ends2 same =
    let e = makes.is_one in
    let f = makes2.is_one in
    let is =
    sym (behind_passed xs makes.passed makes.own makes.others r makes.is makes.passed_over ∙ element_first at a (AreNodes nodes (level + 1)) declared level makes.own (makes.others ++ r) e)
    ∙ ap unpassed same
    ∙ (behind_passed ys makes2.passed makes2.own makes2.others s makes2.is makes2.passed_over ∙ element_first where_else b (AreNodes others (level + 1)) declared level makes2.own (makes2.others ++ s) f) in
    let first = same_elements at where_else a b nodes others declared level makes.own makes2.own (makes.others ++ r) (makes2.others ++ s) (same_nodes nodes others (level + 1)) e f is in
    let (rest, behind) = same_nodes more more2 level declared makes.others makes2.others r s makes.go_on makes2.go_on ends ends2 first.behind in (
      ap (λ p. MoreNode (Elem p a nodes) more) first.places
          ∙ ap (λ x. MoreNode (Elem where_else x nodes) more) first.elements
          ∙ ap (λ ns. MoreNode (Elem where_else b ns) more) first.inside
          ∙ ap (MoreNode (Elem where_else b others)) rest,
      behind,
    )
same_nodes (MoreNode (Chars at a) more) (MoreNode (Chars where_else b) more2) level declared xs ys r s makes makes2 ends ends2 same =
    let c = makes.is_one.0 in
    let d = makes2.is_one.0 in
    let from = from_first makes.own c.first c.others c.are_texts c.are in
    let from2 = from_first makes2.own d.first d.others d.are_texts d.are in
    let is =
    sym (behind_passed xs makes.passed makes.own makes.others r makes.is makes.passed_over ∙ from.is (makes.others ++ r))
    ∙ ap unpassed same
    ∙ (behind_passed ys makes2.passed makes2.own makes2.others s makes2.is makes2.passed_over ∙ from2.is (makes2.others ++ s)) in
    let (texts, others) = same_run (c.first ∷ from.more) (d.first ∷ from2.more) (makes.others ++ r) (makes2.others ++ s) from.are_texts from2.are_texts (no_text_behind makes.others r makes.is_one.1 ends) (no_text_behind makes2.others s makes2.is_one.1 ends2) is in
    let (places, nodes) = one_node at where_else a b makes.own makes2.own c d (sym from.are ∙ ap not_white texts ∙ from2.are) in
    let (rest, behind) = same_nodes more more2 level declared makes.others makes2.others r s makes.go_on makes2.go_on ends ends2 others in (
      ap (λ p. MoreNode (Chars p a) more) places
          ∙ ap (λ x. MoreNode (Chars where_else x) more) nodes
          ∙ ap (MoreNode (Chars where_else b)) rest,
      behind,
    )
same_nodes (MoreNode (Elem at a nodes) more) (MoreNode (Chars where_else b) more2) level declared xs ys r s makes makes2 ends ends2 same = absurd (element_or_text at where_else a b nodes more more2 level declared xs ys r s makes makes2 ends ends2 same)
same_nodes (MoreNode (Chars at a) more) (MoreNode (Elem where_else b nodes) more2) level declared xs ys r s makes makes2 ends ends2 same = absurd (element_or_text where_else at b a nodes more2 more level declared ys xs s r makes2 makes ends2 ends (sym same))

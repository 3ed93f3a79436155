-- Texts and CDATA one after another: those at the front of items, and what they make together.
use Rattle.std.proofs.Common.{◌≡◌, ℕ, suc, ◌+◌, ◌<◌, ◌≤◌, Bool, true, false, ◌&&◌, not, cond, ltb, List, [], ◌∷◌, ◌++◌, length, take, drop, get_or, map, All, IsTrue, Some, None, refl, ap, ◌∙◌, sym, subst, append_assoc, arith}
use Rattle.std.specs.List.{list_all, position_or_len}
use Rattle.std.specs.Option.{unwrap_or}
use Rattle.std.proofs.lemmas.Bool.Decides.{nat_tests}
use Rattle.std.proofs.lemmas.List.{map_more, map-append, drop_more, get_or-map, length-map, take-append-drop, append-nil}
use Rattle.std.proofs.lemmas.List.Recursion.{and_at}
use Rattle.std.proofs.lemmas.List.Elements.{filter-append, All-filter, All-head}
use Rattle.mxml_items.specs.declared.items.Placed as Code
use Rattle.mxml_items.specs.Items.{Placed}
use Rattle.mxml_items.specs.Texts.{placed_of}
use Rattle.mxml_items.specs.Reading.{item_of}
use Rattle.mxml_tree.specs.declared.tree.Characters.{Characters}
use Rattle.mxml_tree.specs.Texts.{is_text, is_white_text, IsTextIn, AreTextsIn, not_white, AreTexts, AreAllTexts, AreCharacters, span_of}

-- a test for the first item that is no text
abbrev pub is_other : Code.Placed → Bool
is_other placed = not (is_text (item_of placed.item))

one_text_more : (is : Bool) (x : Code.Placed) (xs : List Code.Placed) (n : ℕ) → is_text (item_of x.item) ≡ is → AreAllTexts (map placed_of (take n xs)) (map placed_of (drop n xs))
    → AreAllTexts (map placed_of (take (cond (not (not is)) (1 + n) 0) (x ∷ xs))) (map placed_of (drop (cond (not (not is)) (1 + n) 0) (x ∷ xs)))
one_text_more true x xs n e all =
    let same : 1 + n ≡ suc n = omega arith in
    let P : ℕ → Type 0 = λ m. AreAllTexts (map placed_of (take m (x ∷ xs))) (map placed_of (drop m (x ∷ xs))) in
    subst P (sym same) (record { are_texts = ap (λ b. b && list_all (λ (placed : Placed). is_text placed.item) (map placed_of (take n xs))) e ∙ all.are_texts; no_more = all.no_more })
one_text_more false x xs n e all = record { are_texts = refl; no_more = e }

-- up to the first other item
pub texts_up_to : (items : List Code.Placed) → AreAllTexts (map placed_of (take (position_or_len is_other items) items)) (map placed_of (drop (position_or_len is_other items) items))
texts_up_to [] = record { are_texts = refl; no_more = tt }
texts_up_to (x ∷ items) = one_text_more (is_text (item_of x.item)) x items (position_or_len is_other items) refl (texts_up_to items)

within : (passes : Bool) (n m : ℕ) → n ≤ m → cond (not passes) (1 + n) 0 ≤ suc m
within true n m le = omega arith
within false n m le = omega arith

place_within : (p : Code.Placed → Bool) (items : List Code.Placed) → position_or_len p items ≤ length items
place_within p [] = omega arith
place_within p (x ∷ items) = within (p x) (position_or_len p items) (length items) (place_within p items)

place_or_length : (n m : ℕ) → n ≤ m → unwrap_or (cond (ltb n m) (Some n) None) m ≡ n
place_or_length n m le = grind (arith, nat_tests)

-- where `position` finds the first other item, or none
pub place_or_end : (items : List Code.Placed)
    → unwrap_or (cond (ltb (position_or_len is_other items) (length items)) (Some (position_or_len is_other items)) None) (length items) ≡ position_or_len is_other items
place_or_end items = place_or_length (position_or_len is_other items) (length items) (place_within is_other items)

not_white_by_both : (front back : List Placed) → not_white (front ++ back) ≡ not_white front ++ not_white back
not_white_by_both front back = filter-append (λ (placed : Placed). not (is_white_text placed.item)) front back

not_white_first : (placed : Placed) (others : List Placed) → is_white_text placed.item ≡ false → not_white (placed ∷ others) ≡ placed ∷ not_white others
not_white_first placed others e = rw (e, not_white)

white_first : (placed : Placed) (others : List Placed) → is_white_text placed.item ≡ true → not_white (placed ∷ others) ≡ not_white others
white_first placed others e = rw (e, not_white)

-- the items up to a place, and the one there
placed_more : (texts : List Code.Placed) (i : ℕ) (x : Code.Placed) → i < length texts → x ≡ get_or texts i x → map placed_of (take (i + 1) texts) ≡ map placed_of (take i texts) ++ placed_of x ∷ []
placed_more texts i x lt is = map_more placed_of texts i x lt ∙ ap (λ p. map placed_of (take i texts) ++ placed_of p ∷ []) (sym is)

-- it's white
pub is_white_next : (texts : List Code.Placed) (i : ℕ) (x : Code.Placed) → i < length texts → x ≡ get_or texts i x → is_white_text (item_of x.item) ≡ true
    → not_white (map placed_of (take (i + 1) texts)) ≡ not_white (map placed_of (take i texts))
is_white_next texts i x lt is e =
    ap not_white (placed_more texts i x lt is)
    ∙ not_white_by_both (map placed_of (take i texts)) (placed_of x ∷ [])
    ∙ ap (λ xs. not_white (map placed_of (take i texts)) ++ xs) (white_first (placed_of x) [] e)
    ∙ append-nil (not_white (map placed_of (take i texts)))

-- it isn't
pub is_not_white_next : (texts : List Code.Placed) (i : ℕ) (x : Code.Placed) → i < length texts → x ≡ get_or texts i x → is_white_text (item_of x.item) ≡ false
    → not_white (map placed_of (take (i + 1) texts)) ≡ not_white (map placed_of (take i texts)) ++ placed_of x ∷ []
is_not_white_next texts i x lt is e =
    ap not_white (placed_more texts i x lt is)
    ∙ not_white_by_both (map placed_of (take i texts)) (placed_of x ∷ [])
    ∙ ap (λ xs. not_white (map placed_of (take i texts)) ++ xs) (not_white_first (placed_of x) [] e)

-- what items and one more make together
pub one_joined_more : (items : List Placed) (placed : Placed) (text more : List ℕ) → AreTextsIn items text → IsTextIn placed.item more → AreTextsIn (items ++ placed ∷ []) (text ++ more)
one_joined_more [] placed text more first second =
    record { front = more; back = []; is = ap (λ b. b ++ more) first ∙ sym (append-nil more); is_front = second; is_back = refl }
one_joined_more (x ∷ items) placed text more first second = record {
  front = first.front;
  back = first.back ++ more;
  is = ap (λ b. b ++ more) first.is ∙ append_assoc first.front first.back more;
  is_front = first.is_front;
  is_back = one_joined_more items placed first.back more first.is_back second;
}

-- the first that isn't white, and those behind it
pub not_white_at : (texts : List Code.Placed) (i : ℕ) (x : Code.Placed) → i < length texts → x ≡ get_or texts i x → not_white (map placed_of (take i texts)) ≡ []
    → is_white_text (item_of x.item) ≡ false → not_white (map placed_of texts) ≡ placed_of x ∷ not_white (map placed_of (drop (i + 1) texts))
not_white_at texts i x lt is none e =
    let behind = map placed_of (drop (i + 1) texts) in
    ap (λ xs. not_white (map placed_of xs)) (sym (take-append-drop i texts) ∙ ap (λ xs. take i texts ++ xs) (drop_more texts i x lt ∙ ap (λ y. y ∷ drop (i + 1) texts) (sym is)))
    ∙ ap not_white (map-append placed_of (take i texts) (x ∷ drop (i + 1) texts))
    ∙ not_white_by_both (map placed_of (take i texts)) (placed_of x ∷ behind)
    ∙ ap (λ xs. xs ++ not_white (placed_of x ∷ behind)) none
    ∙ not_white_first (placed_of x) behind e

-- what holds of each item, at a place and of the first that isn't white
pub holds_at : (P : Placed → Type 0) (texts : List Code.Placed) (i : ℕ) (x : Code.Placed) → i < length texts → x ≡ get_or texts i x → All P (map placed_of texts) → P (placed_of x)
holds_at P texts i x lt is all = subst P (get_or-map placed_of texts i x (placed_of x) lt ∙ ap placed_of (sym is)) (all i (placed_of x) (rw length-map lt))

pub holds_of_first : (P : Placed → Type 0) (items : List Placed) (first : Placed) (others : List Placed) → All P items → not_white items ≡ first ∷ others → P first
holds_of_first P items first others all e =
    let Q : List Placed → Type 0 = λ xs. All P xs in
    All-head P first others (subst Q e (All-filter (λ (placed : Placed). not (is_white_text placed.item)) P items all))

abbrev pub IsTextItem : Placed → Type 0
IsTextItem placed = IsTrue (is_text placed.item)

pub each_is_text : (items : List Placed) → AreTexts items → All IsTextItem items
each_is_text items are = λ k d lt. and_at (list_all (λ (placed : Placed). is_text placed.item)) (λ (placed : Placed). is_text placed.item) refl (λ _ _. refl) items k d lt are

-- one item alone isn't white
pub one_makes : (items : List Placed) (first : Placed) (others : List Placed) (node : Characters) → AreTexts items → not_white items ≡ first ∷ others → others ≡ [] → IsTextIn first.item node.text
    → node.span ≡ span_of first → AreCharacters first.at node items
one_makes items first others node are e none is span = record {
  first = first;
  others = [];
  are_texts = are;
  are = e ∙ ap (λ xs. first ∷ xs) none;
  stands = refl;
  joined = record { front = node.text; back = []; is = sym (append-nil node.text); is_front = is; is_back = refl };
  is_span = span;
}

-- several aren't
pub several_make : (items : List Placed) (first : Placed) (others : List Placed) (second : Placed) (behind : List Placed) (node : Characters) → AreTexts items → not_white items ≡ first ∷ others
    → others ≡ second ∷ behind → AreTextsIn (not_white items) node.text → node.span ≡ None → AreCharacters first.at node items
several_make items first others second behind node are e more is span =
    let all : not_white items ≡ first ∷ second ∷ behind = e ∙ ap (λ xs. first ∷ xs) more in
    let P : List Placed → Type 0 = λ xs. AreTextsIn xs node.text in
    record { first = first; others = second ∷ behind; are_texts = are; are = all; stands = refl; joined = subst P all is; is_span = span }

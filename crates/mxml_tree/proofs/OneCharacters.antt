-- Texts and CDATA one after another make one node.
use Rattle.std.proofs.Common.{◌≡◌, ℕ, List, [], ◌∷◌, ◌++◌, Bool, true, false, not, cond, refl, ap, sym, ◌∙◌, subst, true≢false}
use Rattle.mxml_items.specs.Items as i
use Rattle.mxml_items.specs.Items.{Placed}
use Rattle.mxml_tree.specs.declared.tree.Characters.{Characters}
use Rattle.mxml_tree.specs.IsTree.{ArePassedOver, is_passed_over}
use Rattle.mxml_tree.specs.Texts.{AreCharacters, AreTexts, AreTextsIn, IsTextIn, NoTextBegins, is_text, is_white_text, not_white, span_of_texts}
use Rattle.mxml_tree.proofs.SamePieces.{one_text}
use Rattle.mxml_tree.proofs.TextReading.{true_back, true_front}

-- items without those at the front that are passed over
abbrev pub unpassed : List Placed → List Placed
unpassed [] = []
unpassed (placed ∷ items) = cond (is_passed_over placed.item) (unpassed items) (placed ∷ items)

pub unpassed_over : (passed items : List Placed) → ArePassedOver passed → unpassed (passed ++ items) ≡ unpassed items
unpassed_over [] items over = refl
unpassed_over (placed ∷ passed) items over = rw (true_front (is_passed_over placed.item) _ over) (unpassed_over passed items (true_back (is_passed_over placed.item) _ over))

pub unpassed_first : (placed : Placed) (items : List Placed) → is_passed_over placed.item ≡ false → unpassed (placed ∷ items) ≡ placed ∷ items
unpassed_first placed items is = rw is refl

text_passed : (item : i.Item) → is_text item ≡ true → is_passed_over item ≡ is_white_text item
text_passed (i.Words content) is = refl
text_passed (i.CData content) is = refl
text_passed i.Instruction is = absurd (true≢false (sym is))
text_passed i.Comment is = absurd (true≢false (sym is))
text_passed (i.Tag name attributes empty) is = refl
text_passed (i.End_tag name) is = refl

-- texts from the first on that isn't white
pub record FromFirst (first : Placed) (others own : List Placed) : Type 0 where
  pub more : List Placed
  pub is : (behind : List Placed) → unpassed (own ++ behind) ≡ first ∷ (more ++ behind)
  pub are_texts : AreTexts (first ∷ more)
  pub are : not_white (first ∷ more) ≡ first ∷ others

abbrev first_or : Placed → List Placed → Placed
first_or default [] = default
first_or default (x ∷ xs) = x

pub from_first : (own : List Placed) (first : Placed) (others : List Placed) → AreTexts own → not_white own ≡ first ∷ others → FromFirst first others own
from_first [] first others are is = absurd (true≢false (ap is_nil is))
  where
    is_nil : List Placed → Bool
    is_nil [] = true
    is_nil (x ∷ xs) = false
from_first (placed ∷ own) first others are is =
    by (is_white_text placed.item) refl (λ rest. from_first own first others (true_back (is_text placed.item) _ are) rest)
  where
    passed : is_passed_over placed.item ≡ is_white_text placed.item
    passed = text_passed placed.item (true_front (is_text placed.item) _ are)

    by : (white : Bool) → is_white_text placed.item ≡ white → (not_white own ≡ first ∷ others → FromFirst first others own) → FromFirst first others (placed ∷ own)
    by true white go =
        let from = go (sym (ap (λ w. cond (not w) (placed ∷ not_white own) (not_white own)) white) ∙ is) in
        record { more = from.more; is = λ behind. ap (λ over. cond over (unpassed (own ++ behind)) (placed ∷ own ++ behind)) (passed ∙ white) ∙ from.is behind; are_texts = from.are_texts; are = from.are }
    by false white go =
        let same : placed ≡ first = ap (first_or placed) (sym (ap (λ w. cond (not w) (placed ∷ not_white own) (not_white own)) white) ∙ is) in
        record {
          more = own;
          is = λ behind. ap (λ over. cond over (unpassed (own ++ behind)) (placed ∷ own ++ behind)) (passed ∙ white) ∙ ap (λ p. p ∷ (own ++ behind)) same;
          are_texts = subst (λ p. AreTexts (p ∷ own)) same are;
          are = subst (λ p. not_white (p ∷ own) ≡ first ∷ others) same is;
        }

abbrev behind_first : List Placed → List Placed
behind_first [] = []
behind_first (x ∷ xs) = xs

-- all texts at the front of items
pub same_run : (xs ys a b : List Placed) → AreTexts xs → AreTexts ys → NoTextBegins a → NoTextBegins b → xs ++ a ≡ ys ++ b → (xs ≡ ys) × (a ≡ b)
same_run [] [] a b are also none no_other same = (refl, same)
same_run [] (y ∷ ys) a b are also none no_other same = absurd (true≢false (sym (true_front (is_text y.item) _ also) ∙ subst NoTextBegins same none))
same_run (x ∷ xs) [] a b are also none no_other same = absurd (true≢false (sym (true_front (is_text x.item) _ are) ∙ subst NoTextBegins (sym same) no_other))
same_run (x ∷ xs) (y ∷ ys) a b are also none no_other same =
    let (others, rest) = same_run xs ys a b (true_back (is_text x.item) _ are) (true_back (is_text y.item) _ also) none no_other (ap behind_first same) in
    (ap (λ t. t ∷ xs) (ap (first_or x) same) ∙ ap (λ t. y ∷ t) others, rest)

same_text : (item : i.Item) (a b : List ℕ) → IsTextIn item a → IsTextIn item b → a ≡ b
same_text (i.Words content) a b is was = one_text content a b is was
same_text (i.CData content) a b is was = is ∙ sym was
same_text i.Instruction a b is was = absurd is
same_text i.Comment a b is was = absurd is
same_text (i.Tag name attributes empty) a b is was = absurd is
same_text (i.End_tag name) a b is was = absurd is

same_texts : (items : List Placed) (a b : List ℕ) → AreTextsIn items a → AreTextsIn items b → a ≡ b
same_texts [] a b is was = is ∙ sym was
same_texts (placed ∷ items) a b is was =
    is.is
    ∙ ap (λ front. front ++ is.back) (same_text placed.item is.front was.front is.is_front was.is_front)
    ∙ ap (λ back. was.front ++ back) (same_texts items is.back was.back is.is_back was.is_back)
    ∙ sym was.is

same_characters : (a b : Characters) → a.text ≡ b.text → a.span ≡ b.span → a ≡ b
same_characters a b e f k = record { text = e k; span = f k }

-- what isn't white in them says the node
pub one_node : (at where_else : ℕ) (a b : Characters) (xs ys : List Placed) (h : AreCharacters at a xs) (k : AreCharacters where_else b ys) → h.first ∷ h.others ≡ k.first ∷ k.others → (at ≡ where_else) × (a ≡ b)
one_node at where_else a b xs ys h k same =
    let first : h.first ≡ k.first = ap (first_or h.first) same in
    let others : h.others ≡ k.others = ap behind_first same in (
      h.stands ∙ ap (λ (p : Placed). p.at) first ∙ sym k.stands,
      same_characters a b (same_texts (k.first ∷ k.others) a.text b.text (subst (λ items. AreTextsIn items a.text) same h.joined) k.joined)
          (h.is_span ∙ ap (λ p. span_of_texts p h.others) first ∙ ap (span_of_texts k.first) others ∙ sym k.is_span),
    )

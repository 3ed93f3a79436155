-- Texts and CDATA at the front of items.
use Rattle.std.proofs.Common.{◌≡◌, ◌⊎◌, ℕ, List, [], ◌∷◌, ◌++◌, Bool, true, false, not, cond, Option, None, Some, inl, inr, refl, ap, sym, subst}
use Rattle.mxml_items.specs.Items as i
use Rattle.mxml_items.specs.Items.{Placed}
use Rattle.mxml_tree.specs.declared.fault.TreeCode.{TreeCode}
use Rattle.mxml_tree.specs.declared.tree.Characters.{Characters}
use Rattle.mxml_tree.specs.Faults.{Around, Fault, fault, fault_of, first_fault, is_outside, past}
use Rattle.mxml_tree.specs.IsTree.{ArePassedOver, is_passed_over}
use Rattle.mxml_tree.specs.Texts.{AreAllTexts, AreCharacters, AreTexts, NoTextBegins, is_text, is_white_text, not_white, span_of_texts}
use Rattle.mxml_tree.proofs.TextReading.{text_past, true_back, true_front}
use Rattle.mxml_laws.proofs.Meanings.{HaveMeanings, joined_text, not_white_are, not_white_have}

abbrev after : Placed → List Placed → Around → ℕ → List ℕ → Option TreeCode → Option Fault
after placed left around end rest found = elim found [ Some code ↦ Some (fault placed.at code) | None ↦ first_fault left (past placed.item around) end rest ]

-- where items have no fault, the first has none, and those behind it have none
pub both_fine : (placed : Placed) (left : List Placed) (around : Around) (end : ℕ) (rest : List ℕ) → first_fault (placed ∷ left) around end rest ≡ None → (fault_of placed.item around ≡ None) × (first_fault left (past placed.item around) end rest ≡ None)
both_fine placed left around end rest none = by (fault_of placed.item around) none
  where
    by : (found : Option TreeCode) → after placed left around end rest found ≡ None → (found ≡ None) × (first_fault left (past placed.item around) end rest ≡ None)
    by None none = (refl, none)
    by (Some code) none = absurd (cc none)

pub texts_behind : (texts left : List Placed) (around : Around) (end : ℕ) (rest : List ℕ) → AreTexts texts → is_outside around ≡ false → first_fault (texts ++ left) around end rest ≡ None → first_fault left around end rest ≡ None
texts_behind [] left around end rest are inside none = none
texts_behind (placed ∷ texts) left around end rest are inside none =
    let text = true_front _ _ are in
    texts_behind texts left around end rest (true_back _ _ are) inside
    (subst (λ next. first_fault (texts ++ left) next end rest ≡ None) (text_past placed.item around text) (both_fine placed (texts ++ left) around end rest none).1)

-- all texts at the front
abbrev pub Texts : List Placed → Type 0
Texts items = (texts : List Placed) × (left : List Placed) × (items ≡ texts ++ left) × AreAllTexts texts left

pub texts_of : (items : List Placed) → Texts items
texts_of [] = ([], [], refl, record { are_texts = refl; no_more = tt })
texts_of (placed ∷ items) = by (is_text placed.item) refl (texts_of items)
  where
    by : (t : Bool) → is_text placed.item ≡ t → Texts items → Texts (placed ∷ items)
    by true is (texts, left, split, all) = (placed ∷ texts, left, ap (λ t. placed ∷ t) split, record { are_texts = rw is all.are_texts; no_more = all.no_more })
    by false is others = ([], placed ∷ items, refl, record { are_texts = refl; no_more = is })

-- they are all white, or make a node
abbrev pub Characterized : List Placed → Type 0
Characterized texts = (at : ℕ) × (characters : Characters) × AreCharacters at characters texts

pub white_or_node : (texts : List Placed) → HaveMeanings texts → AreTexts texts → ArePassedOver texts ⊎ Characterized texts
white_or_node texts have are = by (not_white texts) refl
  where
    white_passed : (item : i.Item) → is_white_text item ≡ true → is_passed_over item ≡ true
    white_passed (i.Words content) is = is
    white_passed (i.CData content) is = is
    white_passed i.Instruction is = refl
    white_passed i.Comment is = refl
    white_passed (i.Tag name attributes empty) is = is
    white_passed (i.End_tag name) is = is

    one : (white : Bool) (placed : Placed) (others : List Placed) → cond (not white) (placed ∷ others) others ≡ [] → (white ≡ true) × (others ≡ [])
    one true placed others none = (refl, none)
    one false placed others none = absurd (cc none)

    all_passed : (texts : List Placed) → not_white texts ≡ [] → ArePassedOver texts
    all_passed [] none = refl
    all_passed (placed ∷ texts) none =
        let (own, others) = one (is_white_text placed.item) placed (not_white texts) none in
        rw (white_passed placed.item own) (all_passed texts others)

    by : (some : List Placed) → not_white texts ≡ some → ArePassedOver texts ⊎ Characterized texts
    by [] is = inl (all_passed texts is)
    by (first ∷ others) is =
        let (text, joined) = joined_text (first ∷ others) (subst HaveMeanings is (not_white_have texts have)) (subst AreTexts is (not_white_are texts are)) in
        inr (first.at, record { text = text; span = span_of_texts first others }, record { first = first; others = others; are_texts = are; are = is; stands = refl; joined = joined; is_span = refl })

pub no_text_in_front : (inner behind left : List Placed) → inner ++ behind ≡ left → NoTextBegins left → NoTextBegins inner
no_text_in_front [] behind left same none = tt
no_text_in_front (placed ∷ inner) behind left same none = subst NoTextBegins (sym same) none

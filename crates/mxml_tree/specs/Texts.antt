-- Which texts and CDATA make one node.
use Rattle.std.specs.Prelude.{◌≡◌, ℕ, ◌+◌, ◌-◌, ◌==◌, Bool, true, false, not, List, [], ◌∷◌, ◌++◌, filter, length, Option, Some, None, IsTrue, IsFalse, codes}
use Rattle.std.specs.List.{list_all, list_any}
use Rattle.mxml_items.specs.Pieces.{is_white}
use Rattle.mxml_items.specs.Items.{Item, CData, Words, Placed}
use Rattle.mxml_tree.specs.declared.tree.Characters.{Characters}
use Rattle.mxml_tree.specs.Values.{IsText, cdata_text}

abbrev pub is_text : Item → Bool
is_text (Words content) = true
is_text (CData content) = true
is_text _ = false

-- a text that is written with white space alone
abbrev pub is_white_text : Item → Bool
is_white_text (Words content) = list_all is_white content
is_white_text _ = false

-- what an item's characters are
abbrev pub IsTextIn : Item → List ℕ → Type 0
IsTextIn (Words content) text = IsText content text
IsTextIn (CData content) text = text ≡ cdata_text content
IsTextIn _ text = ⊥

-- the texts of items, joined
pub record Joined (item : Item) (Others : List ℕ → Type 0) (text : List ℕ) : Type 0 where
  pub front : List ℕ
  pub back : List ℕ
  pub is : text ≡ front ++ back
  pub is_front : IsTextIn item front
  pub is_back : Others back

abbrev pub AreTextsIn : List Placed → List ℕ → Type 0
AreTextsIn [] text = text ≡ []
AreTextsIn (placed ∷ others) text = Joined placed.item (AreTextsIn others) text

-- where the characters of an item stand: all of a text, and what is enclosed of CDATA; none where a reference is among them
abbrev pub span_of : Placed → Option (ℕ × ℕ)
span_of placed =
    elim placed.item [
      | Words content ↦ elim (list_any (λ b. b == 38) content) [ true ↦ None | false ↦ Some (placed.at, placed.end) ]
      | CData content ↦ Some (placed.at + length (codes "<![CDATA["), placed.end - length (codes "]]>"))
      | _ ↦ None
    ]

abbrev pub span_of_texts : Placed → List Placed → Option (ℕ × ℕ)
span_of_texts first [] = span_of first
span_of_texts first (second ∷ others) = None

-- no text or CDATA comes next
abbrev pub NoTextBegins : List Placed → Type 0
NoTextBegins [] = Unit {0}
NoTextBegins (placed ∷ items) = IsFalse (is_text placed.item)

-- those that aren't written with white space alone
abbrev pub not_white : List Placed → List Placed
not_white items = filter (λ (placed : Placed). not (is_white_text placed.item)) items

abbrev pub AreTexts : List Placed → Type 0
AreTexts items = IsTrue (list_all (λ (placed : Placed). is_text placed.item) items)

-- all of the texts and CDATA at the front of items, and what stands behind them
pub record AreAllTexts (texts behind : List Placed) : Type 0 where
  pub are_texts : AreTexts texts
  pub no_more : NoTextBegins behind

-- texts and CDATA one after another that make one node at a place
pub record AreCharacters (at : ℕ) (node : Characters) (items : List Placed) : Type 0 where
  pub first : Placed
  pub others : List Placed
  pub are_texts : AreTexts items
  pub are : not_white items ≡ first ∷ others
  pub stands : at ≡ first.at
  pub joined : AreTextsIn (first ∷ others) node.text
  pub is_span : node.span ≡ span_of_texts first others

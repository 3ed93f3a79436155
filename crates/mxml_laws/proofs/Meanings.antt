-- The values and texts of a text's items have pieces, so that they stand for something.
use Rattle.std.proofs.Common.{◌≡◌, ℕ, ◌+◌, List, [], ◌∷◌, ◌++◌, Bool, true, false, cond, not, length, refl, is_none}
use Rattle.mxml_items.specs.Pieces.{Piece}
use Rattle.mxml_items.specs.Items as i
use Rattle.mxml_items.specs.Items.{AreAttributes, AreItems, BeginsWithItem, Placed, Written}
use Rattle.mxml_items.proofs.RunLaws.{and_true}
use Rattle.mxml_tree.specs.Faults.{plain}
use Rattle.mxml_tree.specs.Namespaces.{declares}
use Rattle.mxml_tree.specs.Texts.{AreTexts, AreTextsIn, IsTextIn, is_text, is_white_text, not_white}
use Rattle.mxml_tree.specs.Values.{ArePiecesOf, IsMeant, cdata_text, text_of, value_of}
use Rattle.mxml_tree.proofs.Readable.{pieces_of}
use Rattle.mxml_tree.proofs.TextReading.{true_back, true_front}

abbrev pub HavePieces : List ℕ → Type 0
HavePieces bytes = (pieces : List Piece) × ArePiecesOf pieces bytes

-- the values of attributes
abbrev pub HaveValues : List Written → Type 0
HaveValues [] = Unit {0}
HaveValues (a ∷ attributes) = HavePieces a.value × HaveValues attributes

abbrev pub HasMeaning : i.Item → Type 0
HasMeaning (i.Words content) = HavePieces content
HasMeaning (i.Tag name attributes empty) = HaveValues attributes
HasMeaning _ = Unit {0}

abbrev pub HaveMeanings : List Placed → Type 0
HaveMeanings [] = Unit {0}
HaveMeanings (placed ∷ items) = HasMeaning placed.item × HaveMeanings items

attributes_have : (attributes : List Written) (at : ℕ) (bytes : List ℕ) → AreAttributes attributes at bytes → HaveValues attributes
attributes_have [] at bytes are = tt
attributes_have (a ∷ attributes) at bytes are =
    let v = are.first.is_value in
    ((v.pieces, pieces_of _ v.pieces a.value v.are_pieces), attributes_have attributes (at + length are.front) are.back are.second)

item_has : (item : i.Item) (at : ℕ) (text rest : List ℕ) → BeginsWithItem item at text rest → HasMeaning item
item_has i.Instruction at text rest b = tt
item_has i.Comment at text rest b = tt
item_has (i.CData content) at text rest b = tt
item_has (i.End_tag name) at text rest b = tt
item_has (i.Words content) at text rest b = (let words = b.is_item.1 in (words.pieces, pieces_of _ words.pieces content words.are_pieces))
item_has (i.Tag name attributes empty) at text rest b = attributes_have attributes (at + 1 + length name) b.is_item.list b.is_item.are_attributes

pub items_have : (items : List Placed) (end : ℕ) (rest : List ℕ) (at : ℕ) (text : List ℕ) → AreItems items end rest at text → HaveMeanings items
items_have [] end rest at text are = tt
items_have (placed ∷ items) end rest at text are = (item_has placed.item at text are.rest are.begins, items_have items end rest placed.end are.rest are.go_on)

pub meanings_behind : (front behind : List Placed) → HaveMeanings (front ++ behind) → HaveMeanings behind
meanings_behind [] behind have = have
meanings_behind (placed ∷ front) behind have = meanings_behind front behind have.1

pub meanings_before : (front behind : List Placed) → HaveMeanings (front ++ behind) → HaveMeanings front
meanings_before [] behind have = tt
meanings_before (placed ∷ front) behind have = (have.0, meanings_before front behind have.1)

-- those of the attributes that declare nothing
pub plain_have : (attributes : List Written) → HaveValues attributes → HaveValues (plain attributes)
plain_have [] have = tt
plain_have (a ∷ attributes) have = by (is_none (declares a.name)) (plain_have attributes have.1)
  where
    by : (t : Bool) → HaveValues (plain attributes) → HaveValues (cond t (a ∷ plain attributes) (plain attributes))
    by true others = (have.0, others)
    by false others = others

pub meant_of : (value : List ℕ) → HavePieces value → (meant : List ℕ) × IsMeant value meant
meant_of value (pieces, are) = (value_of pieces, record { pieces = pieces; are_pieces = are; is = refl })

text_in : (item : i.Item) → HasMeaning item → is_text item ≡ true → (text : List ℕ) × IsTextIn item text
text_in (i.Words content) (pieces, are) is = (text_of pieces, record { pieces = pieces; are_pieces = are; is = refl })
text_in (i.CData content) have is = (cdata_text content, refl)
text_in i.Instruction have is = absurd (cc is)
text_in i.Comment have is = absurd (cc is)
text_in (i.Tag name attributes empty) have is = absurd (cc is)
text_in (i.End_tag name) have is = absurd (cc is)

-- the texts of items, joined
pub joined_text : (items : List Placed) → HaveMeanings items → AreTexts items → (text : List ℕ) × AreTextsIn items text
joined_text [] have are = ([], refl)
joined_text (placed ∷ items) have are =
    let (front, is_front) = text_in placed.item have.0 (true_front _ _ are) in
    let (back, is_back) = joined_text items have.1 (true_back _ _ are) in
    (front ++ back, record { front = front; back = back; is = refl; is_front = is_front; is_back = is_back })

-- of texts those that aren't white are texts too
pub not_white_have : (items : List Placed) → HaveMeanings items → HaveMeanings (not_white items)
not_white_have [] have = tt
not_white_have (placed ∷ items) have = by (is_white_text placed.item) (not_white_have items have.1)
  where
    by : (t : Bool) → HaveMeanings (not_white items) → HaveMeanings (cond (not t) (placed ∷ not_white items) (not_white items))
    by true others = others
    by false others = (have.0, others)

pub not_white_are : (items : List Placed) → AreTexts items → AreTexts (not_white items)
not_white_are [] are = refl
not_white_are (placed ∷ items) are = by (is_white_text placed.item) (not_white_are items (true_back _ _ are))
  where
    by : (t : Bool) → AreTexts (not_white items) → AreTexts (cond (not t) (placed ∷ not_white items) (not_white items))
    by true others = others
    by false others = and_true (is_text placed.item) _ (true_front _ _ are) others

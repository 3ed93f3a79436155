-- Items whose texts and values can be read: UTF-8 that pieces are written with, and CDATA between its marks.
use Rattle.std.specs.Prelude.{◌≡◌, ℕ, ◌+◌, List, length, IsUtf8, All, codes}
use Rattle.mxml_items.specs.Pieces.{Piece}
use Rattle.mxml_items.specs.Items.{Written, Item, CData, Tag, Words, Placed}
use Rattle.mxml_tree.specs.Values.{ArePiecesOf}

pub record IsReadable (written : List ℕ) : Type 0 where
  pub utf8 : IsUtf8 written
  pub pieces : List Piece
  pub are_pieces : ArePiecesOf pieces written

abbrev pub HasReadableValue : Written → Type 0
HasReadableValue a = IsReadable a.value

abbrev pub IsReadableItem : Item → Type 0
IsReadableItem (CData content) = IsUtf8 content
IsReadableItem (Tag name attributes empty) = All HasReadableValue attributes
IsReadableItem (Words content) = IsReadable content
IsReadableItem _ = Unit {0}

-- CDATA between a place and another: its mark, its content, and the mark that ends it
abbrev pub AreMarksOf : Item → ℕ → ℕ → Type 0
AreMarksOf (CData content) at end = ((at + length (codes "<![CDATA[")) + length content) + length (codes "]]>") ≡ end
AreMarksOf _ at end = Unit {0}

abbrev pub HasMarks : Placed → Type 0
HasMarks placed = AreMarksOf placed.item placed.at placed.end

abbrev pub IsReadablePlaced : Placed → Type 0
IsReadablePlaced placed = IsReadableItem placed.item × HasMarks placed

abbrev pub AreReadable : List Placed → Type 0
AreReadable items = All IsReadablePlaced items

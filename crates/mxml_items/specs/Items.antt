-- The items that the text of a document is a list of: which bytes each form has.
use Rattle.std.specs.Prelude.{◌≡◌, ◌⊎◌, ℕ, ◌+◌, ◌≤◌, Bool, List, [], ◌∷◌, ◌++◌, length, if◌then◌else◌, IsTrue, codes}
use Rattle.std.specs.List.{list_all}
use Rattle.mxml_items.specs.Names.{IsName}
use Rattle.mxml_items.specs.Pieces.{Piece, ArePieces, is_white, is_in_value, is_in_text}

-- an attribute as it is written
pub record Written : Type 0 where
  -- the place of its name
  pub at : ℕ
  pub name : List ℕ
  -- what stands between its quotes
  pub value : List ℕ

pub data Item : Type 0 where
  Instruction : Item
  Comment : Item
  CData : (content : List ℕ) → Item
  -- a start tag, or an empty element
  Tag : (name : List ℕ) (attributes : List Written) (empty : Bool) → Item
  End_tag : (name : List ℕ) → Item
  Words : (content : List ℕ) → Item

-- bytes that are white space, or none
abbrev pub IsWhite : List ℕ → Type 0
IsWhite bytes = IsTrue (list_all is_white bytes)

-- what may stand between such quotes
pub record IsValue (quote : ℕ) (value : List ℕ) : Type 0 where
  pub is_quote : (quote ≡ 34) ⊎ (quote ≡ 39)
  pub pieces : List Piece
  pub are_pieces : ArePieces (is_in_value quote) pieces value

-- white space, a name, `=` with white space around it or not, and a value in quotes
pub record IsAttribute (a : Written) (at : ℕ) (bytes : List ℕ) : Type 0 where
  pub gap : List ℕ
  pub before : List ℕ
  pub after : List ℕ
  pub quote : ℕ
  pub is : bytes ≡ gap ++ (a.name ++ (before ++ (61 ∷ (after ++ (quote ∷ (a.value ++ (quote ∷ [])))))))
  pub some_gap : 1 ≤ length gap
  pub is_gap : IsWhite gap
  pub is_name : IsName a.name
  pub is_before : IsWhite before
  pub is_after : IsWhite after
  pub is_value : IsValue quote a.value
  pub stands : a.at ≡ at + length gap

-- an attribute, and what stands behind it
pub record AttributeThen (a : Written) (Others : ℕ → List ℕ → Type 0) (at : ℕ) (bytes : List ℕ) : Type 0 where
  pub front : List ℕ
  pub back : List ℕ
  pub is : bytes ≡ front ++ back
  pub first : IsAttribute a at front
  pub second : Others (at + length front) back

-- attributes one behind another
abbrev pub AreAttributes : List Written → ℕ → List ℕ → Type 0
AreAttributes [] at bytes = bytes ≡ []
AreAttributes (a ∷ others) at bytes = AttributeThen a (AreAttributes others) at bytes

abbrev pub closing : Bool → List ℕ
closing empty = if empty then codes "/>" else codes ">"

pub record IsTag (name : List ℕ) (attributes : List Written) (empty : Bool) (at : ℕ) (bytes : List ℕ) : Type 0 where
  pub list : List ℕ
  pub gap : List ℕ
  pub is : bytes ≡ codes "<" ++ (name ++ (list ++ (gap ++ closing empty)))
  pub is_name : IsName name
  pub are_attributes : AreAttributes attributes (at + 1 + length name) list
  pub is_gap : IsWhite gap

pub record IsEndTag (name bytes : List ℕ) : Type 0 where
  pub gap : List ℕ
  pub is : bytes ≡ codes "</" ++ (name ++ (gap ++ codes ">"))
  pub is_name : IsName name
  pub is_gap : IsWhite gap

-- what stands between an opening and the first closing behind it
pub record IsEnclosed (opening ending content bytes : List ℕ) : Type 0 where
  pub is : bytes ≡ opening ++ (content ++ ending)
  pub first : (other back : List ℕ) → content ++ ending ≡ other ++ (ending ++ back) → length content ≤ length other

pub record AreWords (content : List ℕ) : Type 0 where
  pub not_empty : 1 ≤ length content
  pub pieces : List Piece
  pub are_pieces : ArePieces is_in_text pieces content

-- these bytes are the item, which begins at a place
abbrev pub IsItem : Item → ℕ → List ℕ → Type 0
IsItem Instruction at bytes = (content : List ℕ) × IsEnclosed (codes "<?") (codes "?>") content bytes
IsItem Comment at bytes = (content : List ℕ) × IsEnclosed (codes "<!--") (codes "-->") content bytes
IsItem (CData content) at bytes = IsEnclosed (codes "<![CDATA[") (codes "]]>") content bytes
IsItem (Tag name attributes empty) at bytes = IsTag name attributes empty at bytes
IsItem (End_tag name) at bytes = IsEndTag name bytes
IsItem (Words content) at bytes = (bytes ≡ content) × AreWords content

-- an item where it stands
pub record Placed : Type 0 where
  pub item : Item
  pub at : ℕ
  -- the place past it
  pub end : ℕ

-- an item at the front of a text, and no longer front of it is an item; what stands behind it
pub record BeginsWithItem (item : Item) (at : ℕ) (text rest : List ℕ) : Type 0 where
  pub bytes : List ℕ
  pub is : text ≡ bytes ++ rest
  pub is_item : IsItem item at bytes
  pub longest : (other : Item) (front back : List ℕ) → text ≡ front ++ back → IsItem other at front → length front ≤ length bytes

-- no item begins a text
abbrev pub NoItemBegins : ℕ → List ℕ → Type 0
NoItemBegins at text = (item : Item) (bytes rest : List ℕ) → text ≡ bytes ++ rest → ¬ (IsItem item at bytes)

-- an item, the longest that stands there, and what holds of the text behind it
pub record ItemThen (placed : Placed) (Others : ℕ → List ℕ → Type 0) (at : ℕ) (text : List ℕ) : Type 0 where
  pub rest : List ℕ
  pub begins : BeginsWithItem placed.item at text rest
  pub stands : placed.at ≡ at
  pub ends : placed.end + length rest ≡ at + length text
  pub go_on : Others placed.end rest

-- the items of a text one after another, up to a place, and the text from there on
abbrev pub AreItems : List Placed → ℕ → List ℕ → ℕ → List ℕ → Type 0
AreItems [] end rest at text = (end ≡ at) × (rest ≡ text)
AreItems (placed ∷ others) end rest at text = ItemThen placed (AreItems others end rest) at text

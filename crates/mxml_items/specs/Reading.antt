-- What stands at the front of a text, or that nothing of a form does.
use Rattle.std.specs.Prelude.{◌≡◌, ◌≢◌, ℕ, ◌+◌, Bool, List, ◌∷◌, ◌++◌, map}
use Rattle.mxml_items.specs.declared.item.Attribute.{Attribute}
use Rattle.mxml_items.specs.Items.{Written, IsWhite, IsValue, IsAttribute, AreAttributes, IsTag, IsEndTag, IsEnclosed, AreWords, closing}
use Rattle.mxml_items.specs.Items as Stated
use Rattle.mxml_items.specs.Pieces.{HasNoPiece, is_in_text}
use Rattle.mxml_items.specs.declared.item.Item.{Item}
use Rattle.mxml_items.specs.declared.item.Item.TheVariants as item

-- an attribute of the code
abbrev pub written : Attribute → Written
written a = record { at = a.at; name = a.name.now; value = a.value.now }

-- a value in quotes at the front of a text
pub record BeginsWithQuoted (text value rest : List ℕ) : Type 0 where
  pub quote : ℕ
  pub is : text ≡ quote ∷ (value ++ (quote ∷ rest))
  pub is_value : IsValue quote value

abbrev pub HasNoQuoted : List ℕ → Type 0
HasNoQuoted text = (value rest : List ℕ) → ¬ (BeginsWithQuoted text value rest)

pub record BeginsWithAttribute (at : ℕ) (text : List ℕ) (a : Written) (rest : List ℕ) : Type 0 where
  pub bytes : List ℕ
  pub is : text ≡ bytes ++ rest
  pub is_attribute : IsAttribute a at bytes

abbrev pub HasNoAttribute : List ℕ → Type 0
HasNoAttribute text = (at : ℕ) (a : Written) (rest : List ℕ) → ¬ (BeginsWithAttribute at text a rest)

-- all attributes at the front of a text
pub record BeginsWithAttributes (at : ℕ) (text : List ℕ) (attributes : List Written) (rest : List ℕ) : Type 0 where
  pub bytes : List ℕ
  pub is : text ≡ bytes ++ rest
  pub are_attributes : AreAttributes attributes at bytes
  pub no_more : HasNoAttribute rest

-- a value and its quote at the front of a text
pub record BeginsWithValue (quote : ℕ) (body value rest : List ℕ) : Type 0 where
  pub is : body ≡ value ++ (quote ∷ rest)
  pub is_value : IsValue quote value

abbrev pub HasNoValue : ℕ → List ℕ → Type 0
HasNoValue quote body = (value rest : List ℕ) → ¬ (BeginsWithValue quote body value rest)

-- `=` with white space around it or not, and a value in quotes, at the front of a text
pub record BeginsWithGiven (text value rest : List ℕ) : Type 0 where
  pub before : List ℕ
  pub after : List ℕ
  pub quoted : List ℕ
  pub is : text ≡ before ++ (61 ∷ (after ++ quoted))
  pub is_before : IsWhite before
  pub is_after : IsWhite after
  pub is_quoted : BeginsWithQuoted quoted value rest

abbrev pub HasNoGiven : List ℕ → Type 0
HasNoGiven text = (value rest : List ℕ) → ¬ (BeginsWithGiven text value rest)

-- an opening at the front of a text, what stands up to the first ending behind it, and what stands behind that
pub record BeginsWithEnclosed (opening ending text content rest : List ℕ) : Type 0 where
  pub is : text ≡ opening ++ (content ++ (ending ++ rest))
  pub enclosed : IsEnclosed opening ending content (opening ++ (content ++ ending))

abbrev pub HasNoEnclosed : List ℕ → List ℕ → List ℕ → Type 0
HasNoEnclosed opening ending text = (content rest : List ℕ) → ¬ (BeginsWithEnclosed opening ending text content rest)

pub record BeginsWithEndTag (text name rest : List ℕ) : Type 0 where
  pub bytes : List ℕ
  pub is : text ≡ bytes ++ rest
  pub is_end_tag : IsEndTag name bytes

abbrev pub HasNoEndTag : List ℕ → Type 0
HasNoEndTag text = (name rest : List ℕ) → ¬ (BeginsWithEndTag text name rest)

pub record BeginsWithTag (at : ℕ) (text name : List ℕ) (attributes : List Written) (empty : Bool) (rest : List ℕ) : Type 0 where
  pub bytes : List ℕ
  pub is : text ≡ bytes ++ rest
  pub is_tag : IsTag name attributes empty at bytes

abbrev pub HasNoTag : List ℕ → Type 0
HasNoTag text = (at : ℕ) (name : List ℕ) (attributes : List Written) (empty : Bool) (rest : List ℕ) → ¬ (BeginsWithTag at text name attributes empty rest)

-- pieces at the front of a text, one at least, and no piece behind them
pub record BeginsWithWords (text content rest : List ℕ) : Type 0 where
  pub is : text ≡ content ++ rest
  pub are_words : AreWords content
  pub no_more : HasNoPiece is_in_text rest

abbrev pub HasNoWords : List ℕ → Type 0
HasNoWords text = (content rest : List ℕ) → text ≡ content ++ rest → ¬ (AreWords content)

-- an item of the code
abbrev pub item_of : Item → Stated.Item
item_of item.Instruction = Stated.Instruction
item_of item.Comment = Stated.Comment
item_of (item.CData content) = Stated.CData content.now
item_of (item.Tag name attributes empty) = Stated.Tag name.now (map written attributes) empty
item_of (item.EndTag name) = Stated.End_tag name.now
item_of (item.Words content) = Stated.Words content.now

-- the parts of a tag of the code
abbrev pub IsTagAt : ℕ → List ℕ → Item → List ℕ → Type 0
IsTagAt at text (item.Tag name attributes empty) rest = BeginsWithTag at text name.now (map written attributes) empty rest
IsTagAt at text _ rest = ⊥

-- a text begins with the end of no tag
abbrev pub HasNoClosing : List ℕ → Type 0
HasNoClosing text = (empty : Bool) (rest : List ℕ) → text ≢ closing empty ++ rest

-- The items of a whole text.
use Rattle.std.specs.Prelude.{◌≡◌, ◌≢◌, ◌⊎◌, ℕ, ◌+◌, ◌-◌, List, [], ◌∷◌, ◌++◌, length, map}
use Rattle.mxml_items.specs.declared.items.Placed as Code
use Rattle.mxml_items.specs.declared.items.Items as Code_of_text
use Rattle.mxml_items.specs.Items.{Placed, BeginsWithItem, AreItems, NoItemBegins}
use Rattle.mxml_items.specs.Reading.{item_of}

-- U+FEFF
abbrev pub mark : List ℕ
mark = 0xEF ∷ 0xBB ∷ 0xBF ∷ []

-- where a text begins: a first U+FEFF is passed over
abbrev pub IsBegun : List ℕ → List ℕ → Type 0
IsBegun text rest = (text ≡ mark ++ rest) ⊎ ((rest ≡ text) × ((others : List ℕ) → text ≢ mark ++ others))

-- an item of the code where it stands
abbrev pub placed_of : Code.Placed → Placed
placed_of p = record { item = item_of p.item; at = p.at; end = p.end }

-- an item at the front of the last part of a text of this length, and what stands behind it
pub record IsPlacedAt (size : ℕ) (rest : List ℕ) (placed : Placed) (unread : List ℕ) : Type 0 where
  pub begins : BeginsWithItem placed.item (size - length rest) rest unread
  pub stands : placed.at ≡ size - length rest
  pub ends : placed.end ≡ size - length unread

-- the items that a text has, one behind another, up to a place where no item begins
pub record HasItems (text : List ℕ) (found : Code_of_text.Items) : Type 0 where
  -- where the items begin, and what stands where they end
  pub begun : List ℕ
  pub rest : List ℕ
  pub is_begun : IsBegun text begun
  pub are_items : AreItems (map placed_of found.items) found.end rest (length text - length begun) begun
  pub no_more : NoItemBegins found.end rest

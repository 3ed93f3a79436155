-- Documents as they are read, item by item.
use Rattle.std.specs.Prelude.{◌≡◌, ◌≤◌, ℕ, List, drop, length, map, Some}
use Rattle.mxml_items.specs.declared.items.Placed as Code
use Rattle.mxml_items.specs.Items.{Placed}
use Rattle.mxml_items.specs.Texts.{placed_of}
use Rattle.mxml_tree.specs.declared.building.Building.{Building}
use Rattle.mxml_tree.specs.declared.fault.TreeRefusal.{TreeRefusal}
use Rattle.mxml_tree.specs.declared.fault.TreeRefusal.TheVariants as refusal
use Rattle.mxml_tree.specs.Building.{Stands}
use Rattle.mxml_tree.specs.Faults.{at_start, fault, first_fault}

abbrev pub placed_in : List Code.Placed → List Placed
placed_in items = map placed_of items

-- so many items are read, one at least
pub record Advances (items : List Code.Placed) (old new : Building) (count : ℕ) : Type 0 where
  pub some : 1 ≤ count
  pub within : count ≤ length items
  pub reads : (all : List Placed) → Stands all (placed_in items) old → Stands all (placed_in (drop count items)) new

-- a refusal is the first fault, where these items are left
abbrev pub RefusesAt : List Code.Placed → Building → TreeRefusal → Type 0
RefusesAt items old (refusal.Fault code at) =
    (all : List Placed) (end : ℕ) (rest : List ℕ) → Stands all (placed_in items) old → first_fault all at_start end rest ≡ Some (fault at code)
RefusesAt items old refusal.NoMemory = Unit {0}

-- a refusal is the first fault of items, whatever stands behind them
abbrev pub RefusesItems : List Code.Placed → TreeRefusal → Type 0
RefusesItems items (refusal.Fault code at) = (end : ℕ) (rest : List ℕ) → first_fault (placed_in items) at_start end rest ≡ Some (fault at code)
RefusesItems items refusal.NoMemory = Unit {0}

-- What is known of the depths of a body while its paths are followed.
use Rattle.std.specs.Prelude.{◌≡◌, ℕ, suc, ◌+◌, ◌<◌, List, [], ◌∷◌, ◌++◌, length, Option, None, Some, slice_get, ◌⊎◌, Contains}
use Rattle.verified_code.specs.declared.Depths.{Depths}

-- of each place the depths that are known, and the places from which paths were not followed yet
pub record Known : Type 0 where
  pub table : List (Option Depths)
  pub work : List ℕ

abbrev pub IsKnown : Known → ℕ → Depths → Type 0
IsKnown k place d = slice_get k.table place ≡ Some (Some d)

-- how many places there are without depths
abbrev pub unknown_places : List (Option Depths) → ℕ
unknown_places [] = 0
unknown_places (None ∷ table) = suc (unknown_places table)
unknown_places (Some d ∷ table) = unknown_places table

-- and with those from which paths were not followed yet
abbrev pub unfinished : Known → ℕ
unfinished k = unknown_places k.table + length k.work

-- what is known grows by these depths at this place at most
pub record Grows (place : Option ℕ) (d : Depths) (k l : Known) : Type 0 where
  pub long : length l.table ≡ length k.table
  pub keeps : (at : ℕ) (e : Depths) → IsKnown k at e → IsKnown l at e
  pub new : (at : ℕ) (e : Depths) → IsKnown l at e → IsKnown k at e ⊎ (Contains l.work at × (place ≡ Some at) × (e ≡ d))
  pub waits : (at : ℕ) → Contains k.work at → Contains l.work at
  pub known : (at : ℕ) → place ≡ Some at → IsKnown l at d
  pub same : unfinished l ≡ unfinished k

-- a path comes to a place with other depths than are known there
pub record IsOther (place : Option ℕ) (d : Depths) (k : Known) : Type 0 where
  pub at : ℕ
  pub is : place ≡ Some at
  pub first : Depths
  pub known : IsKnown k at first
  pub differ : first ≡ d → ⊥

-- nothing but the depths at the start, from where no path was followed yet
pub record IsBegun (count : ℕ) (start : Depths) (k : Known) : Type 0 where
  pub long : length k.table ≡ count
  pub starts : 0 < count → IsKnown k 0 start × Contains k.work 0
  pub only : (place : ℕ) (d : Depths) → IsKnown k place d → (place ≡ 0) × (d ≡ start)

-- the last place that waits is taken
pub record IsTaken (place : ℕ) (k l : Known) : Type 0 where
  pub table : l.table ≡ k.table
  pub work : k.work ≡ l.work ++ place ∷ []

abbrev pub joined : Option (Option Depths) → Option Depths
joined None = None
joined (Some known) = known

-- the depths that are known at a place
abbrev pub known_at : Known → ℕ → Option Depths
known_at k place = joined (slice_get k.table place)

-- The table as it stands in the code: a number of a right side for each part and what comes next.
use Rattle.std.specs.Prelude.{ℕ, zero, suc, ◌+◌, List, [], ◌∷◌, ◌++◌, length, Bool, ltb, Option, Some, None}
use Rattle.as3_parser.specs.Table.{Side, Entry, pick_from, all}

-- the number of a right side among all, where those of its part begin with b
abbrev pub row_code : ℕ → Option ℕ → ℕ
row_code b None = 255
row_code b (Some i) = b + i

abbrev pub row_cells : List Side → ℕ → ℕ → ℕ → List ℕ
row_cells ss b zero l = []
row_cells ss b (suc k) l = row_code b (pick_from ss l 0) ∷ row_cells ss b k (suc l)

abbrev pub cells : ℕ → List Entry → ℕ → List ℕ
cells w [] b = []
cells w (e ∷ es) b = row_cells e.sides b w 0 ++ cells w es (b + length e.sides)

-- how many right sides stand before those of a part
abbrev pub base : List Entry → ℕ → ℕ
base [] n = 0
base (e ∷ es) zero = 0
base (e ∷ es) (suc n) = length e.sides + base es n

abbrev pub all_sides : List Entry → List Side
all_sides [] = []
all_sides (e ∷ es) = e.sides ++ all_sides es

-- nothing past w is named
abbrev pub small : ℕ → List Entry → Bool
small w es = all (λ e. all (λ s. all (λ l. ltb l w) s.on) e.sides) es

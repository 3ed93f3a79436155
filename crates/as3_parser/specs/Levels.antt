-- Levels, where an `else` belongs to the nearest `if`.
use Rattle.std.specs.Prelude.{◌≡◌, ℕ, suc, ◌<◌, ◌≤◌, List, [], ◌∷◌, ◌++◌, length, take, Some}
use Rattle.as3_parser.specs.Grammar.{Symbol, Token, Part, Close, Rules}
use Rattle.as3_parser.specs.Predicts.{next, Dangling}

-- how many levels are open: one for each mark
abbrev pub level : List Symbol → ℕ
level [] = 0
level (Token t ∷ s) = level s
level (Part n ∷ s) = level s
level (Close ∷ s) = suc (level s)

-- the empty side is not taken where the dangling token is next
abbrev pub Nearest : Dangling → ℕ → List Symbol → ℕ → Type 0
Nearest x n r l = n ≡ x.part → r ≡ [] → l ≡ suc x.token → ⊥

-- leftmost steps read all the tokens, and where the last one is read at least m levels are open
pub data Deep (g : Rules) (x : Dangling) (m : ℕ) : List Symbol → List ℕ → Type 0 where
  last : {t : ℕ} {s : List Symbol} → m ≤ level s → Deep g x m (Token t ∷ s) (t ∷ [])
  reads : {t u : ℕ} {s : List Symbol} {w : List ℕ} → Deep g x m s (u ∷ w) → Deep g x m (Token t ∷ s) (t ∷ u ∷ w)
  takes : {n : ℕ} {s : List Symbol} {w : List ℕ} (i : ℕ) (r : List Symbol) → g n i ≡ Some r → Nearest x n r (next w) → Deep g x m (r ++ s) w → Deep g x m (Part n ∷ s) w
  passes : {s : List Symbol} {w : List ℕ} → Deep g x m s w → Deep g x m (Close ∷ s) w

-- token k is the first that opens level m
pub record DeepAt (g : Rules) (x : Dangling) (m : ℕ) (s : List Symbol) (w : List ℕ) (k : ℕ) : Type 0 where
  pub within : k < length w
  pub opens : Deep g x m s (take (suc k) w)
  pub first : (j : ℕ) → j < k → Deep g x m s (take (suc j) w) → ⊥

-- The derivation of a sentence as the list of its choices.
use Rattle.std.specs.Prelude.{◌≡◌, ℕ, List, [], ◌∷◌, ◌++◌, Some}
use Rattle.as3_parser.specs.Grammar.{Symbol, Token, Part, Close, Rules}
use Rattle.as3_parser.specs.Predicts.{next, Dangling}
use Rattle.as3_parser.specs.Levels.{Nearest}

-- leftmost steps derive the tokens, an `else` being that of the nearest `if`, and take these right sides
pub data Derives (g : Rules) (x : Dangling) : List Symbol → List ℕ → List ℕ → Type 0 where
  done : Derives g x [] [] []
  reads : {t : ℕ} {s : List Symbol} {w cs : List ℕ} → Derives g x s w cs → Derives g x (Token t ∷ s) (t ∷ w) cs
  takes : {n : ℕ} {s : List Symbol} {w cs : List ℕ} (i : ℕ) (r : List Symbol) → g n i ≡ Some r → Nearest x n r (next w) → Derives g x (r ++ s) w cs → Derives g x (Part n ∷ s) w (i ∷ cs)
  passes : {s : List Symbol} {w cs : List ℕ} → Derives g x s w cs → Derives g x (Close ∷ s) w cs

-- Where the loop stands.
use Rattle.std.specs.Prelude.{◌≡◌, ℕ, List, [], ◌∷◌, drop}
use Rattle.as3_parser.specs.Grammar.{Symbol, Token, Part, Close, Rules}
use Rattle.as3_parser.specs.Judged.{Outcome, Judged, shift}
use Rattle.as3_parser.specs.Predicts.{Sets, Can, Lacks, Dangling}

-- behind each part of a stack stands what may follow it
abbrev pub Fits : Sets → List Symbol → Type 0
Fits c [] = Unit {0}
Fits c (Token t ∷ s) = Fits c s
Fits c (Close ∷ s) = Fits c s
Fits c (Part m ∷ s) = ((l : ℕ) → Can c s l (l ≡ 0) → c.Follow m l) × Fits c s

-- the token stands at most on top
abbrev pub Clear : ℕ → List Symbol → Type 0
Clear x [] = Unit {0}
Clear x (y ∷ s) = Lacks x s

-- whatever is right for what is left is right for the whole
pub record At (g : Rules) (start : ℕ) (c : Sets) (x : Dangling) (m : ℕ) (ts : List ℕ) (i : ℕ) (s : List Symbol) : Type 0 where
  pub turns : (a : Outcome) → Judged g x m s (drop i ts) a → Judged g x m (Part start ∷ []) ts (shift i a)
  pub fits : Fits c s
  pub clear : Clear x.token s

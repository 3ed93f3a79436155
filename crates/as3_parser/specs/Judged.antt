-- What a parser answers where there is a limit of levels.
use Rattle.std.specs.Prelude.{ℕ, suc, ◌+◌, ◌<◌, List, length, take}
use Rattle.as3_parser.specs.Grammar.{Symbol, Rules}
use Rattle.as3_parser.specs.Exact.{FaultAt}
use Rattle.as3_parser.specs.Predicts.{Dangling}
use Rattle.as3_parser.specs.Levels.{Deep, DeepAt}
use Rattle.as3_parser.specs.Derives.{Derives}

pub data Outcome : Type 0 where
  Sentence : Outcome
  Syntax : (k : ℕ) → Outcome
  TooDeep : (k : ℕ) → Outcome

-- no token before k opens level m
abbrev pub Shallow : Rules → Dangling → ℕ → List Symbol → List ℕ → ℕ → Type 0
Shallow g x m s w k = (j : ℕ) → j < k → Deep g x m s (take (suc j) w) → ⊥

-- the first fault, or none; at one token Syntax counts (what is Deep there begins a sentence)
pub data Judged (g : Rules) (x : Dangling) (m : ℕ) (s : List Symbol) (w : List ℕ) : Outcome → Type 0 where
  fine : (choices : List ℕ) → Derives g x s w choices → Shallow g x m s w (length w) → Judged g x m s w Sentence
  syntax : (k : ℕ) → FaultAt g s w k → Shallow g x m s w k → Judged g x m s w (Syntax k)
  deep : (k : ℕ) → DeepAt g x m s w k → Judged g x m s w (TooDeep k)

-- the same answer, so many tokens on
abbrev pub shift : ℕ → Outcome → Outcome
shift i Sentence = Sentence
shift i (Syntax k) = Syntax (i + k)
shift i (TooDeep k) = TooDeep (i + k)

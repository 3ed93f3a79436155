-- What a parser answers.
use Rattle.std.specs.Prelude.{ℕ, suc, ◌<◌, ◌≤◌, List, length, take, Option, Some, None}
use Rattle.as3_parser.specs.Grammar.{Symbol, Rules, Sentence, Begins}

-- k is the least number such that the tokens 0 to k begin no sentence, or the number of tokens where they begin one and make none
pub record FaultAt (g : Rules) (s : List Symbol) (w : List ℕ) (k : ℕ) : Type 0 where
  pub within : k ≤ length w
  pub good : Begins g s (take k w)
  pub bad : k < length w → Begins g s (take (suc k) w) → ⊥
  pub none : Sentence g s w → ⊥

-- the answer is exact: none for a sentence, the fault's place otherwise
pub data Exact (g : Rules) (s : List Symbol) (w : List ℕ) : Option ℕ → Type 0 where
  right : Sentence g s w → Exact g s w None
  wrong : (k : ℕ) → FaultAt g s w k → Exact g s w (Some k)

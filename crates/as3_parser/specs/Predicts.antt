-- What makes a prediction table right.
use Rattle.std.specs.Prelude.{◌≡◌, ◌⊎◌, ℕ, suc, List, [], ◌∷◌, Option, Some}
use Rattle.as3_parser.specs.Grammar.{Symbol, Token, Part, Close, Rules}

-- what comes next: 0 at the end, else one more than the kind of the token
abbrev pub next : List ℕ → ℕ
next [] = 0
next (t ∷ w) = suc t

-- the sets that a table is made by, as they are claimed
pub record Sets : Type 1 where
  pub First : ℕ → ℕ → Type 0
  pub Follow : ℕ → ℕ → Type 0
  pub Null : ℕ → Type 0

module _ (c : Sets) where
  -- symbols may go on with l, where B says that what stands behind them may
  abbrev pub Can : List Symbol → ℕ → Type 0 → Type 0
  Can [] l B = B
  Can (Token t ∷ s) l B = suc t ≡ l
  Can (Close ∷ s) l B = Can s l B
  Can (Part n ∷ s) l B = c.First n l ⊎ (c.Null n × Can s l B)

  -- symbols may derive no tokens
  abbrev pub Nulls : List Symbol → Type 0
  Nulls [] = Unit {0}
  Nulls (Token t ∷ s) = ⊥
  Nulls (Close ∷ s) = Nulls s
  Nulls (Part n ∷ s) = c.Null n × Nulls s

  -- behind each part of a right side of n stands what may follow it
  abbrev pub Followed : (ℕ → Type 0) → List Symbol → Type 0
  Followed F [] = Unit {0}
  Followed F (Token t ∷ s) = Followed F s
  Followed F (Close ∷ s) = Followed F s
  Followed F (Part m ∷ s) = ((l : ℕ) → Can s l (F l) → c.Follow m l) × Followed F s

-- the token does not occur
abbrev pub Lacks : ℕ → List Symbol → Type 0
Lacks x [] = Unit {0}
Lacks x (Token t ∷ s) = (t ≡ x → ⊥) × Lacks x s
Lacks x (Part m ∷ s) = Lacks x s
Lacks x (Close ∷ s) = Lacks x s

-- the token x, of one right side of the part, which is taken before the empty one: `else`
pub record Dangling : Type 0 where
  pub token : ℕ
  pub part : ℕ
  pub full : ℕ
  pub rest : List Symbol

pub record Predicts (g : Rules) (start : ℕ) (pick : ℕ → ℕ → Option ℕ) (c : Sets) (x : Dangling) : Type 0 where
  -- the sets are large enough
  pub first : (n i : ℕ) (r : List Symbol) → g n i ≡ Some r → (l : ℕ) → Can c r l ⊥ → c.First n l
  pub null : (n i : ℕ) (r : List Symbol) → g n i ≡ Some r → Nulls c r → c.Null n
  pub follow : (n i : ℕ) (r : List Symbol) → g n i ≡ Some r → Followed c (c.Follow n) r
  pub start_follow : c.Follow start 0
  -- a right side that may go on is the one that is picked, but that an empty one may give way to the dangling token
  pub chosen : (n i : ℕ) (r : List Symbol) → g n i ≡ Some r → (l : ℕ) → Can c r l (c.Follow n l) → (pick n l ≡ Some i) ⊎ ((n ≡ x.part) × (l ≡ suc x.token) × (r ≡ []))
  pub full_picked : pick x.part (suc x.token) ≡ Some x.full
  pub full_is : g x.part x.full ≡ Some (Token x.token ∷ x.rest)
  pub rest_lacks : Lacks x.token x.rest
  pub others_lack : (n i : ℕ) (r : List Symbol) → g n i ≡ Some r → ((n ≡ x.part) × (i ≡ x.full)) ⊎ Lacks x.token r

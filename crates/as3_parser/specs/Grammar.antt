-- Grammars, and derivation by leftmost steps.
use Rattle.std.specs.Prelude.{◌≡◌, ℕ, zero, suc, eqb, true, false, List, [], ◌∷◌, ◌++◌, map, Option, Some, None}

-- a symbol: a token by the number of its kind, a part that has right sides, or the place where a level ends
pub data Symbol : Type 0 where
  Token : (t : ℕ) → Symbol
  Part : (n : ℕ) → Symbol
  Close : Symbol

-- the right sides of a part
pub record Production : Type 0 where
  pub part : ℕ
  pub sides : List (List Symbol)

abbrev pub produces : ℕ → List (List Symbol) → Production
produces n sides = record { part = n; sides = sides }

-- one of these right sides, or nothing
abbrev pub optional : List (List Symbol) → List (List Symbol)
optional sides = sides ++ [] ∷ []

-- any number of these right sides, where n is the part itself
abbrev pub many : ℕ → List (List Symbol) → List (List Symbol)
many n sides = map (λ s. s ++ Part n ∷ []) sides ++ [] ∷ []

-- each of these right sides is a level
abbrev pub opens_level : List (List Symbol) → List (List Symbol)
opens_level sides = map (λ s. s ++ Close ∷ []) sides

-- the right side of a part by its number
abbrev pub Rules : Type 0
Rules = ℕ → ℕ → Option (List Symbol)

abbrev pub nth : {A : Type 0} → List A → ℕ → Option A
nth [] n = None
nth (y ∷ ys) zero = Some y
nth (y ∷ ys) (suc n) = nth ys n

abbrev pub sides_of : List Production → ℕ → List (List Symbol)
sides_of [] n = []
sides_of (p ∷ ps) n = elim (eqb p.part n) [ true ↦ p.sides | false ↦ sides_of ps n ]

abbrev pub rules_of : List Production → Rules
rules_of ps n i = nth (sides_of ps n) i

-- leftmost steps from the first symbols read the tokens and leave the last symbols:
-- a step reads the token that the first symbol names, or replaces the first symbol by one of its right sides
pub data Reads (g : Rules) : List Symbol → List ℕ → List Symbol → Type 0 where
  rests : {s : List Symbol} → Reads g s [] s
  reads : {t : ℕ} {s e : List Symbol} {w : List ℕ} → Reads g s w e → Reads g (Token t ∷ s) (t ∷ w) e
  takes : {n : ℕ} {s e : List Symbol} {w : List ℕ} (i : ℕ) (r : List Symbol) → g n i ≡ Some r → Reads g (r ++ s) w e → Reads g (Part n ∷ s) w e
  passes : {s e : List Symbol} {w : List ℕ} → Reads g s w e → Reads g (Close ∷ s) w e

-- the tokens are derived from the symbols
abbrev pub Sentence : Rules → List Symbol → List ℕ → Type 0
Sentence g s w = Reads g s w []

-- the tokens begin what is derived from the symbols
pub record Begins (g : Rules) (s : List Symbol) (w : List ℕ) : Type 0 where
  pub left : List Symbol
  pub steps : Reads g s w left

-- The marks of a stack are its levels.
use Rattle.std.proofs.Common.{◌≡◌, ℕ, suc, ◌-◌, ◌<◌, ◌≤◌, Bool, true, false, List, [], ◌∷◌, length, refl, ap, arith, ltb, ltb-true, ltb-false}
use Rattle.as3_parser.specs.Grammar.{Symbol, Token, Part, Close}
use Rattle.as3_parser.specs.Levels.{level}
use Rattle.as3_parser.specs.Marks.{marks}
use Rattle.as3_parser.specs.Here.{symbols}

pub marks_few : (bs : List ℕ) → marks bs ≤ length bs
marks_few [] = omega arith
marks_few (b ∷ bs) = go (ltb b 255) (marks_few bs) where
  go : (t : Bool) → marks bs ≤ length bs → (elim t as (λ _. ℕ) [ true ↦ marks bs | false ↦ suc (marks bs) ]) ≤ length (b ∷ bs)
  go true h = omega arith
  go false h = omega arith

pub marks_level : (bs : List ℕ) → level (symbols bs) ≡ marks bs
unfolding symbols
marks_level [] = refl
marks_level (b ∷ bs) = go (ltb b 128) (ltb b 255) refl refl (marks_level bs) where
  go : (t u : Bool) → ltb b 128 ≡ t → ltb b 255 ≡ u → level (symbols bs) ≡ marks bs → level ((elim t as (λ _. Symbol) [ true ↦ Token b | false ↦ elim u as (λ _. Symbol) [ true ↦ Part (b - 128) | false ↦ Close ] ]) ∷ symbols bs) ≡ (elim u as (λ _. ℕ) [ true ↦ marks bs | false ↦ suc (marks bs) ])
  go true true p q h = h
  go true false p q h = absurd (let a : b < 128 = ltb-true b 128 p in let z : 255 ≤ b = ltb-false b 255 q in omega arith)
  go false true p q h = h
  go false false p q h = ap (λ y. suc y) h

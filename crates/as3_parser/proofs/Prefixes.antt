-- What begins tokens that begin a sentence begins one too.
use Rattle.std.proofs.Common.{◌≡◌, ℕ, zero, suc, ◌<◌, ◌≤◌, Bool, true, false, List, [], ◌∷◌, length, take, refl, sym, ap, subst, ◌∙◌, arith, ltb, ltb-true, ltb-false}
use Rattle.as3_parser.specs.Grammar.{Symbol, Token, Rules, Reads, rests, reads, takes, passes, Begins}
use Rattle.as3_parser.specs.Exact.{FaultAt}
use Rattle.as3_parser.specs.Predicts.{Dangling}
use Rattle.as3_parser.specs.Levels.{Deep, DeepAt}
use Rattle.as3_parser.specs.Levels as levels
use Rattle.as3_parser.specs.Judged.{Shallow}

module _ (g : Rules) where
  -- the steps that read a first part of tokens
  front : {s e : List Symbol} {w : List ℕ} → Reads g s w e → (k : ℕ) → Begins g s (take k w)
  front (rests {s = s}) zero = record { left = s; steps = rests }
  front (rests {s = s}) (suc k) = record { left = s; steps = rests }
  front (reads {t = t} {s = s} d) zero = record { left = Token t ∷ s; steps = rests }
  front (reads d) (suc k) = let b = front d k in record { left = b.left; steps = reads b.steps }
  front (takes i r is d) k = let b = front d k in record { left = b.left; steps = takes i r is b.steps }
  front (passes d) k = let b = front d k in record { left = b.left; steps = passes b.steps }

  take_none : (w : List ℕ) → take 0 w ≡ []
  take_none [] = refl
  take_none (t ∷ w) = refl

  take_less : (j k : ℕ) (w : List ℕ) → j ≤ k → take j (take k w) ≡ take j w
  take_less zero k w le = take_none (take k w) ∙ sym (take_none w)
  take_less (suc j) zero w le = absurd (omega arith)
  take_less (suc j) (suc k) [] le = refl
  take_less (suc j) (suc k) (t ∷ w) le = ap (λ y. t ∷ y) (take_less j k w (omega arith))

  pub begins_less : {s : List Symbol} (w : List ℕ) (j k : ℕ) → j ≤ k → Begins g s (take k w) → Begins g s (take j w)
  begins_less {s = s} w j k le b = subst (λ y. Begins g s y) (take_less j k w le) (front b.steps j)

  module _ (x : Dangling) (m : ℕ) where
    deep_begins : {s : List Symbol} {w : List ℕ} → Deep g x m s w → Begins g s w
    deep_begins (levels.last {s = s} h) = record { left = s; steps = reads rests }
    deep_begins (levels.reads d) = let b = deep_begins d in record { left = b.left; steps = reads b.steps }
    deep_begins (levels.takes i r is near d) = let b = deep_begins d in record { left = b.left; steps = takes i r is b.steps }
    deep_begins (levels.passes d) = let b = deep_begins d in record { left = b.left; steps = passes b.steps }

    -- a token that opens too many levels stands before a fault of syntax
    pub deep_before : (s : List Symbol) (w : List ℕ) (k d : ℕ) → FaultAt g s w k → DeepAt g x m s w d → d < k
    deep_before s w k d f at = go (ltb d k) refl where
      go : (b : Bool) → ltb d k ≡ b → d < k
      go true e = ltb-true d k e
      go false e =
          let le : k ≤ d = ltb-false d k e in
          let inside : d < length w = at.within in
          absurd (f.bad (omega (arith, le, inside)) (begins_less w (suc k) (suc d) (omega (arith, le)) (deep_begins at.opens)))

    pub not_deep_behind : (s : List Symbol) (w : List ℕ) (k d : ℕ) → FaultAt g s w k → Shallow g x m s w k → DeepAt g x m s w d → ⊥
    not_deep_behind s w k d f h at = h d (deep_before s w k d f at) at.opens

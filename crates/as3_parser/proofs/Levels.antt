-- The steps of the loop keep the levels.
use Rattle.std.proofs.Common.{◌≡◌, ℕ, suc, ◌≤◌, List, [], ◌∷◌, ◌++◌, Option, Some, refl, ap, subst, inl, inr}
use Rattle.as3_parser.specs.Grammar.{Symbol, Token, Part, Close, Rules, Begins}
use Rattle.as3_parser.specs.Grammar as grammar
use Rattle.as3_parser.specs.Predicts.{next, Sets, Dangling, Predicts}
use Rattle.as3_parser.specs.Stands.{Fits}
use Rattle.as3_parser.specs.Levels.{level, Nearest, Deep, last, reads, takes, passes}
use Rattle.as3_parser.proofs.Predict.{can_begin, can_more, can_append}

module _ (g : Rules) (start : ℕ) (pick : ℕ → ℕ → Option ℕ) (c : Sets) (x : Dangling) (p : Predicts g start pick c x) (m : ℕ) where
  pub deep_begins : {s : List Symbol} {w : List ℕ} → Deep g x m s w → Begins g s w
  deep_begins (last {s = s} h) = record { left = s; steps = grammar.reads grammar.rests }
  deep_begins (reads d) = let b = deep_begins d in record { left = b.left; steps = grammar.reads b.steps }
  deep_begins (takes i r is near d) = let b = deep_begins d in record { left = b.left; steps = grammar.takes i r is b.steps }
  deep_begins (passes d) = let b = deep_begins d in record { left = b.left; steps = grammar.passes b.steps }

  pub deep_some : {s : List Symbol} {w : List ℕ} → Deep g x m s w → (B : Type 0) → w ≡ [] → B
  deep_some (last h) B e = absurd (cc)
  deep_some (reads d) B e = absurd (cc)
  deep_some (takes i r is near d) B e = deep_some d B e
  deep_some (passes d) B e = deep_some d B e

  -- the right side that is picked, and no other
  pub deep_use : {w : List ℕ} (n : ℕ) (s : List Symbol) (j : ℕ) (r : List Symbol) → Fits c (Part n ∷ s) → pick n (next w) ≡ Some j → g n j ≡ Some r → Deep g x m (Part n ∷ s) w → Deep g x m (r ++ s) w
  deep_use {w = w} n s j r fits at rule (takes i r1 rule1 near d) =
      let b = deep_begins d in
      elim (p.chosen n i r1 rule1 (next w) (can_more c r1 (next w) _ _ (λ q. fits.0 (next w) q) (can_append c r1 s (next w) (next w ≡ 0) (can_begin g start pick c x p b.steps (deep_some d (b.left ≡ [])))))) [
        | inl q ↦
            let same : i ≡ j = cc in
            let rule2 : g n j ≡ Some r1 = subst (λ y. g n y ≡ Some r1) same rule1 in
            let it : r1 ≡ r = cc in
            subst (λ y. Deep g x m (y ++ s) w) it d
        | inr q ↦ absurd (near q.0 q.2 q.1)
      ]

  pub full_near : (n j : ℕ) (r : List Symbol) (l : ℕ) → pick n l ≡ Some j → g n j ≡ Some r → Nearest x n r l
  full_near n j r l at rule same none is =
      let full : g x.part x.full ≡ Some (Token x.token ∷ x.rest) = p.full_is in
      let picks : pick x.part (suc x.token) ≡ Some x.full = p.full_picked in
      let part : pick n l ≡ pick x.part (suc x.token) = subst (λ y. pick n l ≡ pick y (suc x.token)) same (ap (λ y. pick n y) is) in
      let number : j ≡ x.full = cc in
      let it : g n j ≡ g x.part x.full = subst (λ y. g n j ≡ g y x.full) same (ap (λ y. g n y) number) in
      absurd (cc)

  pub deep_back : {w : List ℕ} (n : ℕ) (s : List Symbol) (j : ℕ) (r : List Symbol) → pick n (next w) ≡ Some j → g n j ≡ Some r → Deep g x m (r ++ s) w → Deep g x m (Part n ∷ s) w
  deep_back {w = w} n s j r at rule d = takes j r rule (full_near n j r (next w) at rule) d

  pub deep_act : {w : List ℕ} (s : List Symbol) → Deep g x m (Close ∷ s) w → Deep g x m s w
  deep_act s (passes d) = d

  pub deep_last : (t : ℕ) (s : List Symbol) → Deep g x m (Token t ∷ s) (t ∷ []) → m ≤ level s
  deep_last t s d = go d refl refl where
    go : {z : List Symbol} {w : List ℕ} → Deep g x m z w → z ≡ Token t ∷ s → w ≡ t ∷ [] → m ≤ level s
    go (last {s = s0} h) a b = let e : s0 ≡ s = cc in subst (λ y. m ≤ level y) e h
    go (reads d) a b = absurd (cc)
    go (takes i r is near d) a b = absurd (cc)
    go (passes d) a b = absurd (cc)

  pub deep_read : (t u : ℕ) (s : List Symbol) (v : List ℕ) → Deep g x m (Token t ∷ s) (t ∷ u ∷ v) → Deep g x m s (u ∷ v)
  deep_read t u s v d = go d refl refl where
    go : {z : List Symbol} {w : List ℕ} → Deep g x m z w → z ≡ Token t ∷ s → w ≡ t ∷ u ∷ v → Deep g x m s (u ∷ v)
    go (last h) a b = absurd (cc)
    go (reads {u = y} {s = s0} {w = w} d) a b = let e : s0 ≡ s = cc in let f : y ∷ w ≡ u ∷ v = cc in subst (λ q. Deep g x m s q) f (subst (λ q. Deep g x m q (y ∷ w)) e d)
    go (takes i r is near d) a b = absurd (cc)
    go (passes d) a b = absurd (cc)

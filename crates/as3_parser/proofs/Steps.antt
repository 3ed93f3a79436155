-- Laws of leftmost steps, for any grammar.
use Rattle.std.proofs.Common.{◌∙◌, ◌≡◌, ℕ, List, [], ◌∷◌, ◌++◌, sym, ap, subst, append_assoc}
use Rattle.as3_parser.specs.Grammar.{Symbol, Token, Part, Close, Rules, Reads, rests, reads, takes, passes}

-- what is left of a list with a tail, where another tail stands in its place
pub record Goes (g : Rules) (s : List Symbol) (w : List ℕ) (e : List Symbol) : Type 0 where
  pub left : List Symbol
  pub steps : Reads g s w left
  pub ends : e ≡ [] → left ≡ []

module _ (g : Rules) where
  -- silent steps, and then others
  pub silent_then : {s e : List Symbol} → Reads g s [] e → (w : List ℕ) (z : List Symbol) → Reads g e w z → Reads g s w z
  silent_then rests w z h = h
  silent_then (passes d) w z h = passes (silent_then d w z h)
  silent_then (takes i r is d) w z h = takes i r is (silent_then d w z h)

  cons_not_nil : (y : Symbol) (a : List Symbol) → y ∷ a ≡ [] → ⊥
  cons_not_nil y a h = cc

  -- where silent steps lead from s to b, what reads after b also reads after s
  pub swapped : {z e : List Symbol} {w : List ℕ} → Reads g z w e → (a s b : List Symbol) → z ≡ a ++ b → Reads g s [] b → Goes g (a ++ s) w e
  swapped {e = e} {w = w} d [] s b is silent = record { left = e; steps = silent_then silent w e (subst (λ x. Reads g x w e) is d); ends = λ h. h }
  swapped rests (y ∷ a) s b is silent = record { left = (y ∷ a) ++ s; steps = rests; ends = λ h. absurd (cons_not_nil y (a ++ b) (sym is ∙ h)) }
  swapped (reads {t = t} {w = w} d) (Token u ∷ a) s b is silent =
      let same : t ≡ u = cc in
      let tails : _ ≡ a ++ b = cc in
      let r = swapped d a s b tails silent in
      record { left = r.left; steps = subst (λ x. Reads g (Token x ∷ (a ++ s)) (t ∷ w) r.left) same (reads r.steps); ends = r.ends }
  swapped (reads {t = t} d) (Part m ∷ a) s b is silent = absurd (cc)
  swapped (reads {t = t} d) (Close ∷ a) s b is silent = absurd (cc)
  swapped (passes d) (Token u ∷ a) s b is silent = absurd (cc)
  swapped (passes d) (Part u ∷ a) s b is silent = absurd (cc)
  swapped (passes {s = s0} {w = w} d) (Close ∷ a) s b is silent =
      let tails : s0 ≡ a ++ b = cc in
      let q = swapped d a s b tails silent in
      record { left = q.left; steps = passes q.steps; ends = q.ends }
  swapped (takes i r rule d) (Close ∷ a) s b is silent = absurd (cc)
  swapped (takes i r rule d) (Token u ∷ a) s b is silent = absurd (cc)
  swapped (takes {n = n} {s = s0} {w = w} i r rule d) (Part m ∷ a) s b is silent =
      let same : n ≡ m = cc in
      let tails : s0 ≡ a ++ b = cc in
      let q = swapped d (r ++ a) s b (ap (λ x. r ++ x) tails ∙ sym (append_assoc r a b)) silent in
      record { left = q.left; steps = subst (λ x. Reads g (Part x ∷ (a ++ s)) w q.left) same (takes i r rule (subst (λ x. Reads g x w q.left) (append_assoc r a s) q.steps)); ends = q.ends }

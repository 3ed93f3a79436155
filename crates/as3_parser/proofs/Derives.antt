-- A sentence has one derivation.
use Rattle.std.proofs.Common.{◌≡◌, ℕ, List, [], ◌∷◌, ◌++◌, Option, Some, refl, sym, ap, subst, inl, inr, ◌∙◌}
use Rattle.as3_parser.specs.Grammar.{Symbol, Part, Rules, Reads}
use Rattle.as3_parser.specs.Grammar as grammar
use Rattle.as3_parser.specs.Predicts.{next, Sets, Dangling, Predicts}
use Rattle.as3_parser.specs.Stands.{Fits}
use Rattle.as3_parser.specs.Levels.{Nearest}
use Rattle.as3_parser.specs.Derives.{Derives, done, reads, takes, passes}
use Rattle.as3_parser.proofs.Predict.{can_begin, can_more, can_append, fits_on}

module _ (g : Rules) (start : ℕ) (pick : ℕ → ℕ → Option ℕ) (c : Sets) (x : Dangling) (p : Predicts g start pick c x) where
  pub derives_reads : {s : List Symbol} {w cs : List ℕ} → Derives g x s w cs → Reads g s w []
  derives_reads done = grammar.rests
  derives_reads (reads d) = grammar.reads (derives_reads d)
  derives_reads (takes i r is near d) = grammar.takes i r is (derives_reads d)
  derives_reads (passes d) = grammar.passes (derives_reads d)

  -- a side that is taken is the one that is picked
  pub taken : {w cs : List ℕ} (n : ℕ) (s : List Symbol) (i : ℕ) (r : List Symbol) → Fits c (Part n ∷ s) → g n i ≡ Some r → Nearest x n r (next w) → Derives g x (r ++ s) w cs → pick n (next w) ≡ Some i
  taken {w = w} n s i r fits rule near d =
      elim (p.chosen n i r rule (next w) (can_more c r (next w) _ _ (λ q. fits.0 (next w) q) (can_append c r s (next w) (next w ≡ 0) (can_begin g start pick c x p (derives_reads d) (λ q. refl)))))
      [ inl q ↦ q | inr q ↦ absurd (near q.0 q.2 q.1) ]

  pub only : {s : List Symbol} {w cs : List ℕ} → Derives g x s w cs → Fits c s → {z : List Symbol} {v ds : List ℕ} → Derives g x z v ds → z ≡ s → v ≡ w → cs ≡ ds
  only done f done a b = refl
  only done f (reads e) a b = absurd (cc)
  only done f (takes i r is near e) a b = absurd (cc)
  only done f (passes e) a b = absurd (cc)
  only (reads d) f done a b = absurd (cc)
  only (reads d) f (reads e) a b = only d f e (cc) (cc)
  only (reads d) f (takes i r is near e) a b = absurd (cc)
  only (reads d) f (passes e) a b = absurd (cc)
  only (passes d) f done a b = absurd (cc)
  only (passes d) f (reads e) a b = absurd (cc)
  only (passes d) f (takes i r is near e) a b = absurd (cc)
  only (passes d) f (passes e) a b = only d f e (cc) b
  only (takes i r is near d) f done a b = absurd (cc)
  only (takes i r is near d) f (reads e) a b = absurd (cc)
  only (takes i r is near d) f (passes e) a b = absurd (cc)
  only (takes {n = n} {s = s} {w = w} {cs = cs} i r is near d) f (takes {n = m} {s = z} {w = v} {cs = ds} j q it far e) a b =
      let part : m ≡ n = cc in
      let tail : z ≡ s = cc in
      let one = taken n s i r f is near d in
      let e1 : Derives g x (q ++ s) v ds = subst (λ y. Derives g x (q ++ y) v ds) tail e in
      let e2 : Derives g x (q ++ s) w ds = subst (λ y. Derives g x (q ++ s) y ds) b e1 in
      let it1 : g n j ≡ Some q = subst (λ y. g y j ≡ Some q) part it in
      let far1 : Nearest x n q (next w) = subst (λ y. Nearest x n q (next y)) b (subst (λ y. Nearest x y q (next v)) part far) in
      let two = taken n s j q f it1 far1 e2 in
      let same : i ≡ j = cc in
      let it2 : g n i ≡ Some q = subst (λ y. g n y ≡ Some q) (sym same) it1 in
      let sides : q ≡ r = cc in
      let rest = only d (fits_on g start pick c x p (c.Follow n) r s f.0 (p.follow n i r is) f.1) e2 (ap (λ y. y ++ s) sides) refl in
      ap (λ y. i ∷ y) rest ∙ ap (λ y. y ∷ ds) same

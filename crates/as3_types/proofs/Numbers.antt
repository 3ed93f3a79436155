-- The number of the first class that passes a test.
use Rattle.std.proofs.Common.{◌≡◌, ◌∙◌, ℕ, suc, List, ◌∷◌, ap, sym, Bool, true, false}
use Rattle.std.specs.Prelude.{Some, if◌then◌else◌}
use Rattle.source_sites.specs.Names.{number_of}

module _ {A : Type 0} (test : A → Bool) (n : ℕ) where
  pub numbered_here : (all rest others : List A) (x : A) → number_of test 0 all ≡ number_of test n rest → rest ≡ x ∷ others → test x ≡ true → Some n ≡ number_of test 0 all
  numbered_here all rest others x i e t = sym (i ∙ (ap (number_of test n) e ∙ ap (λ b. if b then Some n else number_of test (suc n) others) t))

  pub numbered_behind : (all rest others : List A) (x : A) → number_of test 0 all ≡ number_of test n rest → rest ≡ x ∷ others → test x ≡ false → number_of test 0 all ≡ number_of test (suc n) others
  numbered_behind all rest others x i e t = i ∙ (ap (number_of test n) e ∙ ap (λ b. if b then Some n else number_of test (suc n) others) t)

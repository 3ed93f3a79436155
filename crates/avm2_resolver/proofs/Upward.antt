-- The walk from a class to what stands behind it.
use Rattle.std.proofs.Common.{◌≡◌, ℕ, zero, suc, ◌-◌, ◌+◌, ◌<◌, List, Option, Some, None, slice_get, refl, ap, ◌∙◌, arith, option_and_then}
use Rattle.flex_world.specs.declared.kind.Class.TheVariants as Class
use Rattle.flex_world.specs.declared.kind.StaticType.{StaticType}
use Rattle.avm2_program.specs.Resolving.{behind_by}
use Rattle.avm2_resolver.specs.Behind.{file_class}

module _ (bases : List (Option StaticType)) where
  pub at_rest : (n : ℕ) (found : Option StaticType) → 0 < n → file_class found ≡ None → behind_by bases n found ≡ found
  at_rest zero found lt e = absurd (omega arith)
  at_rest (suc n) None lt e = refl
  at_rest (suc n) (Some (StaticType.Object (Class.File k))) lt e = absurd cc
  at_rest (suc n) (Some (StaticType.Object (Class.Native class))) lt e = refl
  at_rest (suc n) (Some StaticType.Int) lt e = refl
  at_rest (suc n) (Some StaticType.Boolean) lt e = refl
  at_rest (suc n) (Some StaticType.String) lt e = refl
  at_rest (suc n) (Some StaticType.Array) lt e = refl
  at_rest (suc n) (Some StaticType.Any) lt e = refl
  at_rest (suc n) (Some StaticType.Unnamed) lt e = refl

  some_same : (k l : ℕ) → (let s : Option ℕ = Some k in s) ≡ Some l → k ≡ l
  some_same k l e = cc

  one_up : (n : ℕ) (found : Option StaticType) (k : ℕ) → file_class found ≡ Some k → behind_by bases (suc n) found ≡ behind_by bases n (option_and_then (λ base. base) (slice_get bases k))
  one_up n None k e = absurd cc
  one_up n (Some (StaticType.Object (Class.File l))) k e = ap (λ m. behind_by bases n (option_and_then (λ base. base) (slice_get bases m))) (some_same l k e)
  one_up n (Some (StaticType.Object (Class.Native class))) k e = absurd cc
  one_up n (Some StaticType.Int) k e = absurd cc
  one_up n (Some StaticType.Boolean) k e = absurd cc
  one_up n (Some StaticType.String) k e = absurd cc
  one_up n (Some StaticType.Array) k e = absurd cc
  one_up n (Some StaticType.Any) k e = absurd cc
  one_up n (Some StaticType.Unnamed) k e = absurd cc

  pub next_up : (total counter : ℕ) (found : Option StaticType) (k : ℕ) → counter < total → file_class found ≡ Some k
      → behind_by bases (total - counter) found ≡ behind_by bases (total - (counter + 1)) (option_and_then (λ base. base) (slice_get bases k))
  next_up total counter found k lt e =
      let less : total - counter ≡ suc (total - (counter + 1)) = omega arith in
      ap (λ n. behind_by bases n found) less ∙ one_up (total - (counter + 1)) found k e

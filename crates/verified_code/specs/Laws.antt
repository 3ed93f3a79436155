-- Laws of paths and of reasons.
use Rattle.std.specs.Prelude.{◌≡◌, ℕ}
use Rattle.abc_format.specs.declared.records.Abc.{Abc}
use Rattle.avm2_code.specs.declared.reason.CodeReason.{CodeReason}
use Rattle.verified_code.specs.Verified.{IsVerified, IsFirstReason}

-- records have one first reason at most, and none where their code is verified
pub record HasOneFirstReason : Type 0 where
  pub one : (a : Abc) (number place other at : ℕ) (r s : CodeReason) → IsFirstReason a number place r → IsFirstReason a other at s → (number ≡ other) × (place ≡ at) × (r ≡ s)
  pub none : (a : Abc) (number place : ℕ) (r : CodeReason) → IsVerified a → IsFirstReason a number place r → ⊥

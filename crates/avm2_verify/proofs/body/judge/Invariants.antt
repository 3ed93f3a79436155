use Rattle.std.proofs.Common.{ℕ, ◌<◌}
use Rattle.avm2_code.specs.declared.reason.CodeReason.{CodeReason}
use Rattle.verified_code.specs.Verified.{HasReason}
use Rattle.avm2_verify.proofs.body.judge.Given as goal

abbrev pub invariant-loop-place : goal.invariant-loop-place
invariant-loop-place l = (p : ℕ) → p < l.place → (r : CodeReason) → HasReason l.abc l.body r p → ⊥

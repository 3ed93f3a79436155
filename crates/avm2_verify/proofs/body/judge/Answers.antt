use Rattle.std.proofs.Common.{◌<◌, ℕ, arith, below_more}
use Rattle.avm2_code.specs.declared.reason.CodeReason.{CodeReason}
use Rattle.verified_code.specs.Verified.{HasReason}
use Rattle.avm2_verify.proofs.ReasonLaws.{first_of_all, reason_inside}
use Rattle.avm2_verify.proofs.body.judge.Goals as goal

pub returns-in-Some : goal.returns-in-Some
returns-in-Some c = first_of_all c.args.abc.now c.args.body.now c.loop-place.place c.in-Some.reason c.in-Some.ensures c.loop-place.invariant

pub loop-place-preserved : goal.loop-place-preserved
loop-place-preserved c = below_more (λ (p : ℕ). (r : CodeReason) → HasReason c.args.abc.now c.args.body.now r p → ⊥) c.loop-place.place c.loop-place.invariant c.in_default.ensures

pub returns : goal.returns
returns c = (
  λ r p h.
      let lt = (reason_inside c.args.abc.now c.args.body.now r p c.requires.some h).inside in
      let l : p < c.loop-place.place = omega (arith, lt, c.requires.marks.long) in
      c.loop-place.invariant p l r h,
  c.requires.depths,
)

use Rattle.std.proofs.Common.{refl}
use Rattle.avm2_verify.proofs.ReasonLaws.{empty_with_locals, empty_falls_off, not_so}
use Rattle.avm2_verify.proofs.body.reason_of_empty.Goals as goal

pub returns-then-has_wrong_locals : goal.returns-then-has_wrong_locals
returns-then-has_wrong_locals c =
    empty_with_locals c.args.abc.now c.args.body.now c.requires (λ h. not_so c.is_excepted.result _ c.is_excepted.ensures c.if-is_excepted.false (refl, h)) (not_so c.has_wrong_limits.result _ c.has_wrong_limits.ensures c.if-has_wrong_limits.false)
    (c.has_wrong_locals.ensures.0 c.if-has_wrong_locals.true)

pub returns-else-has_wrong_locals : goal.returns-else-has_wrong_locals
returns-else-has_wrong_locals c =
    empty_falls_off c.args.abc.now c.args.body.now c.requires (λ h. not_so c.is_excepted.result _ c.is_excepted.ensures c.if-is_excepted.false (refl, h)) (not_so c.has_wrong_limits.result _ c.has_wrong_limits.ensures c.if-has_wrong_limits.false)
    (not_so c.has_wrong_locals.result _ c.has_wrong_locals.ensures c.if-has_wrong_locals.false)

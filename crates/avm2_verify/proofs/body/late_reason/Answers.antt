use Rattle.std.proofs.Common.{◌<◌, length, inr, arith}
use Rattle.avm2_verify.proofs.ReasonLaws.{depths_fine, locals_fine, nothing_left, never_differ, not_so}
use Rattle.avm2_verify.proofs.body.late_reason.Goals as goal

pub returns-then-has_locals_at : goal.returns-then-has_locals_at
returns-then-has_locals_at c =
    let a = c.args.abc.now in
    let b = c.args.body.now in (
      c.has_locals_at.ensures.0 c.if-has_locals_at.true,
      depths_fine a b c.args.place (not_so c.has_limits_at.result _ c.has_limits_at.ensures c.if-has_limits_at.false) (never_differ a b c.args.table.now c.requires.depths) c.in-Leaving.ensures.0 c.requires.before,
    )

pub returns-else-has_locals_at : goal.returns-else-has_locals_at
returns-else-has_locals_at c =
    let a = c.args.abc.now in
    let b = c.args.body.now in (
      inr c.in-Leaving.ensures.1,
      locals_fine a b c.args.place (not_so c.has_locals_at.result _ c.has_locals_at.ensures c.if-has_locals_at.false)
          (depths_fine a b c.args.place (not_so c.has_limits_at.result _ c.has_limits_at.ensures c.if-has_limits_at.false) (never_differ a b c.args.table.now c.requires.depths) c.in-Leaving.ensures.0 c.requires.before),
    )

pub returns-then-has_locals_at-2 : goal.returns-then-has_locals_at-2
returns-then-has_locals_at-2 c =
    let a = c.args.abc.now in
    let b = c.args.body.now in (
      c.has_locals_at-in-Fine.ensures.0 c.if-has_locals_at-2.true,
      depths_fine a b c.args.place (not_so c.has_limits_at.result _ c.has_limits_at.ensures c.if-has_limits_at.false) (never_differ a b c.args.table.now c.requires.depths) c.in-Fine.ensures.0 c.requires.before,
    )

pub returns-else-has_locals_at-2 : goal.returns-else-has_locals_at-2
returns-else-has_locals_at-2 c =
    let a = c.args.abc.now in
    let b = c.args.body.now in
    let inside = c.requires.stands.inside in
    let some : 0 < length b.code = omega arith in
    nothing_left a b c.args.place some c.in-Fine.ensures.1
    (locals_fine a b c.args.place (not_so c.has_locals_at-in-Fine.result _ c.has_locals_at-in-Fine.ensures c.if-has_locals_at-2.false)
    (depths_fine a b c.args.place (not_so c.has_limits_at.result _ c.has_limits_at.ensures c.if-has_limits_at.false) (never_differ a b c.args.table.now c.requires.depths) c.in-Fine.ensures.0 c.requires.before))

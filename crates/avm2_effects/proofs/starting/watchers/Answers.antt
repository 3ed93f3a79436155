use Rattle.std.proofs.Common.{◌-◌, ◌∙◌, arith}
use Rattle.avm2_effects.proofs.Behind.{is_there, next_made}
use Rattle.avm2_effects.proofs.starting.watchers.Goals as goal
use Rattle.avm2_meaning.specs.Properties.{watcher_of}

pub loop-left-preserved-in-Continue-1 : goal.loop-left-preserved-in-Continue-1
loop-left-preserved-in-Continue-1 c = (
  c.in_ok-push.ensures
      ∙ next_made watcher_of c.args.pairs.now c.loop-left.left (c.loop-left.left - 1) c.in-Some.field-0.now c.loop-left.watchers
      (omega (arith, c.loop-left-test.true)) c.loop-left.invariant.0 c.in-Some.ensures.value,
  omega (arith, c.loop-left.invariant.1),
)

pub loop-left-preserved : goal.loop-left-preserved
loop-left-preserved c =
    absurd
    (is_there c.args.pairs.now (c.loop-left.left - 1) (omega (arith, c.loop-left-test.true, c.loop-left.invariant.1)) c.in_default.ensures.value)

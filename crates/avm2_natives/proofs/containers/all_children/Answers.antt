use Rattle.std.proofs.Common.{◌-◌, ◌∙◌, arith}
use Rattle.avm2_natives.proofs.Counted.{is_there, next_put}
use Rattle.avm2_natives.proofs.containers.all_children.Goals as goal

pub loop-left-preserved-in-Continue-1 : goal.loop-left-preserved-in-Continue-1
loop-left-preserved-in-Continue-1 c = (
  c.in_ok-push.ensures
      ∙ next_put c.args.children.now c.loop-left.left (c.loop-left.left - 1) c.in-Some.child c.loop-left.stack
      (omega (arith, c.loop-left-test.true)) c.loop-left.invariant.0 c.in-Some.ensures,
  omega (arith, c.loop-left.invariant.1),
)

pub loop-left-preserved : goal.loop-left-preserved
loop-left-preserved c =
    absurd
    (is_there c.args.children.now (c.loop-left.left - 1) (omega (arith, c.loop-left-test.true, c.loop-left.invariant.1)) c.in_default.ensures)

use Rattle.std.proofs.Common.{length, arith}
use Rattle.avm2_machine.specs.Stage.{parent}
use Rattle.avm2_machine.proofs.Outward.{outward_pushed}
use Rattle.avm2_machine.proofs.stage.Stage.outer.Goals as goal

pub loop-preserved : goal.loop-preserved
loop-preserved c =
    let s = c.args.self.now in
    outward_pushed (parent s) (length s.objects) c.loop.counter c.loop.ancestors _ _ c.loop.next c.in-Some.parent _
    (omega (arith, c.len-end.ensures)) c.in-Some.is c.parent-next-in-loop.ensures c.in_ok-push.ensures.ok c.loop.invariant

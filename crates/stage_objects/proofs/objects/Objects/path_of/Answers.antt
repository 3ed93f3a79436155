use Rattle.std.proofs.Common.{length, arith, ◌∙◌}
use Rattle.stage_objects.proofs.Outward.{outward_pushed}
use Rattle.stage_objects.specs.Entities.{objects_in}
use Rattle.stage_objects.proofs.Places.{parents, same_parent}
use Rattle.stage_objects.proofs.objects.Objects.path_of.Goals as goal

pub loop-preserved : goal.loop-preserved
loop-preserved c =
    let s = c.args.self.now in
    outward_pushed (parents s) (length (objects_in s)) c.loop.counter c.loop.path _ _ c.loop.next c.in-Some.parent _
    (omega (arith, c.count-end.ensures)) c.in-Some.is (c.parent_of-next-in-loop.ensures ∙ same_parent s c.in-Some.parent) c.in_ok-push-2.ensures.ok c.loop.invariant

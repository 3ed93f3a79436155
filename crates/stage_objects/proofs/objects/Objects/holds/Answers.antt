use Rattle.std.proofs.Common.{◌≡◌, ◌∙◌, false, length, arith, rules, tests}
use Rattle.flex_base.specs.Value.{is_object}
use Rattle.stage_objects.proofs.Outward.{outward_passed}
use Rattle.stage_objects.specs.Entities.{objects_in}
use Rattle.stage_objects.proofs.Places.{parents, same_parent}
use Rattle.stage_objects.proofs.objects.Objects.holds.Goals as goal

pub loop-preserved : goal.loop-preserved
loop-preserved c =
    let s = c.args.self.now in
    let other : is_object c.args.holder c.in-Some.parent ≡ false = search (tests, rules) in
    outward_passed (is_object c.args.holder) (parents s) (length (objects_in s)) c.loop.counter _ c.loop.next c.in-Some.parent _
    (omega (arith, c.count-end.ensures)) c.in-Some.is (c.parent_of-next-in-loop.ensures ∙ same_parent s c.in-Some.parent) other c.loop.invariant

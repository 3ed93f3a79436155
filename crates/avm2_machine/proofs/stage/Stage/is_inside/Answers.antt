use Rattle.std.proofs.Common.{◌≡◌, false, length, arith, rules, tests}
use Rattle.flex_base.specs.Value.{is_object}
use Rattle.avm2_machine.specs.Stage.{parent}
use Rattle.avm2_machine.proofs.Outward.{outward_passed}
use Rattle.avm2_machine.proofs.stage.Stage.is_inside.Goals as goal

pub loop-preserved : goal.loop-preserved
loop-preserved c =
    let s = c.args.self.now in
    let other : is_object c.args.ancestor c.in-Some.parent ≡ false = search (tests, rules) in
    outward_passed (is_object c.args.ancestor) (parent s) (length s.objects) c.loop.counter _ c.loop.next c.in-Some.parent _
    (omega (arith, c.len-end.ensures)) c.in-Some.is c.parent-next-in-loop.ensures other c.loop.invariant

use Rattle.std.proofs.Common.{arith, ◌≡◌, ◌-◌, ◌≤◌, length, take, drop, length-drop}
use Rattle.std.proofs.lemmas.List.{take_all}
use Rattle.swf_tags.proofs.StepLaws.{step-leads}
use Rattle.swf_tags.proofs.stage.feed_stage.Goals as goal

pub loop-rest-preserved : goal.loop-rest-preserved
loop-rest-preserved c =
    let step = c.in_ok-next.ensures in
    let count = c.in_ok-next.count in
    let rest = c.loop-rest.rest.now in
    let size : length (drop count rest) ≤ length rest - count = simp length-drop (omega arith) in
    let next : take (length rest - count) (drop count rest) ≡ drop count rest = take_all (length rest - count) (drop count rest) size in
    record { leads = step-leads c.args.end count _ c.loop-rest.stage c.in_ok-next.next rest _ c.loop-rest.invariant.leads step next; fine = step.fine }

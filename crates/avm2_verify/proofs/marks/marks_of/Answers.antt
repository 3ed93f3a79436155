use Rattle.std.proofs.Common.{sym}
use Rattle.avm2_verify.proofs.MarkLaws.{marked_on, marked_all, marked_last}
use Rattle.avm2_verify.proofs.marks.marks_of.Goals as goal

pub loop-place-preserved : goal.loop-place-preserved
loop-place-preserved c = marked_on c.args.code.now c.loop-place.place c.loop-place.marks.items c.loop-place.invariant _ c.in-Ok.next (sym c.in-Ok.ensures.read)

pub returns-in-Err : goal.returns-in-Err
returns-in-Err c = marked_last c.args.code.now c.loop-place.place c.loop-place.marks.items c.loop-place.invariant _ c.loop-place-test.true (sym c.in-Err.ensures.read)

pub returns : goal.returns
returns c = marked_all c.args.code.now c.loop-place.place c.loop-place.marks.items c.loop-place.invariant c.loop-place-test.false

use Rattle.std.proofs.Common.{arith, length, min}
use Rattle.std.proofs.lemmas.Grind.{common_steps}
use Rattle.flex_edge.proofs.Whole.{writing_begins, writing_goes_on}
use Rattle.flex_edge.proofs.output.write_file.Goals as goal

pub loop-left-init : goal.loop-left-init
loop-left-init g c = writing_begins c.args.name.now c.args.bytes.now _ _ c.in_ok-create.ensures

pub loop-left-preserved : goal.loop-left-preserved
loop-left-preserved g c =
    writing_goes_on c.args.name.now c.args.bytes.now c.loop-left.left.now c.first_piece.result.now _ (min (length c.loop-left.left.now) 4096) c.in_ok-count.count _ _ _
    c.loop-left.invariant c.in_ok-count.ensures c.first_piece.ensures (grind (arith, common_steps)) (omega arith)

use Rattle.std.proofs.Common.{arith, length, min}
use Rattle.std.proofs.lemmas.Grind.{common_steps}
use Rattle.flex_edge.proofs.Whole.{printing_goes_on}
use Rattle.flex_edge.proofs.output.print.Goals as goal

pub loop-left-preserved : goal.loop-left-preserved
loop-left-preserved g c =
    printing_goes_on c.args.bytes.now c.loop-left.left.now c.first_piece.result.now _ (min (length c.loop-left.left.now) 4096) c.in_ok-count.count _ _ _
    c.loop-left.invariant c.in_ok-count.ensures c.first_piece.ensures (grind (arith, common_steps)) (omega arith)

use Rattle.std.proofs.Common.{length}
use Rattle.flex_edge.proofs.Whole.{IsPrinting}
use Rattle.flex_edge.proofs.output.print.Given as goal

abbrev pub invariant-loop-left : goal.invariant-loop-left
invariant-loop-left g l = IsPrinting l.bytes l.left (g.O.Sink.state l.fn.out) (g.O.Sink.state l.out)

abbrev pub decreases-loop-left : goal.decreases-loop-left
decreases-loop-left g l = length l.left

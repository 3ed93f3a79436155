use Rattle.std.proofs.Common.{length}
use Rattle.flex_edge.proofs.Whole.{IsWriting}
use Rattle.flex_edge.proofs.output.write_file.Given as goal

abbrev pub invariant-loop-left : goal.invariant-loop-left
invariant-loop-left g l = IsWriting l.name l.bytes l.left (g.F.Files.state l.fn.files) (g.F.Files.state l.files)

abbrev pub decreases-loop-left : goal.decreases-loop-left
decreases-loop-left g l = length l.left

use Rattle.std.proofs.Common.{length}
use Rattle.mxml_tree.proofs.Meanings.{SoFar}
use Rattle.mxml_tree.proofs.values.meaning.Given as goal

abbrev pub invariant-loop-plain : goal.invariant-loop-plain
invariant-loop-plain l = SoFar l.spaces l.written l.bytes l.rest

abbrev pub decreases-loop-plain : goal.decreases-loop-plain
decreases-loop-plain l = length l.rest

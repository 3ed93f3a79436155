use Rattle.std.proofs.Common.{◌≡◌, ◌++◌, length}
use Rattle.named_sources.specs.Named.{bases_read}
use Rattle.named_sources.proofs.bases.bases_by_content.Given as goal

abbrev pub invariant-loop-file : goal.invariant-loop-file
invariant-loop-file l = l.bases ++ bases_read l.fn.classes l.named l.rest ≡ bases_read l.fn.classes l.fn.classes l.fn.files

abbrev pub decreases-loop-file : goal.decreases-loop-file
decreases-loop-file l = length l.rest

use Rattle.std.proofs.Common.{◌≡◌, length}
use Rattle.source_sites.specs.Functions.{access_of}
use Rattle.as3_types.proofs.words.access_of.Given as goal

abbrev pub invariant-loop-word : goal.invariant-loop-word
invariant-loop-word l = access_of l.fn.modifiers ≡ access_of l.rest

abbrev pub decreases-loop-word : goal.decreases-loop-word
decreases-loop-word l = length l.rest

use Rattle.std.proofs.Common.{◌≡◌, length}
use Rattle.class_sites.specs.MemberSites.{has_repeated}
use Rattle.as3_types.proofs.words.has_repeated.Given as goal

abbrev pub invariant-loop-word : goal.invariant-loop-word
invariant-loop-word l = has_repeated l.fn.modifiers ≡ has_repeated l.rest

abbrev pub decreases-loop-word : goal.decreases-loop-word
decreases-loop-word l = length l.rest

use Rattle.std.specs.Prelude.{Contains}
use Rattle.avm2_verify.specs.Followed.{IsFollowed}
use Rattle.avm2_verify.specs.Known.{unfinished}
use Rattle.avm2_verify.proofs.follow.follow.Given as goal

abbrev pub invariant-loop-place : goal.invariant-loop-place
invariant-loop-place l = IsFollowed l.abc l.body (Contains l.walk.work) l.walk

abbrev pub decreases-loop-place : goal.decreases-loop-place
decreases-loop-place l = unfinished l.walk

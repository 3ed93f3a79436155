use Rattle.std.proofs.Common.{◌≡◌, ◌++◌, map, length}
use Rattle.as3_types.specs.Tables.{owned_of}
use Rattle.class_table.specs.Columns.{members_owned}
use Rattle.class_table.proofs.members.members_of.Given as goal

abbrev pub invariant-loop-member : goal.invariant-loop-member
invariant-loop-member l = map owned_of l.owned ++ members_owned l.fn.code l.rest ≡ members_owned l.fn.code l.fn.members

abbrev pub decreases-loop-member : goal.decreases-loop-member
decreases-loop-member l = length l.rest

use Rattle.std.proofs.Common.{◌≡◌, ◌++◌, length, map}
use Rattle.as3_types.specs.Tables.{owned_of}
use Rattle.class_table.specs.Ids.{taken_by_each}
use Rattle.source_table.specs.Members.{members_by_content}
use Rattle.source_table.proofs.members.members_by_content.Given as goal

abbrev pub invariant-loop-file : goal.invariant-loop-file
invariant-loop-file l =
    map (map owned_of) l.members ++ members_by_content l.fn.classes (taken_by_each l.fn.constructors) l.named l.rest
    ≡ members_by_content l.fn.classes (taken_by_each l.fn.constructors) l.fn.classes l.fn.files

abbrev pub decreases-loop-file : goal.decreases-loop-file
decreases-loop-file l = length l.rest

use Rattle.std.proofs.Common.{◌≡◌, ◌++◌, map, length}
use Rattle.source_sites.specs.Trees.{member_of}
use Rattle.class_sites.specs.MemberSites.{names_of_members}
use Rattle.member_checks.specs.Places.{place_of_name}
use Rattle.member_checks.proofs.names.declared_names.Given as goal

abbrev pub invariant-loop-member : goal.invariant-loop-member
invariant-loop-member l = l.names ++ map place_of_name (names_of_members l.fn.holder (map member_of l.rest)) ≡ map place_of_name (names_of_members l.fn.holder (map member_of l.fn.members))

abbrev pub decreases-loop-member : goal.decreases-loop-member
decreases-loop-member l = length l.rest

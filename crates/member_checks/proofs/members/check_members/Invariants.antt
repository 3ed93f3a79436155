use Rattle.std.proofs.Common.{◌≡◌, length}
use Rattle.source_sites.specs.Sites.{first_site}
use Rattle.member_checks.specs.CodeRules.{members_rules}
use Rattle.member_checks.proofs.members.check_members.Given as goal

abbrev pub invariant-loop-member : goal.invariant-loop-member
invariant-loop-member l = first_site l.fn.scope.file (members_rules l.fn.scope l.fn.members) ≡ first_site l.fn.scope.file (members_rules l.fn.scope l.rest)

abbrev pub decreases-loop-member : goal.decreases-loop-member
decreases-loop-member l = length l.rest

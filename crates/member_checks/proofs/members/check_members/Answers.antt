-- Member by member.
use Rattle.std.proofs.Common.{ap, sym}
use Rattle.source_sites.specs.Sites.{first_site}
use Rattle.source_sites.specs.Trees.{member_of}
use Rattle.member_checks.specs.CodeRules.{member_rules, members_rules}
use Rattle.member_checks.proofs.Walks.{fails_here, holds_here}
use Rattle.member_checks.proofs.members.check_members.Goals as goal

pub returns-then-is_some : goal.returns-then-is_some
returns-then-is_some c =
    let s = c.args.scope.now in
    fails_here s.file (first_site s.file (members_rules s c.args.members.now)) c.in_ok-site.site (member_rules s (member_of c.in-Some.member.now)) (members_rules s c.in-Some.others.now)
    (members_rules s c.loop-member.rest.now) c.loop-member.invariant (ap (members_rules s) c.in-Some.ensures.cases.0) c.in_ok-site.ensures (sym c.if-is_some.ensures)

pub loop-member-preserved : goal.loop-member-preserved
loop-member-preserved c =
    let s = c.args.scope.now in
    holds_here s.file (first_site s.file (members_rules s c.args.members.now)) c.in_ok-site.site (member_rules s (member_of c.in-Some.member.now)) (members_rules s c.in-Some.others.now)
    (members_rules s c.loop-member.rest.now) c.loop-member.invariant (ap (members_rules s) c.in-Some.ensures.cases.0) c.in_ok-site.ensures (sym c.if-is_some.ensures)

-- Variable by variable.
use Rattle.std.proofs.Common.{ap, sym, map}
use Rattle.std.specs.List.{flat_map}
use Rattle.source_sites.specs.Sites.{first_site}
use Rattle.source_sites.specs.Trees.{variable_of}
use Rattle.member_checks.specs.CodeRules.{variable_rules}
use Rattle.member_checks.proofs.Walks.{fails_here, holds_here}
use Rattle.member_checks.proofs.members.check_variables.Goals as goal

pub returns-then-is_some : goal.returns-then-is_some
returns-then-is_some c =
    let s = c.args.scope.now in
    λ modifiers. fails_here s.file (first_site s.file (flat_map (variable_rules s modifiers) (map variable_of c.args.variables.now))) c.in_ok-site.site (variable_rules s modifiers (variable_of c.in-Some.variable.now))
    (flat_map (variable_rules s modifiers) (map variable_of c.in-Some.others.now)) (flat_map (variable_rules s modifiers) (map variable_of c.loop-variable.rest.now)) (c.loop-variable.invariant modifiers)
    (ap (λ vs. flat_map (variable_rules s modifiers) (map variable_of vs)) c.in-Some.ensures.cases.0) (c.in_ok-site.ensures modifiers) (sym c.if-is_some.ensures)

pub loop-variable-preserved : goal.loop-variable-preserved
loop-variable-preserved c =
    let s = c.args.scope.now in
    λ modifiers. holds_here s.file (first_site s.file (flat_map (variable_rules s modifiers) (map variable_of c.args.variables.now))) c.in_ok-site.site (variable_rules s modifiers (variable_of c.in-Some.variable.now))
    (flat_map (variable_rules s modifiers) (map variable_of c.in-Some.others.now)) (flat_map (variable_rules s modifiers) (map variable_of c.loop-variable.rest.now)) (c.loop-variable.invariant modifiers)
    (ap (λ vs. flat_map (variable_rules s modifiers) (map variable_of vs)) c.in-Some.ensures.cases.0) (c.in_ok-site.ensures modifiers) (sym c.if-is_some.ensures)

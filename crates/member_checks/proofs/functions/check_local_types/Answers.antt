-- Variable by variable.
use Rattle.std.proofs.Common.{◌∙◌, [], ◌∷◌, ap, sym, map}
use Rattle.source_sites.specs.Sites.{first_site}
use Rattle.source_sites.specs.Trees.{variable_of}
use Rattle.member_checks.specs.CodeRules.{local_rules, type_rule}
use Rattle.member_checks.proofs.Walks.{fails_here}
use Rattle.member_checks.proofs.functions.check_local_types.Goals as goal

pub returns-then-is_some : goal.returns-then-is_some
returns-then-is_some c =
    let s = c.args.scope.now in
    fails_here s.file (first_site s.file (local_rules s (map variable_of c.args.variables.now))) c.in_ok-site.site (type_rule s c.in-Some.variable.now.type_name.items ∷ [])
    (local_rules s (map variable_of c.in-Some.others.now)) (local_rules s (map variable_of c.loop-variable.rest.now)) c.loop-variable.invariant
    (ap (λ vs. local_rules s (map variable_of vs)) c.in-Some.ensures.cases.0)
    (c.in_ok-site.ensures ∙ ap (λ path. first_site s.file (type_rule s path ∷ [])) c.as_slice.ensures.value) (sym c.if-is_some.ensures)

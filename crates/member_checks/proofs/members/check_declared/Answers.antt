-- The variables of a member.
use Rattle.std.proofs.Common.{◌∙◌, ap, sym, map}
use Rattle.std.specs.List.{flat_map}
use Rattle.source_sites.specs.Sites.{first_site}
use Rattle.source_sites.specs.Trees.{declares_of, variable_of}
use Rattle.member_checks.specs.CodeRules.{declared_rules, variable_rules}
use Rattle.member_checks.proofs.members.check_declared.Goals as goal

pub returns-in_ok-site-in-Variables : goal.returns-in_ok-site-in-Variables
returns-in_ok-site-in-Variables c =
    let s = c.args.scope.now in
    let words = c.args.member.now.modifiers.items in
    c.in_ok-site-in-Variables.ensures words
    ∙ (ap (λ vs. first_site s.file (flat_map (variable_rules s words) (map variable_of vs))) c.as_slice.ensures.value
    ∙ ap (λ kind. first_site s.file (declared_rules s words (declares_of kind))) (sym c.in-Variables.is))

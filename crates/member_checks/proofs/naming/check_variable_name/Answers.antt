-- A variable is no constructor and overrides nothing.
use Rattle.std.proofs.Common.{◌∙◌, ap, false, true, not, ◌||◌}
use Rattle.source_sites.specs.Sites.{first_site}
use Rattle.source_sites.specs.Trees.{variable_of}
use Rattle.member_checks.specs.Places.{places_before}
use Rattle.member_checks.specs.CodeRules.{above_unless, rules_of_name}
use Rattle.member_checks.proofs.Before.{rules_of_variable, there}
use Rattle.member_checks.proofs.naming.check_variable_name.Goals as goal

pub returns : goal.returns
returns c =
    let s = c.args.scope.now in
    let name = c.args.variable.now.name in
    λ modifiers. c.check_name.ensures
    ∙ (ap (λ free. first_site s.file (rules_of_name name (places_before 0 name.span.start s.names.now) free true))
    (c.is_free-free.ensures ∙ ap (λ b. false || not b) (there name.text c.inherited-above.result (above_unless s false name.text) c.inherited-above.ensures))
    ∙ ap (first_site s.file) (rules_of_variable s modifiers (variable_of c.args.variable.now)))

-- The name, and then the type.
use Rattle.std.proofs.Common.{◌∙◌, [], ◌∷◌, ap, sym}
use Rattle.source_sites.specs.Sites.{first_site}
use Rattle.source_sites.specs.Trees.{variable_of}
use Rattle.class_sites.specs.MemberSites.{name_of_variable}
use Rattle.member_checks.specs.CodeRules.{name_rules, type_rule}
use Rattle.member_checks.proofs.Walks.{first_fails, first_holds}
use Rattle.member_checks.proofs.members.check_variable.Goals as goal

pub returns-then-is_some : goal.returns-then-is_some
returns-then-is_some c =
    let s = c.args.scope.now in
    let v = variable_of c.args.variable.now in
    λ modifiers. first_fails s.file (name_rules s (name_of_variable 0 modifiers v)) (type_rule s v.type_name ∷ []) c.check_variable_name-name.result (c.check_variable_name-name.ensures modifiers) (sym c.if-is_some.ensures)

pub returns : goal.returns
returns c =
    let s = c.args.scope.now in
    let v = variable_of c.args.variable.now in
    λ modifiers. first_holds s.file (name_rules s (name_of_variable 0 modifiers v)) (type_rule s v.type_name ∷ []) c.check_variable_name-name.result c.in_ok-site.site (c.check_variable_name-name.ensures modifiers)
    (sym c.if-is_some.ensures) (c.in_ok-site.ensures ∙ ap (λ path. first_site s.file (type_rule s path ∷ [])) c.as_slice.ensures.value)

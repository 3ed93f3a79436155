-- Parameter by parameter.
use Rattle.std.proofs.Common.{◌≡◌, ◌∙◌, ◌+◌, [], ◌∷◌, ap, sym, map, length, suc, arith, add-one, List}
use Rattle.source_sites.specs.Sites.{Rule, first_site}
use Rattle.source_sites.specs.Trees.{parameter_of}
use Rattle.class_sites.specs.MemberSites.{too_many_parameters}
use Rattle.member_checks.specs.CodeRules.{parameter_rules, type_rule}
use Rattle.member_checks.proofs.Walks.{fails_here, holds_here}
use Rattle.member_checks.proofs.functions.check_parameters.Goals as goal

pub returns-then-is_some : goal.returns-then-is_some
returns-then-is_some c =
    let s = c.args.scope.now in
    let n = c.loop-parameter.number in
    let p = c.in-Some.parameter.now in
    let own : List Rule = too_many_parameters n (parameter_of p) ∷ type_rule s p.type_name.items ∷ [] in
    fails_here s.file (first_site s.file (parameter_rules s 0 (map parameter_of c.args.parameters.now))) c.in_ok-site.site own (parameter_rules s (suc n) (map parameter_of c.in-Some.others.now))
    (parameter_rules s n (map parameter_of c.loop-parameter.rest.now)) c.loop-parameter.invariant.0 (ap (λ ps. parameter_rules s n (map parameter_of ps)) c.in-Some.ensures.cases.0) c.in_ok-site.ensures
    (sym c.if-is_some.ensures)

pub loop-parameter-preserved : goal.loop-parameter-preserved
loop-parameter-preserved c =
    let s = c.args.scope.now in
    let n = c.loop-parameter.number in
    let p = c.in-Some.parameter.now in
    let own : List Rule = too_many_parameters n (parameter_of p) ∷ type_rule s p.type_name.items ∷ [] in
    let left : n + length c.loop-parameter.rest.now ≡ length c.args.parameters.now = c.loop-parameter.invariant.1 in
    let one : length c.in-Some.others.now + 1 ≡ length c.loop-parameter.rest.now = c.in-Some.ensures.cases.1 in
    let sum : n + 1 + length c.in-Some.others.now ≡ length c.args.parameters.now = omega (arith, left, one) in (
      holds_here s.file (first_site s.file (parameter_rules s 0 (map parameter_of c.args.parameters.now))) c.in_ok-site.site own (parameter_rules s (suc n) (map parameter_of c.in-Some.others.now))
          (parameter_rules s n (map parameter_of c.loop-parameter.rest.now)) c.loop-parameter.invariant.0 (ap (λ ps. parameter_rules s n (map parameter_of ps)) c.in-Some.ensures.cases.0) c.in_ok-site.ensures
          (sym c.if-is_some.ensures)
          ∙ ap (λ k. first_site s.file (parameter_rules s k (map parameter_of c.in-Some.others.now))) (sym (add-one n)),
      sum,
    )

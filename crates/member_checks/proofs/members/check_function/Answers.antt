-- The name, and then what it names.
use Rattle.std.proofs.Common.{◌++◌, sym, map}
use Rattle.source_sites.specs.Trees.{locals_of_body, parameter_of, result_of}
use Rattle.class_sites.specs.MemberSites.{name_of_function}
use Rattle.as3_types.specs.Types.{function_of}
use Rattle.member_checks.specs.CodeRules.{local_rules, name_rules, parameter_rules, result_rules}
use Rattle.member_checks.proofs.Walks.{first_fails, first_holds}
use Rattle.member_checks.proofs.members.check_function.Goals as goal

pub returns-then-is_some : goal.returns-then-is_some
returns-then-is_some c =
    let s = c.args.scope.now in
    let locals = locals_of_body c.args.body.now in
    let named = name_rules s (name_of_function 0 c.args.modifiers.now (function_of c.args.name.now c.args.parameters.now c.args.given.now locals)) in
    let others = parameter_rules s 0 (map parameter_of c.args.parameters.now) ++ (result_rules s (result_of c.args.given.now) ++ local_rules s locals) in
    first_fails s.file named others c.in_ok-own.own (c.in_ok-own.ensures locals) (sym c.if-is_some.ensures)

pub returns : goal.returns
returns c =
    let s = c.args.scope.now in
    let locals = locals_of_body c.args.body.now in
    let named = name_rules s (name_of_function 0 c.args.modifiers.now (function_of c.args.name.now c.args.parameters.now c.args.given.now locals)) in
    let others = parameter_rules s 0 (map parameter_of c.args.parameters.now) ++ (result_rules s (result_of c.args.given.now) ++ local_rules s locals) in
    first_holds s.file named others c.in_ok-own.own c.in_ok-site.site (c.in_ok-own.ensures locals) (sym c.if-is_some.ensures) c.in_ok-site.ensures

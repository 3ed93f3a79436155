use Rattle.std.proofs.Common.{◌≡◌, List, map, length}
use Rattle.std.specs.List.{flat_map}
use Rattle.as3_parser.specs.declared.tree.Modifier.{Modifier}
use Rattle.source_sites.specs.Sites.{first_site}
use Rattle.source_sites.specs.Trees.{variable_of}
use Rattle.member_checks.specs.CodeRules.{variable_rules}
use Rattle.member_checks.proofs.members.check_variables.Given as goal

abbrev pub invariant-loop-variable : goal.invariant-loop-variable
invariant-loop-variable l =
    (modifiers : List Modifier) → first_site l.fn.scope.file (flat_map (variable_rules l.fn.scope modifiers) (map variable_of l.fn.variables))
    ≡ first_site l.fn.scope.file (flat_map (variable_rules l.fn.scope modifiers) (map variable_of l.rest))

abbrev pub decreases-loop-variable : goal.decreases-loop-variable
decreases-loop-variable l = length l.rest

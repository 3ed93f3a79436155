use Rattle.std.proofs.Common.{◌≡◌, map, length}
use Rattle.source_sites.specs.Sites.{first_site}
use Rattle.source_sites.specs.Trees.{variable_of}
use Rattle.member_checks.specs.CodeRules.{local_rules}
use Rattle.member_checks.proofs.functions.check_local_types.Given as goal

abbrev pub invariant-loop-variable : goal.invariant-loop-variable
invariant-loop-variable l = first_site l.fn.scope.file (local_rules l.fn.scope (map variable_of l.fn.variables)) ≡ first_site l.fn.scope.file (local_rules l.fn.scope (map variable_of l.rest))

abbrev pub decreases-loop-variable : goal.decreases-loop-variable
decreases-loop-variable l = length l.rest

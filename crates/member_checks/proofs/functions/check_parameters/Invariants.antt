use Rattle.std.proofs.Common.{◌≡◌, ◌+◌, map, length}
use Rattle.source_sites.specs.Sites.{first_site}
use Rattle.source_sites.specs.Trees.{parameter_of}
use Rattle.member_checks.specs.CodeRules.{parameter_rules}
use Rattle.member_checks.proofs.functions.check_parameters.Given as goal

abbrev pub invariant-loop-parameter : goal.invariant-loop-parameter
invariant-loop-parameter l =
    (first_site l.fn.scope.file (parameter_rules l.fn.scope 0 (map parameter_of l.fn.parameters)) ≡ first_site l.fn.scope.file (parameter_rules l.fn.scope l.number (map parameter_of l.rest)))
    × (l.number + length l.rest ≡ length l.fn.parameters)

abbrev pub decreases-loop-parameter : goal.decreases-loop-parameter
decreases-loop-parameter l = length l.rest

use Rattle.std.proofs.Common.{◌≡◌, drop}
use Rattle.source_sites.specs.Sites.{first_site}
use Rattle.source_sites.specs.Trees.{locals_of_body}
use Rattle.member_checks.specs.CodeRules.{local_rules}
use Rattle.member_checks.proofs.locals.+locals.Given as goal

abbrev pub invariant-check_locals-loop-statement : goal.invariant-check_locals-loop-statement
invariant-check_locals-loop-statement l =
    first_site l.fn.scope.file (local_rules l.fn.scope (locals_of_body l.fn.statements)) ≡ first_site l.fn.scope.file (local_rules l.fn.scope (locals_of_body (drop l.statement-index l.statements)))

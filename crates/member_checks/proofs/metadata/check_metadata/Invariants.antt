use Rattle.std.proofs.Common.{◌≡◌, map, length}
use Rattle.source_sites.specs.Sites.{first_site}
use Rattle.source_sites.specs.Trees.{tag_of}
use Rattle.member_checks.specs.CodeRules.{metadata_rule}
use Rattle.member_checks.proofs.metadata.check_metadata.Given as goal

abbrev pub invariant-loop-tag : goal.invariant-loop-tag
invariant-loop-tag l = first_site l.fn.scope.file (map (metadata_rule l.fn.scope) (map tag_of l.fn.tags)) ≡ first_site l.fn.scope.file (map (metadata_rule l.fn.scope) (map tag_of l.rest))

abbrev pub decreases-loop-tag : goal.decreases-loop-tag
decreases-loop-tag l = length l.rest

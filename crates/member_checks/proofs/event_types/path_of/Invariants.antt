use Rattle.std.proofs.Common.{◌≡◌, ◌++◌, length}
use Rattle.std.specs.List.{list_all}
use Rattle.source_sites.specs.Names.{path_names}
use Rattle.as3_types.specs.Identifiers.{is_identifier}
use Rattle.member_checks.proofs.event_types.path_of.Given as goal

abbrev pub invariant-loop-name : goal.invariant-loop-name
invariant-loop-name l = (path_names l.path.items ++ l.rest ≡ l.fn.names) × (list_all is_identifier l.rest ≡ list_all is_identifier l.fn.names)

abbrev pub decreases-loop-name : goal.decreases-loop-name
decreases-loop-name l = length l.rest

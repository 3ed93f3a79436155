use Rattle.std.proofs.Common.{◌≡◌, ◌++◌, filter_map, flat_map, length, map}
use Rattle.source_sites.specs.Trees.{tags_of}
use Rattle.as3_types.specs.Tables.{event_of}
use Rattle.source_table.specs.Events.{declares}
use Rattle.source_table.proofs.events.events_of_metadata.Given as goal

abbrev pub invariant-loop-written : goal.invariant-loop-written
invariant-loop-written l =
    map event_of l.events ++ filter_map (declares l.fn.table l.fn.here) (flat_map tags_of l.rest) ≡ filter_map (declares l.fn.table l.fn.here) (flat_map tags_of l.fn.metadata)

abbrev pub decreases-loop-written : goal.decreases-loop-written
decreases-loop-written l = length l.rest

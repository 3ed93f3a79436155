use Rattle.std.proofs.Common.{◌≡◌, ◌++◌, map, length}
use Rattle.as3_types.specs.Tables.{event_of}
use Rattle.class_table.specs.Columns.{events_declared}
use Rattle.class_table.proofs.events.events_of.Given as goal

abbrev pub invariant-loop-tag : goal.invariant-loop-tag
invariant-loop-tag l = map event_of l.events ++ events_declared l.fn.table l.fn.here l.rest ≡ events_declared l.fn.table l.fn.here l.fn.tags

abbrev pub decreases-loop-tag : goal.decreases-loop-tag
decreases-loop-tag l = length l.rest

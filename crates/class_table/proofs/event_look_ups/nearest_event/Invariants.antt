use Rattle.std.proofs.Common.{◌≡◌}
use Rattle.as3_types.specs.Tables.{table_of}
use Rattle.class_table.specs.Sent.{event_above}
use Rattle.class_table.proofs.EventLevels.{sent_from}
use Rattle.class_table.proofs.event_look_ups.nearest_event.Given as goal

abbrev pub invariant-loop-left : goal.invariant-loop-left
invariant-loop-left l = event_above l.fn.table l.fn.class l.fn.name ≡ sent_from (table_of l.fn.table) l.fn.name l.left l.level

abbrev pub decreases-loop-left : goal.decreases-loop-left
decreases-loop-left l = l.left

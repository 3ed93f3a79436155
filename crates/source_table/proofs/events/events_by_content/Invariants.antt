use Rattle.std.proofs.Common.{◌≡◌, ◌++◌, length, map}
use Rattle.as3_types.specs.Tables.{event_of}
use Rattle.source_table.specs.Events.{events_read}
use Rattle.source_table.proofs.events.events_by_content.Given as goal

abbrev pub invariant-loop-file : goal.invariant-loop-file
invariant-loop-file l = map (map event_of) l.events ++ events_read l.fn.table l.named l.rest ≡ events_read l.fn.table l.fn.table.classes l.fn.files

abbrev pub decreases-loop-file : goal.decreases-loop-file
decreases-loop-file l = length l.rest

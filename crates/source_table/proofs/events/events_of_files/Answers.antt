-- The events of a source set.
use Rattle.std.proofs.Common.{◌∙◌}
use Rattle.source_table.proofs.SameEvents.{same_events}
use Rattle.source_table.proofs.events.events_of_files.Goals as goal

pub returns : goal.returns
returns c = λ s knows are. c.in_ok-events.ensures ∙ same_events s.readers knows c.args.table.now c.args.table.now.classes c.args.files.now s.files are

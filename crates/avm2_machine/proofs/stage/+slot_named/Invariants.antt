use Rattle.std.proofs.Common.{length}
use Rattle.avm2_machine.proofs.stage.+slot_named.Given as goal

abbrev pub decreases-slot_named : goal.decreases-slot_named
decreases-slot_named l = length l.slots.now

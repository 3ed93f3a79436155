use Rattle.std.proofs.Common.{length}
use Rattle.avm2_machine.proofs.tables.+body_in.Given as goal

abbrev pub decreases-body_in : goal.decreases-body_in
decreases-body_in l = length l.bodies.now

use Rattle.std.proofs.Common.{length}
use Rattle.avm2_natives.proofs.parameters.+into_parameters.Given as goal

abbrev pub decreases-into_parameters : goal.decreases-into_parameters
decreases-into_parameters l = length l.parameters.now

use Rattle.std.proofs.Common.{length}
use Rattle.avm2_natives.proofs.parameters.+accepts.Given as goal

abbrev pub decreases-accepts : goal.decreases-accepts
decreases-accepts l = length l.parameters.now

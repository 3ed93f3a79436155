use Rattle.std.proofs.Common.{length}
use Rattle.avm2_natives.proofs.parameters.+left_out.Given as goal

abbrev pub decreases-left_out : goal.decreases-left_out
decreases-left_out l = length l.parameters.now

use Rattle.std.proofs.Common.{length}
use Rattle.avm2_machine.proofs.tables.+method_named.Given as goal

abbrev pub decreases-method_named : goal.decreases-method_named
decreases-method_named l = length l.traits.now

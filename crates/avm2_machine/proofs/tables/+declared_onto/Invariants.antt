use Rattle.std.proofs.Common.{length}
use Rattle.avm2_machine.proofs.tables.+declared_onto.Given as goal

abbrev pub decreases-declared_onto : goal.decreases-declared_onto
decreases-declared_onto l = length l.traits.now

use Rattle.std.proofs.Common.{length}
use Rattle.avm2_machine.proofs.tables.+class_trait_in.Given as goal

abbrev pub decreases-class_trait_in : goal.decreases-class_trait_in
decreases-class_trait_in l = length l.traits.now

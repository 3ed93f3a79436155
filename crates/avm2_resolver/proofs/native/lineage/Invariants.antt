use Rattle.std.proofs.Common.{◌≡◌, ◌++◌, length}
use Rattle.component_catalog.specs.Classes.{lineage, lineage_from}
use Rattle.avm2_resolver.proofs.native.lineage.Given as goal

abbrev pub invariant-loop-level : goal.invariant-loop-level
invariant-loop-level l = l.classes ++ lineage_from l.level ≡ lineage l.fn.class

abbrev pub decreases-loop-level : goal.decreases-loop-level
decreases-loop-level l = length (lineage_from l.level)

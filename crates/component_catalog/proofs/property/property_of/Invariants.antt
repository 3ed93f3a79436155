use Rattle.std.proofs.Common.{◌≡◌, length}
use Rattle.component_catalog.specs.Classes.{lineage_from, nearest}
use Rattle.component_catalog.specs.Properties.{own_property, property_of}
use Rattle.component_catalog.proofs.property.property_of.Given as goal

abbrev pub invariant-loop-level : goal.invariant-loop-level
invariant-loop-level l = nearest (λ level. own_property level l.name) (lineage_from l.level) ≡ property_of l.fn.class l.name

abbrev pub decreases-loop-level : goal.decreases-loop-level
decreases-loop-level l = length (lineage_from l.level)

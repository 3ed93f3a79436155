use Rattle.std.proofs.Common.{◌≡◌, length, option_map}
use Rattle.component_catalog.specs.Classes.{lineage_from, nearest}
use Rattle.component_catalog.specs.Methods.{own_method, method_of, row}
use Rattle.component_catalog.proofs.method.method_of.Given as goal

abbrev pub invariant-loop-level : goal.invariant-loop-level
invariant-loop-level l = option_map row (nearest (λ level. own_method level l.name) (lineage_from l.level)) ≡ method_of l.fn.class l.name

abbrev pub decreases-loop-level : goal.decreases-loop-level
decreases-loop-level l = length (lineage_from l.level)

use Rattle.std.proofs.Common.{◌≤◌, ◌-◌, drop, length}
use Rattle.mxml_tree.specs.Building.{Stands}
use Rattle.mxml_tree.specs.Reading.{placed_in}
use Rattle.mxml_tree.proofs.reading.build.Given as goal

abbrev pub invariant-loop-at : goal.invariant-loop-at
invariant-loop-at l = Stands (placed_in l.items) (placed_in (drop l.at l.items)) l.building × (l.at ≤ length l.items)

abbrev pub decreases-loop-at : goal.decreases-loop-at
decreases-loop-at l = length l.items - l.at

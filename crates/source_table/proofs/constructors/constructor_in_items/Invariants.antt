use Rattle.std.proofs.Common.{◌≡◌, flat_map, length, map}
use Rattle.source_sites.specs.Functions.{member_in}
use Rattle.source_sites.specs.Trees.{item_of}
use Rattle.source_table.specs.Constructors.{taken}
use Rattle.source_table.proofs.constructors.constructor_in_items.Given as goal

abbrev pub invariant-loop-item : goal.invariant-loop-item
invariant-loop-item l = taken l.fn.classes l.fn.here (flat_map member_in (map item_of l.fn.items)) ≡ taken l.fn.classes l.fn.here (flat_map member_in (map item_of l.rest))

abbrev pub decreases-loop-item : goal.decreases-loop-item
decreases-loop-item l = length l.rest

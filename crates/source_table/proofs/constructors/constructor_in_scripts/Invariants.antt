use Rattle.std.proofs.Common.{◌≡◌, flat_map, length}
use Rattle.source_sites.specs.Functions.{member_in}
use Rattle.source_sites.specs.Trees.{items_of}
use Rattle.source_table.specs.Constructors.{taken}
use Rattle.source_table.proofs.constructors.constructor_in_scripts.Given as goal

abbrev pub invariant-loop-script : goal.invariant-loop-script
invariant-loop-script l =
    taken l.fn.classes l.fn.here (flat_map member_in (flat_map items_of l.fn.scripts)) ≡ taken l.fn.classes l.fn.here (flat_map member_in (flat_map items_of l.rest))

abbrev pub decreases-loop-script : goal.decreases-loop-script
decreases-loop-script l = length l.rest

use Rattle.std.proofs.Common.{◌≡◌, ◌++◌, flat_map, length, map}
use Rattle.source_sites.specs.Trees.{items_of}
use Rattle.as3_types.specs.Tables.{owned_of}
use Rattle.source_table.specs.Members.{items_added}
use Rattle.source_table.proofs.members.add_scripts.Given as goal

abbrev pub invariant-loop-script : goal.invariant-loop-script
invariant-loop-script l = map owned_of l.members ++ items_added l.fn.code (flat_map items_of l.rest) ≡ map owned_of l.fn.members ++ items_added l.fn.code (flat_map items_of l.fn.scripts)

abbrev pub decreases-loop-script : goal.decreases-loop-script
decreases-loop-script l = length l.rest

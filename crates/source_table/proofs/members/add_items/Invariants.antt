use Rattle.std.proofs.Common.{◌≡◌, ◌++◌, length, map}
use Rattle.source_sites.specs.Trees.{item_of}
use Rattle.as3_types.specs.Tables.{owned_of}
use Rattle.source_table.specs.Members.{items_added}
use Rattle.source_table.proofs.members.add_items.Given as goal

abbrev pub invariant-loop-item : goal.invariant-loop-item
invariant-loop-item l = map owned_of l.members ++ items_added l.fn.code (map item_of l.rest) ≡ map owned_of l.fn.members ++ items_added l.fn.code (map item_of l.fn.items)

abbrev pub decreases-loop-item : goal.decreases-loop-item
decreases-loop-item l = length l.rest

use Rattle.std.proofs.Common.{◌≡◌, ◌++◌, length, map}
use Rattle.as3_types.specs.Tables.{owned_of}
use Rattle.class_table.specs.Ids.{taken_by_each}
use Rattle.source_table.specs.Members.{ids_in_rows}
use Rattle.source_table.proofs.ids.add_ids_of_nodes.Given as goal

abbrev pub invariant-loop-node : goal.invariant-loop-node
invariant-loop-node l =
    map owned_of l.members.items ++ ids_in_rows l.fn.classes (taken_by_each l.fn.constructors) l.rest
    ≡ map owned_of l.fn.members.items ++ ids_in_rows l.fn.classes (taken_by_each l.fn.constructors) l.fn.nodes

abbrev pub decreases-loop-node : goal.decreases-loop-node
decreases-loop-node l = length l.rest

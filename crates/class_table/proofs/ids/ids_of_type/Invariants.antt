use Rattle.std.proofs.Common.{◌≡◌, ◌++◌, map, length}
use Rattle.as3_types.specs.Tables.{owned_of}
use Rattle.as3_types.specs.Types.{type_of}
use Rattle.class_table.specs.Ids.{ids_named}
use Rattle.class_table.proofs.ids.ids_of_type.Given as goal

abbrev pub invariant-loop-attribute : goal.invariant-loop-attribute
invariant-loop-attribute l = map owned_of l.owned ++ ids_named (type_of l.fn.kind) l.rest ≡ ids_named (type_of l.fn.kind) l.fn.attributes

abbrev pub decreases-loop-attribute : goal.decreases-loop-attribute
decreases-loop-attribute l = length l.rest

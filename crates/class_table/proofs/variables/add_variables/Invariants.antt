use Rattle.std.proofs.Common.{◌≡◌, ◌++◌, map, take}
use Rattle.as3_types.specs.Tables.{owned_of}
use Rattle.class_table.specs.Columns.{variables_owned}
use Rattle.class_table.proofs.variables.add_variables.Given as goal

abbrev pub invariant-loop-variable : goal.invariant-loop-variable
invariant-loop-variable l = map owned_of l.owned ≡ map owned_of l.fn.owned ++ variables_owned l.fn.code l.fn.access l.fn.bindable (take l.variable-index l.variables)

use Rattle.std.proofs.Common.{◌≡◌, ◌++◌}
use Rattle.std.specs.Prelude.{replicate}
use Rattle.flex_base.specs.declared.value.Value.TheVariants as value
use Rattle.avm2_machine.specs.declared.frame.Operand.TheVariants as operand
use Rattle.avm2_machine.proofs.tables.put_undefined.Given as goal

abbrev pub invariant-loop-index : goal.invariant-loop-index
invariant-loop-index l = l.locals ≡ l.initial.locals ++ replicate l.index (operand.Value value.Undefined)

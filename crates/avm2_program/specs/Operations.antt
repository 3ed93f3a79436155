-- The instructions of a body made ready.
use Rattle.std.specs.Prelude.{Bool, List, false, if◌then◌else◌, map, pos, true, unwrap_or, ℕ, ℤ}
use Rattle.avm2_code.specs.declared.body.PlacedInstruction.{PlacedInstruction}
use Rattle.avm2_code.specs.declared.instruction.Instruction.{Instruction}
use Rattle.avm2_code.specs.declared.instruction.Instruction.TheVariants as instruction
use Rattle.flex_base.specs.Lists.{entry}
use Rattle.flex_base.specs.declared.value.Value.TheVariants as value
use Rattle.flex_world.specs.declared.kind.StaticType.TheVariants as StaticType
use Rattle.flex_world.specs.Objects.{count}
use Rattle.flex_world.specs.declared.operator.Operator.TheVariants as Operator
use Rattle.verified_code.specs.Operands.{is_late}
use Rattle.avm2_program.specs.Decoding.{instructions, target}
use Rattle.avm2_program.specs.Naming.{Naming, name_at, string_at, type_at}
use Rattle.avm2_program.specs.declared.operation.Operation.{Operation}
use Rattle.avm2_program.specs.declared.names.Name.{Name}

module _ (g : Naming) where
  abbrev pub name : ℕ → Name
  name n = name_at g.abc n

  -- whether the text of a name comes from the stack
  abbrev pub is_late_name : ℕ → Bool
  is_late_name n = is_late g.abc.constant_pool n

  abbrev pub pushed_int : ℕ → Operation
  pushed_int n = Operation.Push (value.Int (unwrap_or (entry g.abc.constant_pool.integers n) (pos 0)))

  abbrev pub pushed_bool : Bool → Operation
  pushed_bool b = Operation.Push (value.Bool b)

  -- the read of a property, or of an element where the text of the name comes from the stack
  abbrev pub read_of : ℕ → Operation
  read_of n = if is_late_name n then Operation.GetElement else Operation.GetProperty (name n)

  -- the same for its write
  abbrev pub write_of : ℕ → Operation
  write_of n = if is_late_name n then Operation.SetElement else Operation.SetProperty (name n)

  -- an instruction made ready, where a branch with an offset leads to this instruction
  abbrev pub operation : (ℤ → ℕ) → Instruction → Operation
  operation to instruction.Label = Operation.Label
  operation to (instruction.Jump offset) = Operation.Jump (to offset)
  operation to (instruction.IfTrue offset) = Operation.Branch true (to offset)
  operation to (instruction.IfFalse offset) = Operation.Branch false (to offset)
  operation to instruction.PopScope = Operation.PopScope
  operation to instruction.PushNull = Operation.Push value.Null
  operation to instruction.PushUndefined = Operation.Push value.Undefined
  operation to (instruction.PushByte n) = Operation.Push (value.Int n)
  operation to instruction.PushTrue = pushed_bool true
  operation to instruction.PushFalse = pushed_bool false
  operation to instruction.Pop = Operation.Pop
  operation to instruction.Dup = Operation.Dup
  operation to instruction.Swap = Operation.Swap
  operation to (instruction.PushString n) = Operation.Push (value.Text (string_at g.abc n))
  operation to (instruction.PushInt n) = pushed_int n
  operation to instruction.PushScope = Operation.PushScope
  operation to (instruction.CallSuper n count) = Operation.CallSuper (name n) count
  operation to (instruction.CallProperty n count) = Operation.CallProperty true (name n) count
  operation to instruction.ReturnVoid = Operation.ReturnVoid
  operation to instruction.ReturnValue = Operation.ReturnValue
  operation to (instruction.ConstructSuper count) = Operation.ConstructSuper count
  operation to (instruction.ConstructProp n count) = Operation.ConstructProperty (name n) count
  operation to (instruction.CallPropVoid n count) = Operation.CallProperty false (name n) count
  operation to (instruction.NewArray count) = Operation.NewArray count
  operation to (instruction.NewClass class) = Operation.NewClass class
  operation to (instruction.FindPropStrict n) = Operation.FindProperty (name n)
  operation to (instruction.GetLex n) = Operation.GetLex (name n)
  operation to (instruction.SetProperty n) = write_of n
  operation to (instruction.GetLocal n) = Operation.GetLocal n
  operation to (instruction.SetLocal n) = Operation.SetLocal n
  operation to (instruction.GetScopeObject n) = Operation.GetScopeObject n
  operation to (instruction.GetProperty n) = read_of n
  operation to (instruction.InitProperty n) = Operation.SetProperty (name n)
  operation to instruction.ConvertString = Operation.ToText
  operation to instruction.ConvertInt = Operation.Convert StaticType.Int
  operation to instruction.ConvertBoolean = Operation.Convert StaticType.Boolean
  operation to (instruction.Coerce n) = Operation.Convert (type_at g n)
  operation to instruction.CoerceAny = Operation.CoerceAny
  operation to instruction.CoerceString = Operation.Convert StaticType.String
  operation to instruction.Negate = Operation.Negate
  operation to instruction.Not = Operation.Not
  operation to instruction.Add = Operation.Apply Operator.Plus
  operation to instruction.Subtract = Operation.Apply Operator.Minus
  operation to instruction.Multiply = Operation.Apply Operator.Times
  operation to instruction.Modulo = Operation.Apply Operator.Modulo
  operation to instruction.Equals = Operation.Apply Operator.Equal
  operation to instruction.StrictEquals = Operation.Apply Operator.Same
  operation to instruction.LessThan = Operation.Apply Operator.Less
  operation to instruction.LessEquals = Operation.Apply Operator.LessOrEqual
  operation to instruction.GreaterThan = Operation.Apply Operator.Greater
  operation to instruction.GetLocal0 = Operation.GetLocal 0
  operation to instruction.GetLocal1 = Operation.GetLocal 1
  operation to instruction.GetLocal2 = Operation.GetLocal 2
  operation to instruction.GetLocal3 = Operation.GetLocal 3
  operation to instruction.SetLocal0 = Operation.SetLocal 0
  operation to instruction.SetLocal1 = Operation.SetLocal 1
  operation to instruction.SetLocal2 = Operation.SetLocal 2
  operation to instruction.SetLocal3 = Operation.SetLocal 3
  operation to (instruction.Debug kind name register extra) = Operation.Skip
  operation to (instruction.DebugLine line) = Operation.Skip
  operation to (instruction.DebugFile file) = Operation.Skip

  -- the operations of a body that has these instructions
  abbrev pub operations_of : List PlacedInstruction → List Operation
  operations_of code = map (λ d. operation (target code d.next) d.instruction) code

  abbrev pub operations : List ℕ → List Operation
  operations code = operations_of (instructions code)

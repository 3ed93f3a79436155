-- Conversions into the types of places, and the arguments of calls.
use Rattle.std.specs.Prelude.{List, [], length, ◌∷◌}
use Rattle.avm2_program.specs.declared.file.Program.{Program}
use Rattle.component_catalog.specs.declared.method.Parameter.{Parameter}
use Rattle.component_catalog.specs.declared.method.Parameter.TheVariants.{Listener, Optional, Required}
use Rattle.component_catalog.specs.declared.value.ValueType.{ValueType}
use Rattle.flex_base.specs.Value.{to_text}
use Rattle.flex_base.specs.declared.outcome.MachineFault.TheVariants as fault
use Rattle.flex_base.specs.declared.value.ObjId.{ObjId}
use Rattle.flex_base.specs.declared.value.Value.{Value}
use Rattle.flex_base.specs.declared.value.Value.TheVariants as value
use Rattle.flex_world.specs.Classes.{static_type}
use Rattle.flex_world.specs.declared.kind.StaticType.{StaticType}
use Rattle.flex_world.specs.Conversions.{accepts, into_type, left_out}
use Rattle.ui_runtime.specs.Stage.{objects}
use Rattle.avm2_meaning.specs.declared.heap.Heap.{Heap}
use Rattle.avm2_meaning.specs.declared.operand.Operand.{Operand}
use Rattle.avm2_meaning.specs.declared.operand.Operand.TheVariants.{Plain}
use Rattle.avm2_meaning.specs.Results.{Goes, Result, bind, faults, given, need, plain, test}

module _ (p : Program) where
  -- as into a variable of the type
  abbrev pub convert_value : StaticType → Value → Heap → Result Value
  convert_value StaticType.Unnamed v h = faults fault.NoName h
  convert_value type v h = need (into_type p.bases (objects h.stage) type v) h (λ r. given r h)

  abbrev pub convert_plain : StaticType → Operand → Heap → Result Operand
  convert_plain type v h = bind (plain v h) (λ value h1. bind (convert_value type value h1) (λ result h2. Goes (Plain result) h2))

  -- the same of whatever a stack holds: no type converts nothing, and a name that names no class is looked at first
  abbrev pub convert : StaticType → Operand → Heap → Result Operand
  convert StaticType.Any v h = Goes v h
  convert StaticType.Unnamed v h = faults fault.NoName h
  convert type v h = convert_plain type v h

  -- arguments into the types of as many parameters, from left to right
  abbrev pub convert_all : List StaticType → List Operand → Heap → Result (List Operand)
  convert_all (type ∷ types) (v ∷ vs) h = bind (convert type v h) (λ v1 h1. bind (convert_all types vs h1) (λ vs1 h2. Goes (v1 ∷ vs1) h2))
  convert_all _ _ h = Goes [] h

  -- what a class value gives that is called: `String(v)`, or the value as into a variable
  abbrev pub call_class : StaticType → Value → Heap → Result Value
  call_class StaticType.String v h = bind (given (to_text v) h) (λ text h1. Goes (value.Text text) h1)
  call_class type v h = convert_value type v h

  abbrev pub into_kind : ValueType → Operand → Heap → Result Value
  into_kind kind v h = bind (plain v h) (λ value h1. convert_value (static_type kind) value h1)

  -- into what a parameter of the catalog takes
  abbrev pub into_parameter : Parameter → Operand → Heap → Result Value
  into_parameter (Required kind) v h = into_kind kind v h
  into_parameter (Optional kind start) v h = into_kind kind v h
  into_parameter Listener (Plain (value.Listener o m)) h = Goes (value.Listener o m) h
  into_parameter Listener v h = faults fault.WrongKind h

  -- arguments from left to right, and behind them the values of parameters that are left out
  abbrev pub into_parameters : List Parameter → List Operand → Heap → Result (List Value)
  into_parameters (t ∷ ts) (v ∷ vs) h = bind (into_parameter t v h) (λ v1 h1. bind (into_parameters ts vs h1) (λ vs1 h2. Goes (v1 ∷ vs1) h2))
  into_parameters ts _ h = Goes (left_out ts) h

  -- the arguments of a native call, which are counted before they are converted
  abbrev pub native_arguments : List Parameter → List Operand → Heap → Result (List Value)
  native_arguments parameters arguments h =
      bind (test fault.WrongCount (accepts parameters (length arguments)) h) (λ _ h1. into_parameters parameters arguments h1)

-- the number of an object that an operand is
abbrev pub object_number : Operand → Heap → Result ObjId
object_number (Plain (value.Ref o)) h = Goes o h
object_number _ h = faults fault.WrongKind h

-- The call of a method of the file.
use Rattle.std.specs.Prelude.{Bool, List, [], false, length, ℕ, ◌==◌}
use Rattle.avm2_program.specs.declared.file.Program.{Program}
use Rattle.flex_base.specs.declared.outcome.MachineFault.TheVariants as fault
use Rattle.flex_world.specs.Objects.{Listener}
use Rattle.avm2_meaning.specs.Classes.{method_at}
use Rattle.avm2_meaning.specs.Conversions.{convert_all}
use Rattle.avm2_meaning.specs.Effects.{silent}
use Rattle.avm2_meaning.specs.declared.effect.Call.{Call}
use Rattle.avm2_meaning.specs.declared.effect.Effect.{Effect}
use Rattle.avm2_meaning.specs.declared.effect.Next.{Next}
use Rattle.avm2_meaning.specs.declared.effect.Next.TheVariants as Next
use Rattle.avm2_meaning.specs.Frames.{keeps}
use Rattle.avm2_meaning.specs.declared.heap.Heap.{Heap}
use Rattle.avm2_meaning.specs.Operands.{ref}
use Rattle.avm2_meaning.specs.declared.operand.Operand.{Operand}
use Rattle.avm2_meaning.specs.Results.{Goes, Result, bind, need, or_fault, test}

abbrev pub call_of : ℕ → Operand → List Operand → Bool → Call
call_of m receiver arguments keeps = record { method = m; receiver = receiver; arguments = arguments; keeps = keeps }

module _ (p : Program) where
  -- the arguments of a method, converted: it must have a body, their number is looked at, and then they are converted from left to right
  abbrev pub prepare : ℕ → List Operand → Heap → Result (List Operand)
  prepare m arguments h =
      need (method_at p m) h (λ method.
      or_fault fault.NotHere method.body h (λ _.
      bind (test fault.WrongCount (length arguments == length method.parameters) h) (λ _ h1.
      convert_all p method.parameters arguments h1)))

  -- a method is called on a receiver
  abbrev pub call_method : ℕ → Operand → List Operand → Bool → Heap → Result Effect
  call_method m receiver arguments keeps h =
      bind (prepare m arguments h) (λ converted h1. Goes (silent (Next.Calls (call_of m receiver converted keeps))) h1)

  -- a listener is called, whose result is dropped
  abbrev pub call_listener : Listener → List Operand → Heap → Result Effect
  call_listener l arguments h = call_method l.method (ref l.object) arguments false h

  -- the initialiser of a class or a script, on its value: it takes nothing
  abbrev pub initialiser : ℕ → Operand → Heap → Result Call
  initialiser m receiver h = bind (prepare m [] h) (λ _ h1. Goes (call_of m receiver [] false) h1)

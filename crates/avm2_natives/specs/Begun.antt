-- A dispatch that begins, with what that comes to.
use Rattle.std.specs.Prelude.{Err, Ok, Result as Computed, ⊤, ◌≡◌}
use Rattle.avm2_meaning.specs.Effects.{Acted, acted}
use Rattle.avm2_meaning.specs.Results.{Goes, Halts, Result}
use Rattle.avm2_meaning.specs.declared.effect.Effect.{Effect}
use Rattle.avm2_meaning.specs.declared.frame.Dispatch.{Dispatch}
use Rattle.avm2_meaning.specs.declared.heap.Heap.{Heap}
use Rattle.avm2_values.specs.declared.refusal.Refusal.{Refusal}
use Rattle.avm2_values.specs.declared.refusal.Refusal.TheVariants.{Halt, NoMemory}

-- a call that gives what a dispatch comes to and what remains of it, and leaves this heap
abbrev pub Begins : Computed (Effect × Dispatch) Refusal → Heap → Result (Acted Dispatch) → Type 0
Begins (Ok begun) h r = r ≡ Goes (acted begun.0 begun.1) h
Begins (Err (Halt o)) h r = r ≡ Halts o
Begins (Err NoMemory) h r = ⊤

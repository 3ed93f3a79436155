-- What moves of native work come to, against their definitions. After want of memory nothing is promised.
use Rattle.std.specs.Prelude.{Err, Ok, Result as Computed, ⊤, ◌≡◌}
use Rattle.avm2_meaning.specs.Effects.{Acted, acted}
use Rattle.avm2_meaning.specs.Results.{Goes, Halts, Result}
use Rattle.avm2_meaning.specs.declared.effect.Effect.{Effect}
use Rattle.avm2_meaning.specs.declared.frame.Native.{Native}
use Rattle.avm2_meaning.specs.declared.heap.Heap.{Heap}
use Rattle.avm2_values.specs.declared.refusal.Refusal.{Refusal}
use Rattle.avm2_values.specs.declared.refusal.Refusal.TheVariants.{Halt, NoMemory}

-- a move, what remains of the work, and the heap that it leaves
abbrev pub Moves : Computed (Effect × Native) Refusal → Heap → Result (Acted Native) → Type 0
Moves (Ok m) h r = r ≡ Goes (acted m.0 m.1) h
Moves (Err (Halt o)) h r = r ≡ Halts o
Moves (Err NoMemory) h r = ⊤

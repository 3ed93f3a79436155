-- What instructions come to, against their definitions. After want of memory nothing is promised.
use Rattle.std.specs.Prelude.{Err, Ok, Result as Computed, ⊤, ◌≡◌}
use Rattle.avm2_meaning.specs.Effects.{Acted, acted}
use Rattle.avm2_meaning.specs.Results.{Goes, Halts, Result}
use Rattle.avm2_meaning.specs.declared.effect.Effect.{Effect}
use Rattle.avm2_meaning.specs.declared.heap.Heap.{Heap}
use Rattle.avm2_values.specs.declared.refusal.Refusal.{Refusal}
use Rattle.avm2_values.specs.declared.refusal.Refusal.TheVariants.{Halt, NoMemory}

-- a move that leaves this work and this heap
abbrev pub Acts : {W : Type 0} → Computed Effect Refusal → W → Heap → Result (Acted W) → Type 0
Acts (Ok e) w h r = r ≡ Goes (acted e w) h
Acts (Err (Halt o)) w h r = r ≡ Halts o
Acts (Err NoMemory) w h r = ⊤

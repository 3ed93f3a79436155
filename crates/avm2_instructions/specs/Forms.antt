-- Instructions that take an operand off the stack.
use Rattle.avm2_meaning.specs.Act.{pop_operand, return_value}
use Rattle.avm2_meaning.specs.Effects.{Acted}
use Rattle.avm2_meaning.specs.Invoking.{new_class}
use Rattle.avm2_meaning.specs.Results.{Result}
use Rattle.avm2_meaning.specs.declared.heap.Heap.{Heap}
use Rattle.avm2_meaning.specs.declared.work.Work.{Work}
use Rattle.avm2_program.specs.declared.file.Program.{Program}
use Rattle.std.specs.Prelude.{ℕ}

-- returns the top of the stack
abbrev pub act_return_value : Program → Work → Heap → Result (Acted Work)
act_return_value p w h = pop_operand w h (λ v w1. return_value p v w1 h)

-- makes the class of a number, whose base is on top of the stack
abbrev pub act_new_class : Program → ℕ → Work → Heap → Result (Acted Work)
act_new_class p k w h = pop_operand w h (λ v w1. new_class p k v w1 h)

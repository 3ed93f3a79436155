-- The steps of a change of state, which ask for the document each.
use Rattle.std.specs.Prelude.{List, Option, option_and_then, option_map, ◌∷◌, ℕ}
use Rattle.flex_base.specs.declared.value.ObjId.{ObjId}
use Rattle.flex_objects.specs.Entities.{RegisteredState}
use Rattle.flex_world.specs.Objects.{Listener, Object, current_state, property, text_in}
use Rattle.stage_objects.specs.Documents.{state_named}
use Rattle.ui_runtime.specs.Documents.{states_at}
use Rattle.ui_runtime.specs.Stage.{object_at}
use Rattle.avm2_meaning.specs.Effects.{Acted}
use Rattle.avm2_meaning.specs.Moves.{change_step}
use Rattle.avm2_meaning.specs.Results.{Result, on}
use Rattle.avm2_meaning.specs.declared.frame.Change.{Change}
use Rattle.avm2_meaning.specs.declared.frame.ChangeStep.{ChangeStep}
use Rattle.avm2_meaning.specs.declared.frame.Native.{Native}
use Rattle.avm2_meaning.specs.declared.frame.Native.TheVariants as Native
use Rattle.avm2_meaning.specs.declared.heap.Heap.{Heap}
use Rattle.avm2_program.specs.declared.file.Program.{Program}

-- a change of which a step is still to be done, before the others
abbrev pub with_step : ChangeStep → Change → Change
with_step step c = record c { steps = step ∷ c.steps }

-- a step is done, and this is what remains of the change
abbrev pub does_step : Program → ChangeStep → Change → Heap → Result (Acted Native)
does_step p step c h = on c.document h (λ d. change_step p (with_step step c) step d (Native.Changes c) h)

-- what a document registered for leaving the state in which it is
abbrev pub leaving : ObjId → Heap → Option Listener
leaving d h =
    option_and_then
    (λ (c : Object). option_and_then (λ now. option_map (λ (s : RegisteredState). s.leave) (state_named now (states_at d h.stage))) (text_in (property c current_state)))
    (object_at d h.stage)

-- what a document registered for entering a state
abbrev pub entering : ObjId → List ℕ → Heap → Option Listener
entering d name h = option_map (λ (s : RegisteredState). s.enter) (state_named name (states_at d h.stage))

-- View states: what is asked for, and the changes that follow.
use Rattle.std.specs.Prelude.{List, None, Option, Some, [], ℕ, ◌∷◌}
use Rattle.flex_base.specs.declared.outcome.Stop.TheVariants as stop
use Rattle.flex_base.specs.declared.value.ObjId.{ObjId}
use Rattle.flex_base.specs.declared.value.Value.{Value}
use Rattle.flex_base.specs.declared.value.Value.TheVariants as value
use Rattle.ui_runtime.specs.Documents.{kept_name, over, requests}
use Rattle.ui_runtime.specs.declared.states.Change.{Change as Requested}
use Rattle.ui_runtime.specs.declared.states.Change.TheVariants.{Begin}
use Rattle.avm2_meaning.specs.Effects.{Acted, in_place, nothing, opens}
use Rattle.avm2_meaning.specs.declared.effect.Effect.{Effect}
use Rattle.avm2_meaning.specs.declared.frame.Change.{Change}
use Rattle.avm2_meaning.specs.declared.frame.ChangeStep.{ChangeStep}
use Rattle.avm2_meaning.specs.declared.frame.ChangeStep.TheVariants as ChangeStep
use Rattle.avm2_meaning.specs.declared.frame.Native.{Native}
use Rattle.avm2_meaning.specs.declared.frame.Native.TheVariants as Native
use Rattle.avm2_meaning.specs.Heap.{on_stage}
use Rattle.avm2_meaning.specs.declared.heap.Heap.{Heap}
use Rattle.avm2_meaning.specs.Results.{Result, bind, mapped, on, staged, stops}

-- the state that a value names
abbrev pub state_asked : Value → Option (List ℕ)
state_asked (value.Text name) = Some name
state_asked _ = None

abbrev pub change_to : ObjId → List ℕ → List ChangeStep → Change
change_to document name steps = record { document = document; state = name; steps = steps }

abbrev pub all_steps : List ChangeStep
all_steps = ChangeStep.Leave ∷ ChangeStep.Store ∷ ChangeStep.Enter ∷ ChangeStep.Announce ∷ ChangeStep.End ∷ []

-- of the first state
abbrev pub first_steps : List ChangeStep
first_steps = ChangeStep.Store ∷ ChangeStep.Enter ∷ ChangeStep.End ∷ []

-- the change to a state begins, where one is to begin
abbrev pub changes_by : ObjId → List ℕ → Requested → Heap → Result Effect
changes_by document name Begin h = opens (Native.Changes (change_to document name all_steps)) h
changes_by document name _ h = nothing h

-- a state is asked for
abbrev pub request_state : ObjId → List ℕ → Heap → Result Effect
request_state document name h = bind (staged h (requests document name h.stage)) (λ change h1. changes_by document name change h1)

abbrev pub ask : ObjId → Option (List ℕ) → Heap → Result Effect
ask document None h = stops stop.UnknownState h
ask document (Some name) h = request_state document name h

-- a value is written to `currentState`
abbrev pub request : ObjId → Value → Heap → Result Effect
request document v h = on document h (λ _. ask document (state_asked v) h)

abbrev pub request_kept : ObjId → Option (List ℕ) → Heap → Result Effect
request_kept document None h = nothing h
request_kept document (Some name) h = request_state document name h

-- a change ends; the name that was kept is handled like a new write, whose change takes the place of this one
abbrev pub end_change : Change → Heap → Result (Acted Native)
end_change c h = mapped (in_place (Native.Changes c)) (request_kept c.document (kept_name c.document h.stage) (on_stage (over c.document) h))

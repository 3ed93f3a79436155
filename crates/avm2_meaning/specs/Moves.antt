-- The next move of a frame.
use Rattle.std.specs.Prelude.{List, Option, [], option_and_then, slice_get, suc, ℕ, ◌∷◌}
use Rattle.avm2_program.specs.declared.method.Body.{Body}
use Rattle.avm2_program.specs.declared.operation.Operation.{Operation}
use Rattle.avm2_program.specs.declared.file.Program.{Program}
use Rattle.component_catalog.specs.Events.{current_state_change}
use Rattle.flex_base.specs.declared.value.ObjId.{ObjId}
use Rattle.flex_base.specs.declared.value.Value.TheVariants as value
use Rattle.flex_objects.specs.Entities.{RegisteredState}
use Rattle.flex_world.specs.Objects.{Listener, Object, current_state, property, text_in}
use Rattle.stage_objects.specs.Documents.{state_named}
use Rattle.ui_runtime.specs.Documents.{states_at}
use Rattle.avm2_meaning.specs.Act.{act}
use Rattle.avm2_meaning.specs.Bindings.{start_on}
use Rattle.avm2_meaning.specs.Calls.{call_listener}
use Rattle.avm2_meaning.specs.Classes.{body_of}
use Rattle.avm2_meaning.specs.Dispatch.{announce, dispatch_on, send}
use Rattle.avm2_meaning.specs.Effects.{Acted, acted, closes, silent}
use Rattle.avm2_meaning.specs.declared.effect.Next.{Next}
use Rattle.avm2_meaning.specs.declared.effect.Next.TheVariants as Next
use Rattle.avm2_meaning.specs.Elements.{add_on, empty_on}
use Rattle.avm2_meaning.specs.declared.frame.Change.{Change}
use Rattle.avm2_meaning.specs.declared.frame.ChangeStep.{ChangeStep}
use Rattle.avm2_meaning.specs.declared.frame.ChangeStep.TheVariants as ChangeStep
use Rattle.avm2_meaning.specs.declared.frame.CodeFrame.{CodeFrame}
use Rattle.avm2_meaning.specs.declared.frame.Frame.{Frame}
use Rattle.avm2_meaning.specs.declared.frame.Frame.TheVariants as Frame
use Rattle.avm2_meaning.specs.declared.frame.Native.{Native}
use Rattle.avm2_meaning.specs.declared.frame.Native.TheVariants as Native
use Rattle.avm2_meaning.specs.declared.work.Work.{Work}
use Rattle.avm2_meaning.specs.declared.heap.Heap.{Heap}
use Rattle.avm2_meaning.specs.declared.operand.Operand.{Operand}
use Rattle.avm2_meaning.specs.declared.operand.Operand.TheVariants.{Plain}
use Rattle.avm2_meaning.specs.Results.{Goes, Result, bind, mapped, need, on}
use Rattle.avm2_meaning.specs.Script.{act_event, begin_line, default_on, write_and}
use Rattle.avm2_meaning.specs.States.{end_change}

-- where a branch leads, if it is taken; of another operation the number behind it
abbrev pub target_or : Operation → ℕ → ℕ
target_or (Operation.Jump target) behind = target
target_or (Operation.Branch condition target) behind = target
target_or _ behind = behind

-- where a body goes on
abbrev pub place_after : Operation → ℕ → Next → ℕ
place_after operation behind Next.Branches = target_or operation behind
place_after operation behind _ = behind

abbrev pub stands : CodeFrame → Operation → Acted Work → Acted CodeFrame
stands f operation a = acted a.effect (record f { place = place_after operation (suc f.place) a.effect.next; work = a.work })

abbrev pub as_code : Acted CodeFrame → Acted Frame
as_code a = acted a.effect (Frame.Code a.work)

abbrev pub as_native : Acted Native → Acted Frame
as_native a = acted a.effect (Frame.Does a.work)

module _ (p : Program) where
  -- the operation of a number in a method
  abbrev pub fetch : ℕ → ℕ → Option Operation
  fetch m place = option_and_then (λ (body : Body). slice_get body.code place) (body_of p m)

  -- the next instruction of a body
  abbrev pub execute : CodeFrame → Heap → Result (Acted CodeFrame)
  execute f h = need (fetch f.work.method f.place) h (λ operation. mapped (stands f operation) (act p operation f.work h))

  -- what a document registered for a state is called, and this remains
  abbrev pub call_of_state : (RegisteredState → Listener) → List Operand → List ℕ → ObjId → Native → Heap → Result (Acted Native)
  call_of_state which arguments name document rest h =
      need (state_named name (states_at document h.stage)) h (λ state.
      bind (call_listener p (which state) arguments h) (λ e h1.
      Goes (acted e rest) h1))

  abbrev pub leave_current : Change → Object → Native → Heap → Result (Acted Native)
  leave_current c d rest h =
      need (text_in (property d current_state)) h (λ now.
      call_of_state (λ (state : RegisteredState). state.leave) (Plain (value.Text c.state) ∷ []) now c.document rest h)

  -- a step of a change, after which this is what remains
  abbrev pub change_step : Change → ChangeStep → Object → Native → Heap → Result (Acted Native)
  change_step c ChangeStep.Leave d rest h = leave_current c d rest h
  change_step c ChangeStep.Store d rest h = write_and c.document current_state (value.Text c.state) rest h
  change_step c ChangeStep.Enter d rest h = call_of_state (λ (state : RegisteredState). state.enter) [] c.state c.document rest h
  change_step c ChangeStep.Announce d rest h =
      Goes (acted (silent (Next.Opens (Native.Announces current_state_change c.document))) rest) h
  change_step c ChangeStep.End d rest h = end_change c h

  abbrev pub change_with : Change → List ChangeStep → Heap → Result (Acted Native)
  change_with c [] h = closes (Native.Changes c) h
  change_with c (step ∷ steps) h = on c.document h (λ d. change_step c step d (Native.Changes (record c { steps = steps })) h)

  -- the next move of native work; the main object is known once a line of the script acts
  abbrev pub go_on : Option ObjId → Native → Heap → Result (Acted Native)
  go_on main (Native.Dispatches d) h = dispatch_on p d h
  go_on main (Native.Starts b) h = start_on p b h
  go_on main (Native.Changes c) h = change_with c c.steps h
  go_on main (Native.Adds a) h = add_on a h
  go_on main (Native.Empties container children) h = empty_on container children h
  go_on main (Native.Announces event target) h = announce p event target h
  go_on main (Native.Sends event target) h = send p event target h
  go_on main (Native.Defaults target event) h = default_on p target event h
  go_on main (Native.Begins event) h = begin_line event h
  go_on main (Native.Acts event) h = need main h (λ o. act_event p o event h)

  abbrev pub moves : Option ObjId → Frame → Heap → Result (Acted Frame)
  moves main (Frame.Code f) h = mapped as_code (execute f h)
  moves main (Frame.Does n) h = mapped as_native (go_on main n h)

-- The dispatch of an event: its path, and the listeners that hear it.
use Rattle.std.specs.Prelude.{Bool, List, Some, [], codes, false, not, ℕ, ◌||◌, ◌∷◌}
use Rattle.avm2_program.specs.declared.file.Program.{Program}
use Rattle.component_catalog.specs.Events.{Event}
use Rattle.flex_base.specs.Events.{arrival, phase_number}
use Rattle.flex_base.specs.declared.event.Arrival.{Arrival}
use Rattle.flex_base.specs.declared.event.Phase.TheVariants as phase
use Rattle.flex_base.specs.declared.record.TraceItem.TheVariants as trace
use Rattle.flex_base.specs.declared.value.ObjId.{ObjId}
use Rattle.flex_base.specs.declared.value.Value.TheVariants as value
use Rattle.flex_world.specs.Events.{event_path, hearers, is_registered}
use Rattle.flex_world.specs.Objects.{Delivery, Listener, Object, ancestors_of, is_true, property, text_in}
use Rattle.ui_runtime.specs.Events.{at_node, ended, started}
use Rattle.ui_runtime.specs.Stage.{objects}
use Rattle.ui_runtime.specs.Tree.{path}
use Rattle.avm2_meaning.specs.Calls.{call_of, prepare}
use Rattle.avm2_meaning.specs.Effects.{Acted, acted, closes, effect, goes_on, recorded, silent}
use Rattle.avm2_meaning.specs.declared.effect.Effect.{Effect}
use Rattle.avm2_meaning.specs.declared.effect.Next.{Next}
use Rattle.avm2_meaning.specs.declared.effect.Next.TheVariants as Next
use Rattle.avm2_meaning.specs.Frames.{keeps}
use Rattle.avm2_meaning.specs.declared.frame.Dispatch.{Dispatch}
use Rattle.avm2_meaning.specs.declared.frame.Native.{Native}
use Rattle.avm2_meaning.specs.declared.frame.Native.TheVariants as Native
use Rattle.avm2_meaning.specs.Heap.{on_stage}
use Rattle.avm2_meaning.specs.declared.heap.Heap.{Heap}
use Rattle.avm2_meaning.specs.Making.{make_event}
use Rattle.avm2_meaning.specs.Operands.{ref}
use Rattle.avm2_meaning.specs.declared.operand.Operand.{Operand}
use Rattle.avm2_meaning.specs.declared.operand.Operand.TheVariants.{Plain}
use Rattle.avm2_meaning.specs.Results.{Goes, Result, bind, choose, mapped, need, on}

abbrev pub new_dispatch : ObjId → ObjId → List ℕ → List Arrival → Bool → Dispatch
new_dispatch e target kind path keeps = record { event = e; kind = kind; at = arrival phase.Target target; listeners = []; arrivals = path; keeps = keeps }

-- the dispatch of an event of a type at a target, along a path that is fixed
abbrev pub dispatch_at : ObjId → ObjId → Bool → Object → List ℕ → Heap → Dispatch
dispatch_at target e keeps event kind h =
    new_dispatch e target kind (event_path target (ancestors_of (objects h.stage) target) (is_true (property event (codes "bubbles")))) keeps

-- a dispatch begins: this is what remains of it, with its record
abbrev pub begin_dispatch : ObjId → ObjId → Bool → Heap → Result (Acted Dispatch)
begin_dispatch target e keeps h =
    on e h (λ event.
    need (text_in (property event (codes "type"))) h (λ kind.
    Goes (acted (recorded (trace.Sent target kind)) (dispatch_at target e keeps event kind h)) (on_stage (started e target) h)))

-- a dispatch is over; its answer is whether the default was left
abbrev pub end_dispatch : Dispatch → Bool → Heap → Result (Acted Native)
end_dispatch d prevented h =
    Goes (acted (silent (Next.Close (Some (Plain (value.Bool (not prevented)))))) (Native.Dispatches d)) (on_stage (ended d.event) h)

-- the event arrives at a node, whose listeners are taken now
abbrev pub arrive : Dispatch → Arrival → List Arrival → Heap → Result (Acted Native)
arrive d a rest h =
    on a.node h (λ node.
    goes_on (Native.Dispatches (record d { at = a; arrivals = rest; listeners = hearers d.kind a.phase node.listeners }))
    (on_stage (at_node d.event a.node (phase_number a.phase)) h))

abbrev pub with_hearers : Dispatch → List Listener → Native
with_hearers d listeners = Native.Dispatches (record d { listeners = listeners })

module _ (p : Program) where
  -- a listener hears the event once it has started
  abbrev pub hearing_call : Dispatch → Listener → List Operand → Effect
  hearing_call d l arguments =
      effect (Next.Hears (call_of l.method (ref l.object) arguments false)) (Some (trace.Heard d.at.node d.kind (phase_number d.at.phase)))

  -- a listener is called with the event, which is converted to the class of its parameter before
  abbrev pub hear : Dispatch → Listener → List Listener → Heap → Result (Acted Native)
  hear d l rest h =
      bind (prepare p l.method (ref d.event ∷ []) h) (λ arguments h1. Goes (acted (hearing_call d l arguments) (with_hearers d rest)) h1)

  -- what remains at the node, and then the nodes that follow
  abbrev pub deliver : Dispatch → Delivery → List Listener → List Arrival → Heap → Result (Acted Native)
  deliver d event (l ∷ rest) nodes h = choose event.stopped_at_once (end_dispatch d event.prevented) (hear d l rest) h
  deliver d event [] (a ∷ rest) h = choose (event.stopped || event.stopped_at_once) (end_dispatch d event.prevented) (arrive d a rest) h
  deliver d event [] [] h = end_dispatch d event.prevented h

  -- the next move of a dispatch
  abbrev pub dispatch_on : Dispatch → Heap → Result (Acted Native)
  dispatch_on d h = on d.event h (λ event. deliver d event.delivery d.listeners d.arrivals h)

  abbrev pub as_dispatch : Acted Dispatch → Acted Native
  as_dispatch a = acted a.effect (Native.Dispatches a.work)

  -- makes an event of the catalog, and dispatches it
  abbrev pub send : Event → ObjId → Heap → Result (Acted Native)
  send event target h = bind (make_event p event h) (λ e h1. mapped as_dispatch (begin_dispatch target e false h1))

  -- sends an event where the target itself has a listener of its type
  abbrev pub announce : Event → ObjId → Heap → Result (Acted Native)
  announce event target h =
      on target h (λ node. choose (is_registered event.name node) (send event target) (closes (Native.Announces event target)) h)

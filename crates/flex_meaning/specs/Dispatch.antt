-- The dispatch of an event: its path, and the listeners that hear it.
use Rattle.std.specs.Prelude.{Bool, List, [], codes, not, slice_get, ℕ, ◌||◌, ◌∷◌}
use Rattle.flex_base.specs.Events.{phase_number}
use Rattle.flex_base.specs.declared.event.Arrival.{Arrival}
use Rattle.flex_base.specs.declared.record.TraceItem.TheVariants.{Sent}
use Rattle.flex_base.specs.declared.value.ObjId.{ObjId}
use Rattle.flex_base.specs.declared.value.Value.{Value}
use Rattle.flex_base.specs.declared.value.Value.TheVariants as value
use Rattle.component_catalog.specs.Events.{Event}
use Rattle.flex_world.specs.declared.kind.Class.TheVariants as Class
use Rattle.flex_world.specs.Events.{closed_delivery, event_path, hearers, is_registered, opened_delivery}
use Rattle.flex_world.specs.Objects.{Listener, Object, ancestors_of, count, is_true, property, text_in}
use Rattle.flex_meaning.specs.Activities.{Context, Hears, carry_out}
use Rattle.flex_meaning.specs.Conversions.{method_arguments}
use Rattle.flex_meaning.specs.Objects.{allocate}
use Rattle.flex_meaning.specs.Results.{Goes, Result, bind, choose, done, dropped, each, need, on}
use Rattle.flex_meaning.specs.World.{World, change_delivery, note, set_field}

abbrev pub set_event : ObjId → Value → Value → Value → World → World
set_event e kind bubbles cancelable w = set_field e (codes "cancelable") cancelable (set_field e (codes "bubbles") bubbles (set_field e (codes "type") kind w))

-- the node that the event has come to, and the number of its phase
abbrev pub set_arrival : ObjId → Value → ℕ → World → World
set_arrival e node phase w = set_field e (codes "eventPhase") (count phase) (set_field e (codes "currentTarget") node w)

abbrev pub open_dispatch : ObjId → ObjId → Bool → World → World
open_dispatch target e cancelable w = set_field e (codes "target") (value.Ref target) (change_delivery e (opened_delivery cancelable) w)

abbrev pub close_dispatch : ObjId → World → World
close_dispatch e w = set_arrival e value.Null 0 (change_delivery e closed_delivery w)

module _ (c : Context) where
  -- a listener hears the event, converted to the class of its parameter
  abbrev pub hear : List ℕ → ObjId → Arrival → Listener → World → Result (Unit {0})
  hear kind e a l w =
      need (slice_get c.program.methods l.method) w (λ m.
      bind (method_arguments c.program m (value.Ref e ∷ []) w) (λ arguments w1.
      carry_out c (Hears a kind l arguments) w1))

  abbrev pub hear_unless_stopped : List ℕ → ObjId → Arrival → Listener → World → Result (Unit {0})
  hear_unless_stopped kind e a l w = on e w (λ event. choose event.delivery.stopped_at_once done (hear kind e a l) w)

  -- the event arrives at a node, whose listeners are taken now
  abbrev pub arrive : List ℕ → ObjId → Arrival → World → Result (Unit {0})
  arrive kind e a w = on a.node w (λ node. each (hear_unless_stopped kind e a) (hearers kind a.phase node.listeners) (set_arrival e (value.Ref a.node) (phase_number a.phase) w))

  abbrev pub arrive_unless_stopped : List ℕ → ObjId → Arrival → World → Result (Unit {0})
  arrive_unless_stopped kind e a w = on e w (λ event. choose (event.delivery.stopped || event.delivery.stopped_at_once) done (arrive kind e a) w)

  -- the event comes along a path that is fixed
  abbrev pub deliver : List ℕ → ObjId → ObjId → Object → World → Result (Unit {0})
  deliver kind target e event w =
      each (arrive_unless_stopped kind e) (event_path target (ancestors_of w.objects target) (is_true (property event (codes "bubbles"))))
      (note (Sent target kind) (open_dispatch target e (is_true (property event (codes "cancelable"))) w))

  -- dispatches an event at a target; it gives whether the default was left
  abbrev pub dispatch : ObjId → ObjId → World → Result Bool
  dispatch target e w =
      on e w (λ event.
      need (text_in (property event (codes "type"))) w (λ kind.
      bind (deliver kind target e event w) (λ _ w1.
      on e w1 (λ over. Goes (not over.delivery.prevented) (close_dispatch e w1)))))

  -- makes an event of the catalog, and dispatches it
  abbrev pub send : Event → ObjId → World → Result Bool
  send event target w =
      bind (allocate c.program (Class.Native event.row.class) w) (λ e w1.
      dispatch target e (set_event e (value.Text event.name) (value.Bool event.row.bubbles) (value.Bool event.row.cancelable) w1))

  -- sends an event where the target itself has a listener of its type
  abbrev pub announce : Event → ObjId → World → Result (Unit {0})
  announce event target w = on target w (λ node. choose (is_registered event.name node) (λ w1. dropped (send event target w1)) done w)

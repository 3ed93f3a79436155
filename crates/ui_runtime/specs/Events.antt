-- Events and their listeners.
use Rattle.std.specs.Option.{option_map_or}
use Rattle.std.specs.Prelude.{Bool, List, Option, false, ℕ, ℤ}
use Rattle.flex_base.specs.declared.value.ObjId.{ObjId}
use Rattle.flex_base.specs.declared.value.Value.TheVariants as value
use Rattle.event_flow.specs.Hearing.{addition, heard_at, removal, with_listener, without_listener}
use Rattle.event_flow.specs.declared.listeners.Addition.{Addition}
use Rattle.event_flow.specs.declared.listeners.Removal.{Removal}
use Rattle.flex_world.specs.Events.{is_heard, prevented_now}
use Rattle.flex_world.specs.Objects.{Delivery}
use Rattle.stage_objects.specs.Events.{arrived, closed, delivery_in, dispatched_in, initialised, started_in, with_delivery, with_listeners}
use Rattle.ui_runtime.specs.Stage.{Stage, change, listeners_at}

-- its type, and whether it bubbles and can be cancelled
abbrev pub initialises : ObjId → List ℕ → Bool → Bool → Stage → Stage
initialises e kind bubbles cancelable s = change e (initialised kind bubbles cancelable) s

-- how far its dispatch has come
abbrev pub delivery_at : ObjId → Stage → Option Delivery
delivery_at e s = delivery_in e s.entities

abbrev pub was_dispatched : ObjId → Stage → Bool
was_dispatched e s = dispatched_in e s.entities

-- whether its default was prevented
abbrev pub was_prevented : ObjId → Stage → Bool
was_prevented e s = option_map_or prevented_now (delivery_at e s) false

-- its dispatch at a target begins, unless it was dispatched before
abbrev pub started : ObjId → ObjId → Stage → Stage
started e target s = record s { entities = started_in e target s.entities }

-- it has come to a node, in a phase
abbrev pub at_node : ObjId → ObjId → ℕ → Stage → Stage
at_node e node phase s = change e (arrived (value.Ref node) phase) s

-- its dispatch is over
abbrev pub ended : ObjId → Stage → Stage
ended e s = change e closed s

-- what an event's marks become: it is stopped, stopped at once, or prevented
abbrev pub marked : (Delivery → Delivery) → ObjId → Stage → Stage
marked f e s = change e (with_delivery f) s

-- a listener is registered at a node
abbrev pub listens : ObjId → List ℕ → ObjId × ℕ → Bool → ℤ → Stage → Addition × Stage
listens node kind l capture priority s =
    (addition kind l capture (listeners_at node s), change node (with_listeners (with_listener kind l capture priority)) s)

-- and removed
abbrev pub removed : ObjId → List ℕ → ObjId × ℕ → Bool → Stage → Removal
removed node kind l capture s = removal kind l capture (listeners_at node s)

abbrev pub unlistens : ObjId → List ℕ → ObjId × ℕ → Bool → Stage → Stage
unlistens node kind l capture s = change node (with_listeners (without_listener kind l capture)) s

-- those of a node that hear an event of this type in the phase of a number
abbrev pub hearers_of : ObjId → List ℕ → ℕ → Stage → List (ObjId × ℕ)
hearers_of node kind phase s = heard_at kind phase (listeners_at node s)

-- whether a node has a listener for events of this type
abbrev pub has_listener : ObjId → List ℕ → Stage → Bool
has_listener node kind s = is_heard kind (listeners_at node s)

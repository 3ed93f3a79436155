-- The dispatch of an event along its path.
use Rattle.std.specs.Prelude.{Bool, List, [], drop, false, if◌then◌else◌, map, true, ℕ, ◌++◌, ◌∷◌}
use Rattle.flex_base.specs.Events.{phase_number}
use Rattle.flex_base.specs.declared.event.Arrival.{Arrival}
use Rattle.flex_base.specs.declared.value.ObjId.{ObjId}
use Rattle.flex_world.specs.Events.{closed_delivery, event_path, opened_delivery}
use Rattle.flex_world.specs.Making.{undelivered}
use Rattle.flex_world.specs.Objects.{Delivery}
use Rattle.event_flow.specs.declared.flow.FlowMove.{FlowMove}
use Rattle.event_flow.specs.declared.flow.FlowMove.TheVariants.{Arrive, Call, Done}

-- what remains of a dispatch
pub record Dispatch : Type 0 where
  -- the listeners of the node where the event is, which are still to be called
  pub listeners : List (ObjId × ℕ)
  -- where the event is still to arrive
  pub arrivals : List Arrival
  -- its last move was an arrival, so listeners can be supplied
  pub is_arriving : Bool
  pub delivery : Delivery

-- where an event arrives that goes along a path, of which the target is the first
abbrev pub dispatch_path : List ObjId → Bool → List Arrival
dispatch_path [] bubbles = []
dispatch_path (target ∷ outer) bubbles = event_path target outer bubbles

-- a dispatch of which there was no move yet
abbrev pub begun : List ObjId → Bool → Bool → Dispatch
begun path bubbles cancelable = record {
  listeners = [];
  arrivals = dispatch_path path bubbles;
  is_arriving = false;
  delivery = opened_delivery cancelable undelivered;
}

abbrev pub arrive : Arrival → FlowMove
arrive a = Arrive a.node (phase_number a.phase)

abbrev pub call : ObjId × ℕ → FlowMove
call l = Call l.0 l.1

-- the moves that are to come, as far as they are known: the calls at the node, unless the event was stopped at once, and the arrivals at further nodes, unless it was stopped
abbrev pub moves_to_come : Dispatch → List FlowMove
moves_to_come d =
    if d.delivery.stopped_at_once then []
    else map call d.listeners ++ (if d.delivery.stopped then [] else map arrive d.arrivals)

abbrev pub first_move : List FlowMove → FlowMove
first_move [] = Done
first_move (m ∷ moves) = m

abbrev pub next_move : Dispatch → FlowMove
next_move d = first_move (moves_to_come d)

-- what remains after a move
abbrev pub moved : FlowMove → Dispatch → Dispatch
moved (Arrive o phase) d = record d { listeners = []; arrivals = drop 1 d.arrivals; is_arriving = true }
moved (Call o m) d = record d { listeners = drop 1 d.listeners; is_arriving = false }
moved Done d = record d { is_arriving = false; delivery = closed_delivery d.delivery }

-- the listeners of the node where the event has arrived
abbrev pub with_listeners : List (ObjId × ℕ) → Dispatch → Dispatch
with_listeners listeners d = record d { listeners = listeners }

abbrev pub with_delivery : (Delivery → Delivery) → Dispatch → Dispatch
with_delivery f d = record d { delivery = f d.delivery }

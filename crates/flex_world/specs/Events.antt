-- The dispatch of an event: where it arrives, who hears it, and how far it has come.
use Rattle.std.specs.List.{filter, fold, list_any}
use Rattle.std.specs.Prelude.{Bool, List, [], false, if◌then◌else◌, int_lt, map, nat_lt, not, true, ℕ, ℤ, ◌&&◌, ◌++◌, ◌==◌, ◌||◌, ◌∷◌}
use Rattle.std.specs.Str.{bytes_eq}
use Rattle.flex_base.specs.Events.{arrivals, phase_number}
use Rattle.flex_base.specs.Value.{is_object}
use Rattle.flex_base.specs.declared.event.Arrival.{Arrival}
use Rattle.flex_base.specs.declared.event.Phase.{Phase}
use Rattle.flex_base.specs.declared.event.Phase.TheVariants as phase
use Rattle.flex_base.specs.declared.value.ObjId.{ObjId}
use Rattle.flex_world.specs.Objects.{Delivery, Listener, Object, Registration}

abbrev pub is_before_bubbling : Arrival → Bool
is_before_bubbling a = nat_lt (phase_number a.phase) (phase_number phase.Bubble)

-- where an event arrives, one after another: not in the last phase where it doesn't bubble
abbrev pub event_path : ObjId → List ObjId → Bool → List Arrival
event_path target outer bubbles = filter (λ a. bubbles || is_before_bubbling a) (arrivals target outer)

-- a registration is told apart by the type, the listener and the phase
abbrev pub same_registration : List ℕ → ObjId → ℕ → Bool → Registration → Bool
same_registration kind o m capture r = bytes_eq r.event kind && is_object r.object o && (r.method == m) && (if capture then r.capture else not r.capture)

abbrev pub registration : List ℕ → ObjId → ℕ → Bool → ℤ → Registration
registration event o m capture priority = record { event = event; object = o; method = m; capture = capture; priority = priority }

abbrev pub is_registered_already : List ℕ → ObjId → ℕ → Bool → List Registration → Bool
is_registered_already kind o m capture listeners = list_any (same_registration kind o m capture) listeners

-- a second registration changes nothing, its priority included
abbrev pub with_registration : Registration → List Registration → List Registration
with_registration r listeners = if is_registered_already r.event r.object r.method r.capture listeners then listeners else listeners ++ r ∷ []

abbrev pub without_registration : List ℕ → ObjId → ℕ → Bool → List Registration → List Registration
without_registration kind o m capture listeners = filter (λ r. not (same_registration kind o m capture r)) listeners

-- a registration for the first phase is heard in that alone, any other in the others
abbrev pub fits_phase : Phase → Bool → Bool
fits_phase phase.Capture capture = capture
fits_phase phase.Target capture = not capture
fits_phase phase.Bubble capture = not capture

-- behind those of a priority as high or higher
abbrev pub insert_by_priority : List Registration → Registration → List Registration
insert_by_priority [] r = r ∷ []
insert_by_priority (first ∷ others) r = if int_lt first.priority r.priority then r ∷ first ∷ others else first ∷ insert_by_priority others r

abbrev pub listener_of : Registration → Listener
listener_of r = record { object = r.object; method = r.method }

-- the listeners that hear an event of this type in a phase: from high priority to low, equal ones in order of registration
abbrev pub hearers : List ℕ → Phase → List Registration → List Listener
hearers kind phase listeners = map listener_of (fold insert_by_priority [] (filter (λ r. bytes_eq r.event kind && fits_phase phase r.capture) listeners))

-- whether a listener is among these for events of a type, whatever its phase
abbrev pub is_heard : List ℕ → List Registration → Bool
is_heard kind listeners = list_any (λ r. bytes_eq r.event kind) listeners

-- whether a node has a listener for events of a type
abbrev pub is_registered : List ℕ → Object → Bool
is_registered kind node = is_heard kind node.listeners

-- a dispatch begins, of an event that can be cancelled or not
abbrev pub opened_delivery : Bool → Delivery → Delivery
opened_delivery cancelable d = record d { dispatched = true; is_open = true; cancelable = cancelable }

-- the dispatch is over
abbrev pub closed_delivery : Delivery → Delivery
closed_delivery d = record d { is_open = false; answer = d.prevented }

-- stopping and preventing change nothing before and after the dispatch
abbrev pub while_open : (Delivery → Delivery) → Delivery → Delivery
while_open f d = if d.is_open then f d else d

-- the event comes to no further node
abbrev pub stopped_delivery : Delivery → Delivery
stopped_delivery d = record d { stopped = true }

-- the event is heard by no further listener
abbrev pub delivery_stopped_at_once : Delivery → Delivery
delivery_stopped_at_once d = record d { stopped_at_once = true }

-- the default is prevented, where the event can be cancelled
abbrev pub prevented_delivery : Delivery → Delivery
prevented_delivery d = record d { prevented = d.prevented || d.cancelable }

-- whether the default was prevented, or is by the end of the dispatch
abbrev pub prevented_now : Delivery → Bool
prevented_now d = if d.is_open then d.prevented else d.answer

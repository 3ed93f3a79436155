-- What the calls on the listeners of a node answer.
use Rattle.std.specs.Prelude.{Bool, List, None, Option, Some, [], false, if◌then◌else◌, ℕ, ◌==◌, map, ℤ}
use Rattle.flex_base.specs.Events.{phase_number}
use Rattle.flex_base.specs.declared.event.Phase.{Phase}
use Rattle.flex_base.specs.declared.event.Phase.TheVariants as phase
use Rattle.flex_base.specs.declared.value.ObjId.{ObjId}
use Rattle.flex_world.specs.Events.{fits_phase, hearers, is_registered_already, registration, with_registration, without_registration}
use Rattle.flex_world.specs.Objects.{Listener, Registration}
use Rattle.event_flow.specs.declared.listeners.Addition.{Addition}
use Rattle.event_flow.specs.declared.listeners.Addition.TheVariants as answer
use Rattle.event_flow.specs.declared.listeners.Removal.{Removal}
use Rattle.event_flow.specs.declared.listeners.Removal.TheVariants as removed

-- the registrations with one of a listener, an object and the number of its method
abbrev pub with_listener : List ℕ → ObjId × ℕ → Bool → ℤ → List Registration → List Registration
with_listener kind l capture priority rs = with_registration (registration kind l.0 l.1 capture priority) rs

-- without that of a listener
abbrev pub without_listener : List ℕ → ObjId × ℕ → Bool → List Registration → List Registration
without_listener kind l capture rs = without_registration kind l.0 l.1 capture rs

abbrev pub has_listener : List ℕ → ObjId × ℕ → Bool → List Registration → Bool
has_listener kind l capture rs = is_registered_already kind l.0 l.1 capture rs

-- what adding a listener and removing it answer, by whether it is there
abbrev pub addition : List ℕ → ObjId × ℕ → Bool → List Registration → Addition
addition kind l capture rs = if has_listener kind l capture rs then answer.Kept else answer.New

abbrev pub removal : List ℕ → ObjId × ℕ → Bool → List Registration → Removal
removal kind l capture rs = if has_listener kind l capture rs then removed.Gone else removed.Absent

abbrev pub phase_if : ℕ → Phase → Option Phase → Option Phase
phase_if n p other = if phase_number p == n then Some p else other

-- the phase of a number
abbrev pub phase_of : ℕ → Option Phase
phase_of n = phase_if n phase.Capture (phase_if n phase.Target (phase_if n phase.Bubble None))

abbrev pub fits : Option Phase → Bool → Bool
fits None capture = false
fits (Some p) capture = fits_phase p capture

abbrev pub hearers_in : List ℕ → Option Phase → List Registration → List Listener
hearers_in kind None listeners = []
hearers_in kind (Some p) listeners = hearers kind p listeners

-- the listeners that hear an event of this type in the phase of a number
abbrev pub hearers_at : List ℕ → ℕ → List Registration → List Listener
hearers_at kind n listeners = hearers_in kind (phase_of n) listeners

-- a listener as the list of a node has it
abbrev pub listener_pair : Listener → ObjId × ℕ
listener_pair l = (l.object, l.method)

abbrev pub heard_at : List ℕ → ℕ → List Registration → List (ObjId × ℕ)
heard_at kind n listeners = map listener_pair (hearers_at kind n listeners)

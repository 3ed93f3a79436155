-- What each move of native work comes to: it takes a turn, closes, or lowers what is left of it.
use Rattle.std.proofs.Common.{◌≡◌, refl, ap, ℕ, ◌+◌, ◌<◌, ◌≤◌, ◌⊎◌, inl, inr, List, [], ◌∷◌, length, map, Bool, true, false, Option, Some, None, arith, codes, not, ◌&&◌, ◌||◌}
use Rattle.std.specs.Prelude.{if◌then◌else◌}
use Rattle.component_catalog.specs.Events.{Event, change, click, creation_complete}
use Rattle.flex_base.specs.declared.event.Arrival.{Arrival}
use Rattle.flex_base.specs.declared.event.UserEvent.{UserEvent}
use Rattle.flex_base.specs.declared.event.UserEvent.TheVariants as user
use Rattle.flex_base.specs.declared.outcome.MachineFault.{MachineFault}
use Rattle.flex_base.specs.declared.outcome.MachineFault.TheVariants as fault
use Rattle.flex_base.specs.declared.record.TraceItem.{TraceItem}
use Rattle.flex_base.specs.declared.value.ObjId.{ObjId}
use Rattle.flex_base.specs.declared.value.Value.{Value}
use Rattle.flex_base.specs.declared.value.Value.TheVariants as value
use Rattle.flex_objects.specs.Entities.{EnabledBinding, RegisteredState}
use Rattle.flex_world.specs.Events.{is_registered}
use Rattle.flex_world.specs.Objects.{Delivery, Keeping, Listener, Object, Watcher, current_state, field_named, property, text_in}
use Rattle.stage_objects.specs.Documents.{binding_numbered, state_named}
use Rattle.ui_runtime.specs.Documents.{kept_name, over, requests, states_at}
use Rattle.ui_runtime.specs.Properties.{writes}
use Rattle.ui_runtime.specs.declared.states.Change.{Change as Requested}
use Rattle.ui_runtime.specs.declared.states.Change.TheVariants.{Begin, Kept, Nothing}
use Rattle.ui_runtime.specs.declared.writing.Written.{Written}
use Rattle.ui_runtime.specs.declared.writing.Written.TheVariants.{Changed, Equal, Silent}
use Rattle.ui_runtime.specs.Stage.{inside_at, object_at}
use Rattle.avm2_program.specs.declared.file.Program.{Program}
use Rattle.avm2_meaning.specs.Bindings.{is_busy, run_if_free, run_one, start_next, start_with, starting}
use Rattle.avm2_meaning.specs.Calls.{call_listener, call_method, call_of, prepare}
use Rattle.avm2_meaning.specs.Classes.{is_component_object}
use Rattle.avm2_meaning.specs.Dispatch.{announce, arrive, as_dispatch, begin_dispatch, deliver, dispatch_on, end_dispatch, hear, send}
use Rattle.avm2_meaning.specs.Effects.{Acted, acted, closes, effect, goes_on, in_place, in_place_by, recorded}
use Rattle.avm2_meaning.specs.declared.effect.Call.{Call}
use Rattle.avm2_meaning.specs.declared.effect.Effect.{Effect}
use Rattle.avm2_meaning.specs.declared.effect.Next.{Next}
use Rattle.avm2_meaning.specs.declared.effect.Next.TheVariants as Next
use Rattle.avm2_meaning.specs.Elements.{added_item, empty_on, tell_from}
use Rattle.avm2_meaning.specs.declared.frame.Adding.{Adding}
use Rattle.avm2_meaning.specs.declared.frame.Change.{Change}
use Rattle.avm2_meaning.specs.declared.frame.ChangeStep.{ChangeStep}
use Rattle.avm2_meaning.specs.declared.frame.ChangeStep.TheVariants as ChangeStep
use Rattle.avm2_meaning.specs.declared.frame.Dispatch.{Dispatch}
use Rattle.avm2_meaning.specs.declared.frame.Native.{Native}
use Rattle.avm2_meaning.specs.declared.frame.Native.TheVariants as Native
use Rattle.avm2_meaning.specs.Heap.{on_stage}
use Rattle.avm2_meaning.specs.declared.heap.Heap.{Heap}
use Rattle.avm2_meaning.specs.Making.{make_event}
use Rattle.avm2_meaning.specs.Moves.{call_of_state, change_step, change_with, go_on}
use Rattle.avm2_meaning.specs.Operands.{ref}
use Rattle.avm2_meaning.specs.declared.operand.Operand.{Operand}
use Rattle.avm2_meaning.specs.declared.operand.Operand.TheVariants.{Plain}
use Rattle.avm2_meaning.specs.Properties.{starting_all, stored_as, watcher_of, written_item}
use Rattle.avm2_meaning.specs.Results.{Goes, Halts, Result, bind, choose, mapped, need, or_fault, staged, test}
use Rattle.avm2_meaning.specs.Script.{act_event, click_on, default_on, has_flag, miss, reached, request_of, takes_text, toggle, toggles, type_at_path, with_default, write_and}
use Rattle.avm2_meaning.specs.States.{ask, changes_by, request, request_kept, request_state, state_asked}
use Rattle.avm2_meaning.proofs.Left.{one_if, parts_of, rank_of}

-- less is left of native work
abbrev pub Less : Native → Native → Type 0
Less n n1 = (rank_of n1 < rank_of n) ⊎ ((rank_of n1 ≤ rank_of n) × (parts_of n1 < parts_of n))

-- what an effect owes, which leaves this work
abbrev pub Owes : Native → Next → Native → Type 0
Owes n Next.On n1 = Less n n1
Owes n Next.Branches n1 = Less n n1
Owes n (Next.Opens m) n1 = rank_of n1 + rank_of m < rank_of n
Owes n _ n1 = Unit {0}

-- something holds of the value, where the play goes on
abbrev pub HoldsIn : {A : Type 0} → (A → Type 0) → Result A → Type 0
HoldsIn P (Goes v h) = P v
HoldsIn P (Halts o) = Unit {0}

pub record Holds {A : Type 0} (P : A → Type 0) (r : Result A) : Type 0 where
  pub holds : HoldsIn P r

module _ {A : Type 0} (P : A → Type 0) where
  pub holds_bind : {B : Type 0} (r : Result B) (f : B → Heap → Result A) → ((v : B) (h : Heap) → Holds P (f v h)) → Holds P (bind r f)
  holds_bind (Goes v h) f k = k v h
  holds_bind (Halts o) f k = record { holds = tt }

  -- something is known of the first
  holds_then : {B : Type 0} (Q : B → Type 0) (r : Result B) (f : B → Heap → Result A) → Holds Q r → ((v : B) (h : Heap) → Q v → Holds P (f v h)) → Holds P (bind r f)
  holds_then Q (Goes v h) f q k = k v h q.holds
  holds_then Q (Halts o) f q k = record { holds = tt }

  pub holds_need : {B : Type 0} (o : Option B) (h : Heap) (f : B → Result A) → ((v : B) → Holds P (f v)) → Holds P (need o h f)
  holds_need (Some v) h f k = k v
  holds_need None h f k = record { holds = tt }

  holds_or_fault : {B : Type 0} (fault : MachineFault) (o : Option B) (h : Heap) (f : B → Result A) → ((v : B) → Holds P (f v)) → Holds P (or_fault fault o h f)
  holds_or_fault fault (Some v) h f k = k v
  holds_or_fault fault None h f k = record { holds = tt }

  holds_choose : (b : Bool) (first second : Heap → Result A) (h : Heap) → Holds P (first h) → Holds P (second h) → Holds P (choose b first second h)
  holds_choose true first second h k l = k
  holds_choose false first second h k l = l

  holds_mapped : {B : Type 0} (Q : B → Type 0) (f : B → A) (r : Result B) → Holds Q r → ((v : B) → Q v → P (f v)) → Holds P (mapped f r)
  holds_mapped Q f (Goes v h) q k = record { holds = k v q.holds }
  holds_mapped Q f (Halts o) q k = record { holds = tt }

-- what a move of native work owes
abbrev pub OwedBy : Native → Acted Native → Type 0
OwedBy n a = Owes n a.effect.next a.work

-- a call takes a turn
abbrev pub IsCall : Effect → Type 0
IsCall e = (c : Call) × (e.next ≡ Next.Calls c)

-- it goes on, or opens bindings
abbrev pub StartsAtMostIn : Next → Type 0
StartsAtMostIn Next.On = Unit {0}
StartsAtMostIn (Next.Opens n) = rank_of n ≡ 0
StartsAtMostIn _ = ⊥

abbrev pub StartsAtMost : Effect → Type 0
StartsAtMost e = StartsAtMostIn e.next

-- it goes on, or opens a change that leaves its state first
abbrev pub ChangesAtMostIn : Next → Type 0
ChangesAtMostIn (Next.Opens n) = rank_of n ≡ 1
ChangesAtMostIn _ = Unit {0}

abbrev pub ChangesAtMost : Effect → Type 0
ChangesAtMost e = ChangesAtMostIn e.next

abbrev pub GoesOn : Acted Dispatch → Type 0
GoesOn a = a.effect.next ≡ Next.On

owed_call : (n n1 : Native) (e : Effect) → IsCall e → OwedBy n (acted e n1)
owed_call n n1 e (c, is) = by e.next is
  where
    by : (next : Next) → next ≡ Next.Calls c → Owes n next n1
    by (Next.Calls d) f = tt
    by Next.On f = absurd cc
    by Next.Branches f = absurd cc
    by Next.Turn f = tt
    by (Next.Close r) f = tt
    by (Next.Hears d) f = tt
    by (Next.Initialises k d) f = tt
    by (Next.Opens m) f = absurd cc

owed_starts : (n n1 : Native) (e : Effect) → rank_of n1 < rank_of n → StartsAtMost e → OwedBy n (acted e n1)
owed_starts n n1 e lt s = by e.next s
  where
    by : (next : Next) → StartsAtMostIn next → Owes n next n1
    by Next.On f = inl lt
    by (Next.Opens m) f = omega (arith, f, lt)
    by (Next.Calls d) f = tt
    by Next.Branches f = absurd f
    by Next.Turn f = tt
    by (Next.Close r) f = tt
    by (Next.Hears d) f = tt
    by (Next.Initialises k d) f = tt

owed_in_place : (n n1 : Native) (e : Effect) → 1 < rank_of n → ChangesAtMost e → OwedBy n (in_place n1 e)
owed_in_place n n1 e lt s = by e.next s
  where
    by : (next : Next) → ChangesAtMostIn next → OwedBy n (in_place_by n1 e.item next)
    by (Next.Opens m) f = inl (omega (arith, f, lt))
    by Next.On f = tt
    by Next.Branches f = tt
    by Next.Turn f = tt
    by (Next.Close r) f = tt
    by (Next.Calls d) f = tt
    by (Next.Hears d) f = tt
    by (Next.Initialises k d) f = tt

module _ (p : Program) where
  method_calls : (m : ℕ) (receiver : Operand) (arguments : List Operand) (keeps : Bool) (h : Heap) → Holds IsCall (call_method p m receiver arguments keeps h)
  method_calls m receiver arguments keeps h = holds_bind IsCall (prepare p m arguments h) _ (λ converted h1. record { holds = (call_of m receiver converted keeps, refl) })

  listener_calls : (l : Listener) (arguments : List Operand) (h : Heap) → Holds IsCall (call_listener p l arguments h)
  listener_calls l arguments h = method_calls l.method (ref l.object) arguments false h

  all_start : (bindings : List Watcher) → StartsAtMostIn (starting_all bindings)
  all_start [] = tt
  all_start (b ∷ bindings) = refl

  stored_starts : (written : Written) (item : Option TraceItem) → StartsAtMost (stored_as written item)
  stored_starts Equal item = tt
  stored_starts Silent item = tt
  stored_starts (Changed bindings) item = all_start (map watcher_of bindings)

  -- a write, and then less is to be done
  write_owes : (n n1 : Native) (o : ObjId) (name : List ℕ) (v : Value) (h : Heap) → rank_of n1 < rank_of n → Holds (OwedBy n) (write_and o name v n1 h)
  write_owes n n1 o name v h lt =
      holds_need (OwedBy n) (object_at o h.stage) h _ (λ c.
      holds_need (OwedBy n) (field_named name c.fields) h _ (λ f.
      record { holds = owed_starts n n1 (stored_as (writes o f.name v h.stage).0 (written_item o f v)) lt (stored_starts (writes o f.name v h.stage).0 (written_item o f v)) }))

  -- dispatches
  arrive_owes : (d : Dispatch) (a : Arrival) (rest : List Arrival) (h : Heap) → d.arrivals ≡ a ∷ rest → Holds (OwedBy (Native.Dispatches d)) (arrive d a rest h)
  arrive_owes d a rest h e = holds_need (OwedBy (Native.Dispatches d)) (object_at a.node h.stage) h _ (λ node. record { holds = inr (omega arith, omega (arith, ap length e)) })

  hear_owes : (d : Dispatch) (l : Listener) (rest : List Listener) (h : Heap) → Holds (OwedBy (Native.Dispatches d)) (hear p d l rest h)
  hear_owes d l rest h = holds_bind (OwedBy (Native.Dispatches d)) (prepare p l.method (ref d.event ∷ []) h) _ (λ arguments h1. record { holds = tt })

  end_owes : (d : Dispatch) (prevented : Bool) (h : Heap) → Holds (OwedBy (Native.Dispatches d)) (end_dispatch d prevented h)
  end_owes d prevented h = record { holds = tt }

  deliver_owes : (d : Dispatch) (event : Delivery) (listeners : List Listener) (arrivals : List Arrival) (h : Heap) → d.arrivals ≡ arrivals
      → Holds (OwedBy (Native.Dispatches d)) (deliver p d event listeners arrivals h)
  deliver_owes d event (l ∷ rest) nodes h e =
      holds_choose (OwedBy (Native.Dispatches d)) event.stopped_at_once (end_dispatch d event.prevented) (hear p d l rest) h (end_owes d event.prevented h) (hear_owes d l rest h)
  deliver_owes d event [] (a ∷ rest) h e =
      holds_choose (OwedBy (Native.Dispatches d)) (event.stopped || event.stopped_at_once) (end_dispatch d event.prevented) (arrive d a rest) h (end_owes d event.prevented h) (arrive_owes d a rest h e)
  deliver_owes d event [] [] h e = end_owes d event.prevented h

  dispatch_owes : (d : Dispatch) (h : Heap) → Holds (OwedBy (Native.Dispatches d)) (dispatch_on p d h)
  dispatch_owes d h = holds_need (OwedBy (Native.Dispatches d)) (object_at d.event h.stage) h _ (λ event. deliver_owes d event.delivery d.listeners d.arrivals h refl)

  begins_on : (target e : ObjId) (keeps : Bool) (h : Heap) → Holds GoesOn (begin_dispatch target e keeps h)
  begins_on target e keeps h =
      holds_need GoesOn (object_at e h.stage) h _ (λ event. holds_need GoesOn (text_in (property event (codes "type"))) h _ (λ kind. record { holds = refl }))

  sent_owes : (n : Native) → 0 < rank_of n → (a : Acted Dispatch) → GoesOn a → OwedBy n (as_dispatch p a)
  sent_owes n lt a on = by a.effect.next on
    where
      by : (next : Next) → next ≡ Next.On → Owes n next (Native.Dispatches a.work)
      by Next.On e = inl lt
      by Next.Branches e = inl lt
      by (Next.Opens m) e = absurd cc
      by Next.Turn e = tt
      by (Next.Close r) e = tt
      by (Next.Calls c) e = tt
      by (Next.Hears c) e = tt
      by (Next.Initialises k c) e = tt

  send_owes : (n : Native) → 0 < rank_of n → (event : Event) (target : ObjId) (h : Heap) → Holds (OwedBy n) (send p event target h)
  send_owes n lt event target h =
      holds_bind (OwedBy n) (make_event p event h) _ (λ e h1. holds_mapped (OwedBy n) GoesOn (as_dispatch p) (begin_dispatch target e false h1) (begins_on target e false h1) (sent_owes n lt))

  announce_owes : (event : Event) (target : ObjId) (h : Heap) → Holds (OwedBy (Native.Announces event target)) (announce p event target h)
  announce_owes event target h =
      holds_need (OwedBy (Native.Announces event target)) (object_at target h.stage) h _ (λ node.
      holds_choose (OwedBy (Native.Announces event target)) (is_registered event.name node) (send p event target) (closes (Native.Announces event target)) h
      (send_owes (Native.Announces event target) (omega arith) event target h) (record { holds = tt }))

  -- bindings
  abbrev starts : Option Watcher → List Watcher → Native
  starts running bindings = Native.Starts (record { running = running; bindings = bindings })

  free_owes : (w : Watcher) (ws : List Watcher) (k : Keeping) (b : Option EnabledBinding) (h : Heap) → Holds (OwedBy (starts None (w ∷ ws))) (run_if_free p w ws k b h)
  free_owes w ws k None h = record { holds = inr (omega arith, omega arith) }
  free_owes w ws k (Some b) h =
      holds_choose (OwedBy (starts None (w ∷ ws))) (is_busy k b) (goes_on (starting None ws)) (run_one p w ws b) h
      (record { holds = inr (omega arith, omega arith) })
      (holds_then (OwedBy (starts None (w ∷ ws))) IsCall (call_listener p b.method [] h) _ (listener_calls b.method [] h) (λ called h1 is. record { holds = owed_call (starts None (w ∷ ws)) (starting (Some w) ws) called is }))

  next_owes : (bindings : List Watcher) (h : Heap) → Holds (OwedBy (starts None bindings)) (start_next p bindings h)
  next_owes [] h = record { holds = tt }
  next_owes (w ∷ ws) h =
      holds_need (OwedBy (starts None (w ∷ ws))) (object_at w.document h.stage) h _ (λ d.
      holds_need (OwedBy (starts None (w ∷ ws))) (inside_at w.document h.stage) h _ (λ i. free_owes w ws d.keeping (binding_numbered w.number i.bindings) h))

  start_owes : (running : Option Watcher) (bindings : List Watcher) (h : Heap) → Holds (OwedBy (starts running bindings)) (start_with p running bindings h)
  start_owes None bindings h = next_owes bindings h
  start_owes (Some w) bindings h = record { holds = inr (omega arith, omega arith) }

  -- states
  by_changes : (document : ObjId) (name : List ℕ) (requested : Requested) (h : Heap) → Holds ChangesAtMost (changes_by document name requested h)
  by_changes document name Begin h = record { holds = refl }
  by_changes document name Kept h = record { holds = tt }
  by_changes document name Nothing h = record { holds = tt }

  state_changes : (document : ObjId) (name : List ℕ) (h : Heap) → Holds ChangesAtMost (request_state document name h)
  state_changes document name h = holds_bind ChangesAtMost (staged h (requests document name h.stage)) _ (λ change h1. by_changes document name change h1)

  kept_changes : (document : ObjId) (name : Option (List ℕ)) (h : Heap) → Holds ChangesAtMost (request_kept document name h)
  kept_changes document None h = record { holds = tt }
  kept_changes document (Some name) h = state_changes document name h

  asked_changes : (document : ObjId) (name : Option (List ℕ)) (h : Heap) → Holds ChangesAtMost (ask document name h)
  asked_changes document None h = record { holds = tt }
  asked_changes document (Some name) h = state_changes document name h

  request_changes : (document : ObjId) (v : Value) (h : Heap) → Holds ChangesAtMost (request document v h)
  request_changes document v h = holds_need ChangesAtMost (object_at document h.stage) h _ (λ _. asked_changes document (state_asked v) h)

  call_owes : (n : Native) (which : RegisteredState → Listener) (arguments : List Operand) (name : List ℕ) (document : ObjId) (rest : Native) (h : Heap)
      → Holds (OwedBy n) (call_of_state p which arguments name document rest h)
  call_owes n which arguments name document rest h =
      holds_need (OwedBy n) (state_named name (states_at document h.stage)) h _ (λ state.
      holds_then (OwedBy n) IsCall (call_listener p (which state) arguments h) _ (listener_calls (which state) arguments h) (λ e h1 is. record { holds = owed_call n rest e is }))

  abbrev left_to : Change → List ChangeStep → Native
  left_to c steps = Native.Changes (record c { steps = steps })

  step_owes : (c : Change) (step : ChangeStep) (steps : List ChangeStep) (d : Object) (h : Heap)
      → Holds (OwedBy (left_to c (step ∷ steps))) (change_step p (record c { steps = step ∷ steps }) step d (left_to c steps) h)
  step_owes c ChangeStep.Leave steps d h =
      holds_need (OwedBy (left_to c (ChangeStep.Leave ∷ steps))) (text_in (property d current_state)) h _ (λ now.
      call_owes (left_to c (ChangeStep.Leave ∷ steps)) (λ (state : RegisteredState). state.leave) (Plain (value.Text c.state) ∷ []) now c.document (left_to c steps) h)
  step_owes c ChangeStep.Store steps d h = write_owes (left_to c (ChangeStep.Store ∷ steps)) (left_to c steps) c.document current_state (value.Text c.state) h (omega arith)
  step_owes c ChangeStep.Enter steps d h = call_owes (left_to c (ChangeStep.Enter ∷ steps)) (λ (state : RegisteredState). state.enter) [] c.state c.document (left_to c steps) h
  step_owes c ChangeStep.Announce steps d h = record { holds = omega arith }
  step_owes c ChangeStep.End steps d h =
      holds_mapped (OwedBy (left_to c (ChangeStep.End ∷ steps))) ChangesAtMost (in_place (left_to c (ChangeStep.End ∷ steps)))
      (request_kept c.document (kept_name c.document h.stage) (on_stage (over c.document) h))
      (kept_changes c.document (kept_name c.document h.stage) (on_stage (over c.document) h))
      (λ e changes. owed_in_place (left_to c (ChangeStep.End ∷ steps)) (left_to c (ChangeStep.End ∷ steps)) e (omega arith) changes)

  change_owes : (c : Change) (steps : List ChangeStep) (h : Heap) → Holds (OwedBy (left_to c steps)) (change_with p (record c { steps = steps }) steps h)
  change_owes c [] h = record { holds = tt }
  change_owes c (step ∷ steps) h = holds_need (OwedBy (left_to c (step ∷ steps))) (object_at c.document h.stage) h _ (λ d. step_owes c step steps d h)

  -- children
  told_owes : (a : Adding) → a.from ≡ None → (first : Bool)
      → OwedBy (Native.Adds a) (if first then acted (recorded (added_item a)) (Native.Announces creation_complete a.child) else acted (effect (Next.Close None) (Some (added_item a))) (Native.Adds a))
  told_owes a e true = inl (omega arith)
  told_owes a e false = tt

  add_owes : (a : Adding) (from : Option ObjId) → a.from ≡ from → OwedBy (Native.Adds a) (tell_from a from)
  add_owes a None e = told_owes a e a.first
  add_owes a (Some parent) e = inl (omega (arith, ap one_if e))

  empty_owes : (container : ObjId) (children : List ObjId) (h : Heap) → Holds (OwedBy (Native.Empties container children)) (empty_on container children h)
  empty_owes container [] h = record { holds = tt }
  empty_owes container (child ∷ children) h = record { holds = inr (omega arith, omega arith) }

  -- lines of the script
  default_owes : (o e : ObjId) (h : Heap) → Holds (OwedBy (Native.Defaults o e)) (default_on p o e h)
  default_owes o e h =
      holds_need (OwedBy (Native.Defaults o e)) (object_at o h.stage) h _ (λ c.
      holds_need (OwedBy (Native.Defaults o e)) (object_at e h.stage) h _ (λ event.
      holds_choose (OwedBy (Native.Defaults o e)) (not event.delivery.answer && toggles p c) (toggle p o c) (closes (Native.Defaults o e)) h
      (write_owes (Native.Defaults o e) (Native.Sends change o) o (codes "selected") (value.Bool (not (has_flag (codes "selected") c))) h (omega arith))
      (record { holds = tt })))

  click_owes : (event : UserEvent) (path : List (List ℕ)) (o : Option ObjId) (h : Heap) → Holds (OwedBy (Native.Acts event)) (click_on p event path o h)
  click_owes event path None h = record { holds = tt }
  click_owes event path (Some o) h =
      holds_bind (OwedBy (Native.Acts event)) (make_event p click h) _ (λ e h1.
      holds_mapped (OwedBy (Native.Acts event)) GoesOn (with_default o) (begin_dispatch o e false h1) (begins_on o e false h1) (λ a on. omega arith))

  type_owes : (event : UserEvent) (path : List (List ℕ)) (text : List ℕ) (o : Option ObjId) (h : Heap) → Holds (OwedBy (Native.Acts event)) (type_at_path p event path text o h)
  type_owes event path text None h = record { holds = tt }
  type_owes event path text (Some o) h =
      holds_need (OwedBy (Native.Acts event)) (object_at o h.stage) h _ (λ c.
      holds_choose (OwedBy (Native.Acts event)) (takes_text p c) (write_and o (codes "text") (value.Text text) (Native.Sends change o)) (miss event path) h
      (write_owes (Native.Acts event) (Native.Sends change o) o (codes "text") (value.Text text) h (omega arith))
      (record { holds = tt }))

  request_owes : (event : UserEvent) (main : ObjId) (state : List ℕ) (h : Heap) → Holds (OwedBy (Native.Acts event)) (request_of p event main state h)
  request_owes event main state h =
      holds_need (OwedBy (Native.Acts event)) (object_at main h.stage) h _ (λ c.
      holds_bind (OwedBy (Native.Acts event)) (test fault.NoName (is_component_object p c) h) _ (λ _ h1.
      holds_mapped (OwedBy (Native.Acts event)) ChangesAtMost (in_place (Native.Acts event)) (request main (value.Text state) h1) (request_changes main (value.Text state) h1)
      (λ e changes. owed_in_place (Native.Acts event) (Native.Acts event) e (omega arith) changes)))

  act_owes : (main : ObjId) (event : UserEvent) (h : Heap) → Holds (OwedBy (Native.Acts event)) (act_event p main event h)
  act_owes main (user.Click path line) h = click_owes (user.Click path line) path (reached p h main path) h
  act_owes main (user.Write path text line) h = type_owes (user.Write path text line) path text (reached p h main path) h
  act_owes main (user.State state line) h = request_owes (user.State state line) main state h

  pub native_owes : (main : Option ObjId) (n : Native) (h : Heap) → Holds (OwedBy n) (go_on p main n h)
  native_owes main (Native.Dispatches d) h = dispatch_owes d h
  native_owes main (Native.Starts b) h = start_owes b.running b.bindings h
  native_owes main (Native.Changes c) h = change_owes c c.steps h
  native_owes main (Native.Adds a) h = record { holds = add_owes a a.from refl }
  native_owes main (Native.Empties container children) h = empty_owes container children h
  native_owes main (Native.Announces event target) h = announce_owes event target h
  native_owes main (Native.Sends event target) h = send_owes (Native.Sends event target) (omega arith) event target h
  native_owes main (Native.Defaults target event) h = default_owes target event h
  native_owes main (Native.Begins event) h = record { holds = inl (omega arith) }
  native_owes main (Native.Acts event) h = holds_need (OwedBy (Native.Acts event)) main h _ (λ o. act_owes o event h)

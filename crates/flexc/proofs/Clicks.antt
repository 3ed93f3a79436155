-- The machine plays the clicks of a script as their meaning says.
use Rattle.std.proofs.Common.{◌≡◌, ℕ, zero, suc, ◌+◌, ◌≤◌, List, [], ◌∷◌, ◌++◌, length, Option, None, Some, Bool, true, false, refl, sym, ap, ◌∙◌, subst, arith, length-append}
use Rattle.std.specs.Prelude.{map, slice_get, if◌then◌else◌}
use Rattle.std.specs.List.{filter}
use Rattle.std.specs.Str.{bytes_eq}
use Rattle.abc_format.specs.declared.records.Abc.{Abc}
use Rattle.flex_base.specs.declared.record.TraceItem.{TraceItem}
use Rattle.flex_base.specs.declared.record.TraceItem.TheVariants.{Sent, Heard, Traced, User, Missed}
use Rattle.flex_base.specs.declared.outcome.MachineFault.TheVariants.{NotHere}
use Rattle.flex_base.specs.declared.outcome.Outcome.TheVariants.{Stopped}
use Rattle.flex_base.specs.declared.outcome.Stop.TheVariants.{UnknownState}
use Rattle.flex_base.specs.declared.value.ObjId.{ObjId}
use Rattle.flex_base.specs.declared.value.Value.TheVariants as value
use Rattle.flex_front.specs.declared.document.Element.{Element}
use Rattle.flex_front.specs.declared.document.Element.TheVariants as element
use Rattle.avm2_code.specs.declared.instruction.Instruction.TheVariants.{FindPropStrict, PushString, CallPropVoid}
use Rattle.flex_base.specs.declared.event.Arrival.{Arrival}
use Rattle.avm2_machine.specs.declared.dispatch.Call.{Call}
use Rattle.flex_base.specs.declared.event.Phase.{Phase}
use Rattle.flex_base.specs.declared.event.Phase.TheVariants.{Capture, Target, Bubble}
use Rattle.flex_base.specs.declared.event.UserEvent.{UserEvent}
use Rattle.flex_base.specs.declared.event.UserEvent.TheVariants as event
use Rattle.avm2_machine.specs.declared.frame.Frame.{Frame}
use Rattle.avm2_machine.specs.declared.frame.Frame.TheVariants as opened
use Rattle.avm2_machine.specs.declared.frame.Operand.{Operand}
use Rattle.avm2_machine.specs.declared.frame.Operand.TheVariants as operand
use Rattle.flex_base.specs.Events.{arrivals, hearing, path_text, phase_number, click}
use Rattle.avm2_machine.specs.Machine.{recorded, faults, opens, ended, entered, begins, call_at, clicks as clicks_frame}
use Rattle.avm2_machine.specs.Tables.{body_of, hears_clicks, first_locals}
use Rattle.script_player.specs.Playing.{Config}
use Rattle.flexc.specs.Emitted.{encode_all, handler_code, handler_number, text_string, main_text}
use Rattle.flexc.specs.Meaning.{handle, hear, hear_all, visit, send, reached, clicks, does}
use Rattle.flex_base.specs.Lists.{entry}
use Rattle.flexc.specs.World.{MouseEvent, Listener, Component, World, Result, Goes, bind, note, enter, leave, take, new_component, with_component, outer, listeners, listeners_of}
use Rattle.flexc.proofs.Decoded.{Stands, size, code_stands}
use Rattle.flexc.proofs.Encodable.{handler_encodable}
use Rattle.flexc.proofs.Handlers.{handlers, IsHandler, handler_body_of, handler_body_is, handler_hears, stands_at, stands_within}
use Rattle.flexc.proofs.Looked.{abc, trace_name, text_is}
use Rattle.flexc.proofs.Runs.{AreHandlers, AllHeard, IsReady, one_heard_more}
use Rattle.flexc.proofs.Sims.{running, SameObjects, IsCounted, Sim, sim_then, sim_over, sim_assoc, turned, takes_at_sim, entered_sim, find_sim, push_string_sim, trace_sim, return_sim}
use Rattle.flexc.proofs.States.{one, stage_of, machine_of, at, registration_of, outer_is, heard_is, reached_is}

-- between two lines of the script: each listener is a handler, and each object has cost its cells
pub record IsSettled (es : List Element) (w : World) : Type 0 where
  pub heard : AllHeard es w.objects
  pub counted : IsCounted w

settled_again : (es : List Element) (w w1 : World) → SameObjects w w1 → IsSettled es w → IsSettled es w1
settled_again es w w1 same s =
    let cells = same.cells in
    let before = s.counted.enough in
    record { heard = subst (AllHeard es) (sym same.objects) s.heard; counted = record { enough = omega (arith, cells, before, ap length same.objects) } }

pub ready_settles : (es : List Element) (k : ℕ) (w : World) → IsReady es k w → IsSettled es w
ready_settles es k w r =
    let many = r.many in
    let before = r.counted in
    record { heard = subst (AllHeard es) (sym r.are) (tt, r.heard); counted = record { enough = omega (arith, many, before, ap length r.are) } }

-- the listeners of an object are handlers
heard_at : (es : List Element) (cs : List Component) (n : ℕ) → AllHeard es cs → AreHandlers es (listeners_of (slice_get cs n))
heard_at es [] n all = tt
heard_at es (c ∷ cs) zero all = all.0
heard_at es (c ∷ cs) (suc n) all = heard_at es cs n all.1

handlers_at : (es : List Element) (w : World) (o : ObjId) → IsSettled es w → AreHandlers es (listeners w o)
handlers_at es w o s = by o.0
  where
    by : (n : ℕ) → AreHandlers es (listeners_of (entry w.objects n))
    by zero = tt
    by (suc n) = heard_at es w.objects n s.heard

some_handlers : (es : List Element) (p : Listener → Bool) (ls : List Listener) → AreHandlers es ls → AreHandlers es (filter p ls)
some_handlers es p [] all = tt
some_handlers es p (l ∷ ls) all = by (some_handlers es p ls all.1) (p l)
  where
    by : AreHandlers es (filter p ls) → (t : Bool) → AreHandlers es (if t then l ∷ filter p ls else filter p ls)
    by others true = (all.0, others)
    by others false = others

hearing_handlers : (es : List Element) (phase : Phase) (ls : List Listener) → AreHandlers es ls → AreHandlers es (hearing (λ l. l.event) click phase ls)
hearing_handlers es Capture ls all = tt
hearing_handlers es Target ls all = some_handlers es (λ l. bytes_eq l.event click) ls all
hearing_handlers es Bubble ls all = some_handlers es (λ l. bytes_eq l.event click) ls all

module _ (es : List Element) (few : length es ≤ 100) where
  abbrev p : Abc
  p = abc es

  -- the dispatch of a click
  abbrev pub dispatch : ObjId → List Call → List Arrival → Frame
  dispatch e calls nodes = opened.Dispatch (record { event = e; kind = click; calls = calls; nodes = nodes })

  abbrev calls_of : Arrival → List Listener → List Call
  calls_of a ls = map (call_at a) (map registration_of ls)

  -- a handler runs to its end
  handler_sim : {B : Type 0} (before behind : List Element) (id text : List ℕ) → es ≡ before ++ element.Button id (Some text) ∷ behind → (ls : List Operand) (fs : List Frame) (w : World)
      → (r : Result B) (k : B → World → Config → Type 0) → Sim p main_text (at fs (leave (note (Traced text) w))) r k
      → Sim p main_text (at (running (handler_number (handlers before)) 0 [] ls ∷ fs) w) r k
  handler_sim before behind id text all ls fs w r k s =
      let x : Element = element.Button id (Some text) in
      let place = length before in
      let within = stands_within es before behind x place all refl in
      let has : Stands (encode_all (handler_code place)) 0 (handler_code place) (length (encode_all (handler_code place))) =
      code_stands (handler_code place) (handler_encodable place (omega (arith, within, few))) in
      let is = handler_body_is es before behind id text all in
      let b = handler_number (handlers before) in
      let a1 = 0 + size (FindPropStrict 8) in
      let a2 = a1 + size (PushString (text_string place)) in
      let a3 = a2 + size (CallPropVoid 8 1) in
      find_sim p main_text b _ is 0 [] fs w r k 8 ls refl has.0
      (push_string_sim p main_text b _ is a1 (operand.Natives ∷ []) fs w r k (text_string place) text ls (text_is es place x (stands_at es before behind x place all refl) within) has.1.0
      (trace_sim p main_text b _ is a2 [] fs w r k 8 text ls (trace_name es) has.1.1.0
      (return_sim p main_text b _ is a3 [] fs (note (Traced text) w) r k ls has.1.1.1.0 s)))

  -- a listener hears the event and runs to its end
  hear_sim : {B : Type 0} (a : Arrival) (l : Listener) → IsHandler es l → (e : ObjId) (calls : List Call) (nodes : List Arrival) (fs : List Frame) (w : World) → IsSettled es w
      → (f : Unit {0} → World → Result B) (k : B → World → Config → Type 0)
      → ((w1 : World) → IsSettled es w1 → Sim p main_text (at (dispatch e calls nodes ∷ fs) w1) (f tt w1) k)
      → Sim p main_text (at (dispatch e (call_at a (registration_of l) ∷ calls) nodes ∷ fs) w) (bind (hear a l w) f) k
  hear_sim {B} a l i e calls nodes fs w settled f k s =
      let h = handler_number l.number in
      let b = handler_number (handlers i.before) in
      let heard : TraceItem = Heard a.node click (phase_number a.phase) in
      let given : List Operand = operand.Value (value.Ref l.document) ∷ operand.Value (value.Ref e) ∷ [] in
      let rest = dispatch e calls nodes ∷ fs in
      let number = ap handler_number i.number in
      let hears : hears_clicks p h ≡ true = ap (hears_clicks p) number ∙ handler_hears es i.before i.behind i.id l.traces i.all in
      let has : body_of p h ≡ Some b = ap (body_of p) number ∙ handler_body_of es i.before i.behind i.id l.traces i.all in
      let g : Unit {0} → World → Result (Unit {0}) = λ _ w1. bind (handle l (note heard w1)) (λ _ w2. Goes tt (leave w2)) in
      sim_then p main_text (at (dispatch e (call_at a (registration_of l) ∷ calls) nodes ∷ fs) w) (bind (hear a l w) f) k
      (subst (λ t. Sim p main_text (turned p main_text w (if t then entered p (Some heard) h given (machine_of rest w) else faults NotHere (machine_of rest w))) (bind (hear a l w) f) k) (sym hears)
      (sim_assoc p main_text (turned p main_text w (entered p (Some heard) h given (machine_of rest w))) (enter w) g f k
      (entered_sim p main_text (Some heard) h b given rest w (λ v w1. bind (g v w1) f) k has
      (λ w1 same. handler_sim i.before i.behind i.id l.traces i.all (first_locals p b given) rest (note heard w1) (f tt (leave (note (Traced l.traces) (note heard w1)))) k
      (s (leave (note (Traced l.traces) (note heard w1))) (settled_again es w (leave (note (Traced l.traces) (note heard w1))) (record { objects = same.objects; cells = same.cells }) settled))))))

  -- the listeners of a node hear it one after another
  hear_all_sim : {B : Type 0} (a : Arrival) (ls : List Listener) → AreHandlers es ls → (e : ObjId) (nodes : List Arrival) (fs : List Frame) (w : World) → IsSettled es w
      → (f : Unit {0} → World → Result B) (k : B → World → Config → Type 0)
      → ((w1 : World) → IsSettled es w1 → Sim p main_text (at (dispatch e [] nodes ∷ fs) w1) (f tt w1) k)
      → Sim p main_text (at (dispatch e (calls_of a ls) nodes ∷ fs) w) (bind (hear_all a ls w) f) k
  hear_all_sim a [] all e nodes fs w settled f k s = s w settled
  hear_all_sim a (l ∷ ls) all e nodes fs w settled f k s =
      sim_assoc p main_text (at (dispatch e (calls_of a (l ∷ ls)) nodes ∷ fs) w) (hear a l w) (λ _ w1. hear_all a ls w1) f k
      (hear_sim a l all.0 e (calls_of a ls) nodes fs w settled (λ _ w1. bind (hear_all a ls w1) f) k
      (λ w1 settled1. hear_all_sim a ls all.1 e nodes fs w1 settled1 f k s))

  -- the event arrives at one node after another
  visit_sim : {B : Type 0} (nodes : List Arrival) (e : ObjId) (fs : List Frame) (w : World) → IsSettled es w → (f : Unit {0} → World → Result B) (k : B → World → Config → Type 0)
      → ((w1 : World) → IsSettled es w1 → Sim p main_text (at fs w1) (f tt w1) k) → Sim p main_text (at (dispatch e [] nodes ∷ fs) w) (bind (visit nodes w) f) k
  visit_sim [] e fs w settled f k s = sim_then p main_text (at (dispatch e [] [] ∷ fs) w) (f tt w) k (s w settled)
  visit_sim (a ∷ nodes) e fs w settled f k s =
      let ls = hearing (λ l. l.event) click a.phase (listeners w a.node) in
      let all = hearing_handlers es a.phase (listeners w a.node) (handlers_at es w a.node settled) in
      sim_then p main_text (at (dispatch e [] (a ∷ nodes) ∷ fs) w) (bind (visit (a ∷ nodes) w) f) k
      (subst (λ rs. Sim p main_text (at (dispatch e (map (call_at a) rs) nodes ∷ fs) w) (bind (visit (a ∷ nodes) w) f) k) (sym (heard_is click a.phase w a.node))
      (sim_assoc p main_text (at (dispatch e (calls_of a ls) nodes ∷ fs) w) (hear_all a ls w) (λ _ w1. visit nodes w1) f k
      (hear_all_sim a ls all e nodes fs w settled (λ _ w1. bind (visit nodes w1) f) k (λ w1 settled1. visit_sim nodes e fs w1 settled1 f k s))))

  -- a click is sent
  send_sim : {B : Type 0} (target : ObjId) (nodes : List Arrival) (w : World) → IsSettled es w → (f : Unit {0} → World → Result B) (k : B → World → Config → Type 0)
      → ((w1 : World) → IsSettled es w1 → Sim p main_text (at [] w1) (f tt w1) k)
      → Sim p main_text (at (opened.Sending (record { target = target; nodes = nodes }) ∷ []) w) (bind (send target nodes w) f) k
  send_sim {B} target nodes w settled f k s =
      let visits : ObjId → World → Result (Unit {0}) = λ _ w1. visit nodes (note (Sent target click) w1) in
      sim_then p main_text (at (opened.Sending (record { target = target; nodes = nodes }) ∷ []) w) (bind (send target nodes w) f) k
      (sim_assoc p main_text _ (take MouseEvent [] 0 w) visits f k
      (takes_at_sim p main_text MouseEvent [] 0 [] [] w (λ e m1. recorded (Sent target click) (opens (dispatch e [] nodes) m1)) (λ e w1. bind (visits e w1) f) k refl settled.counted
      (λ w1 is. visit_sim nodes _ [] (note (Sent target click) w1) (made_settles w1 is) f k s)))
    where
      made_settles : (w1 : World) → w1 ≡ with_component (new_component MouseEvent []) (16 + 0) w → IsSettled es (note (Sent target click) w1)
      made_settles w1 is =
          let objects : w1.objects ≡ w.objects ++ new_component MouseEvent [] ∷ [] = ap (λ x. x.objects) is in
          let cells : w1.cells ≡ w.cells + 16 = ap (λ x. x.cells) is in
          let before = settled.counted.enough in
          record {
            heard = subst (AllHeard es) (sym objects) (one_heard_more es w.objects (new_component MouseEvent []) settled.heard tt);
            counted = record { enough = omega (arith, cells, before, ap length objects, length-append w.objects (new_component MouseEvent [] ∷ [])) };
          }

  -- a line reaches no component
  missed_sim : {B : Type 0} (path : List (List ℕ)) (w : World) → IsSettled es w → (f : Unit {0} → World → Result B) (k : B → World → Config → Type 0)
      → ((w1 : World) → IsSettled es w1 → Sim p main_text (at [] w1) (f tt w1) k)
      → Sim p main_text (at (opened.Miss (path_text path) ∷ []) w) (f tt (note (Missed (path_text path)) w)) k
  missed_sim path w settled f k s =
      let missed = note (Missed (path_text path)) w in
      sim_then p main_text (at (opened.Miss (path_text path) ∷ []) w) (f tt missed) k
      (s missed (settled_again es w missed (record { objects = refl; cells = refl }) settled))

  -- a line of the script is done
  pub does_sim : {B : Type 0} (e : UserEvent) (w : World) → IsSettled es w → (f : Unit {0} → World → Result B) (k : B → World → Config → Type 0)
      → ((w1 : World) → IsSettled es w1 → Sim p main_text (at [] w1) (f tt w1) k)
      → Sim p main_text (record { machine = begins e (machine_of [] w); records = w.records }) (bind (does one e w) f) k
  does_sim {B} (event.Click path line) w settled f k s =
      let frame : Option ObjId → Frame = clicks_frame (stage_of w) path in
      sim_then p main_text _ (bind (does one (event.Click path line) w) f) k
      (subst (λ o. Sim p main_text (at (frame o ∷ []) (note (User line) w)) (bind (does one (event.Click path line) w) f) k) (sym (reached_is w one path)) (by (reached w one path)))
    where
      w1 : World
      w1 = note (User line) w

      settled1 : IsSettled es w1
      settled1 = settled_again es w w1 (record { objects = refl; cells = refl }) settled

      by : (o : Option ObjId) → Sim p main_text (at (clicks_frame (stage_of w) path o ∷ []) w1) (bind (clicks path o w1) f) k
      by None = missed_sim path w1 settled1 f k s
      by (Some o) =
          subst (λ l. Sim p main_text (at (opened.Sending (record { target = o; nodes = arrivals o l }) ∷ []) w1) (bind (send o (arrivals o (outer w1 o)) w1) f) k) (sym (outer_is w o))
          (send_sim o (arrivals o (outer w o)) w1 settled1 f k s)
  does_sim (event.Write path text line) w settled f k s =
      let w1 = note (User line) w in
      sim_then p main_text _ (bind (does one (event.Write path text line) w) f) k
      (missed_sim path w1 (settled_again es w w1 (record { objects = refl; cells = refl }) settled) f k s)
  does_sim (event.State name line) w settled f k s =
      let w1 = note (User line) w in
      let r = bind (does one (event.State name line) w) f in
      sim_then p main_text _ r k (sim_then p main_text (at (opened.UnknownState ∷ []) w1) r k (sim_over p main_text (ended (Stopped UnknownState) (machine_of [] w1)) (Stopped UnknownState) w1 k refl))

-- The machine: one step, on the machine between two steps.
use Rattle.std.specs.Prelude.{◌≡◌, ◌≢◌, ℕ, zero, suc, ◌+◌, ◌-◌, List, [], ◌∷◌, length, map, Bool, true, false, if◌then◌else◌, nat_lt, ◌==◌, ◌||◌, Option, Some, None, slice_get, slice_set, option_map, replicate, codes}
use Rattle.std.specs.List.{list_any}
use Rattle.std.specs.Option.{option_or}
use Rattle.std.specs.Str.{bytes_eq}
use Rattle.abc_format.specs.declared.records.Abc.{Abc}
use Rattle.abc_format.specs.declared.records.InstanceInfo.{InstanceInfo}
use Rattle.abc_format.specs.declared.records.ScriptInfo.{ScriptInfo}
use Rattle.abc_format.specs.declared.records.ClassInfo.{ClassInfo}
use Rattle.flex_base.specs.Value.{same, is_object}
use Rattle.flex_base.specs.declared.outcome.MachineFault.{MachineFault}
use Rattle.flex_base.specs.declared.outcome.MachineFault.TheVariants.{NoName, WrongKind, WrongCount, NotHere}
use Rattle.flex_base.specs.declared.outcome.Outcome.{Outcome}
use Rattle.flex_base.specs.declared.outcome.Outcome.TheVariants.{Ended, Stopped, TurnsSpent, Fault}
use Rattle.flex_base.specs.declared.outcome.Stop.TheVariants.{Depth, Cells, UnknownState}
use Rattle.flex_base.specs.declared.record.TraceItem.{TraceItem}
use Rattle.flex_base.specs.declared.record.TraceItem.TheVariants.{Made, Written, Added, Sent, Heard, Traced, User, Missed}
use Rattle.flex_base.specs.declared.value.ObjId.{ObjId}
use Rattle.flex_base.specs.declared.value.Value.{Value}
use Rattle.flex_base.specs.declared.value.Value.TheVariants as value
use Rattle.avm2_machine.specs.declared.catalog.NativeClass.{NativeClass}
use Rattle.flex_base.specs.declared.event.Arrival.{Arrival}
use Rattle.avm2_machine.specs.declared.dispatch.Call.{Call}
use Rattle.avm2_machine.specs.declared.dispatch.Sending.{Sending}
use Rattle.avm2_machine.specs.declared.dispatch.Dispatch.{Dispatch}
use Rattle.flex_base.specs.declared.event.UserEvent.{UserEvent}
use Rattle.flex_base.specs.declared.event.UserEvent.TheVariants as event
use Rattle.avm2_machine.specs.declared.frame.CodeFrame.{CodeFrame}
use Rattle.avm2_machine.specs.declared.frame.Frame.{Frame}
use Rattle.avm2_machine.specs.declared.frame.Frame.TheVariants as frame
use Rattle.avm2_machine.specs.declared.frame.Operand.{Operand}
use Rattle.avm2_machine.specs.declared.frame.Operand.TheVariants as operand
use Rattle.avm2_code.specs.declared.instruction.Instruction.{Instruction}
use Rattle.avm2_code.specs.declared.instruction.Instruction.TheVariants.{PushString, PushInt, ReturnVoid, ConstructSuper, ConstructProp, CallPropVoid, NewClass, FindPropStrict, GetLex, SetProperty, InitProperty, GetProperty, GetLocal0, GetLocal1, SetLocal1}
use Rattle.avm2_machine.specs.declared.machine.Load.{Load}
use Rattle.avm2_machine.specs.declared.machine.Load.TheVariants as load
use Rattle.avm2_machine.specs.declared.machine.Machine.{Machine}
use Rattle.avm2_machine.specs.declared.stage.Class.{Class}
use Rattle.avm2_machine.specs.declared.stage.Class.TheVariants as class
use Rattle.avm2_machine.specs.declared.stage.Object.{Object}
use Rattle.avm2_machine.specs.declared.stage.Registration.{Registration}
use Rattle.avm2_machine.specs.declared.stage.Slot.{Slot}
use Rattle.avm2_machine.specs.declared.stage.Stage.{Stage}
use Rattle.flex_base.specs.Events.{arrivals, hearing, path_text, phase_number, click}
use Rattle.flex_base.specs.Lists.{entry}
use Rattle.avm2_machine.specs.Names.{Name, string_at, name_at, native_at, class_name, is_name, holder}
use Rattle.avm2_machine.specs.Stage.{empty_stage, object_at, property, is_of, native_slots, too_many_cells, next_object, with_object, with_property, next_place, children_of, with_child, with_listener, outer, listeners, walked}
use Rattle.avm2_machine.specs.Tables.{fetch, body_of, first_locals, public_at, declared_onto, method_named, has_class_trait, hears_clicks}

-- the machine before the load of a file with so many classes
abbrev pub start : ℕ → ℕ → Machine
start classes turns =
    record {
      frames = [];
      load = load.Scripts 0;
      made = replicate classes false;
      main = None;
      stage = empty_stage;
      level = 0;
      turns = turns;
      outcome = None;
    }

-- the machine after a step, and the record that the step made, if any
pub record Moved : Type 0 where
  pub machine : Machine
  pub item : Option TraceItem

abbrev pub moved : Machine → Option TraceItem → Moved
moved m item = record { machine = m; item = item }

abbrev pub silent : Machine → Moved
silent m = record { machine = m; item = None }

abbrev pub recorded : TraceItem → Machine → Moved
recorded item m = record { machine = m; item = Some item }

-- the play is over
abbrev pub ended : Outcome → Machine → Machine
ended o m = record m { frames = []; outcome = Some o }

abbrev pub ends : Outcome → Machine → Moved
ends o m = silent (ended o m)

abbrev pub faults : MachineFault → Machine → Moved
faults fault m = ends (Fault fault) m

abbrev pub opens : Frame → Machine → Machine
opens f m = record m { frames = f ∷ m.frames }

-- the frame goes on
abbrev pub with_frame : CodeFrame → Machine → Machine
with_frame f m = opens (frame.Code f) m

abbrev pub goes_on : CodeFrame → Machine → Moved
goes_on f m = silent (with_frame f m)

abbrev pub with_operand : Operand → CodeFrame → CodeFrame
with_operand v f = record f { stack = v ∷ f.stack }

abbrev pub pushes : Operand → CodeFrame → Machine → Moved
pushes v f m = goes_on (with_operand v f) m

abbrev pub pushes_found : MachineFault → Option Operand → CodeFrame → Machine → Moved
pushes_found fault None f m = faults fault m
pushes_found fault (Some v) f m = pushes v f m

-- what the making of an object came to
pub data Making : Type 0 where
  -- the play is over
  Unmade : (m : Machine) → Making
  -- the object was made
  IsMade : (o : ObjId) (m : Machine) → Making

abbrev pub making : Option ObjId → Machine → Making
making None m = Unmade m
making (Some o) m = IsMade o m

abbrev pub and_then : Making → (ObjId → Machine → Moved) → Moved
and_then (Unmade m) k = silent m
and_then (IsMade o m) k = k o m

-- makes an object, where the cells and the numbers hold out for it
abbrev pub makes : Class → List Slot → ℕ → Machine → Making
makes c slots declared m =
    if too_many_cells declared m.stage then Unmade (ended (Stopped Cells) m)
    else if nat_lt (length m.stage.objects) 4294967295 then IsMade (next_object m.stage) (record m { stage = with_object c slots declared m.stage })
    else Unmade (ended (Fault NotHere) m)

-- whether a class that wasn't made before is marked as made
abbrev pub MarksMade : ℕ → Machine → Bool → Machine → Type 0
MarksMade c old true new = (slice_get old.made c ≡ Some false) × (new ≡ record old { made = slice_set old.made c true })
MarksMade c old false new = (slice_get old.made c ≢ Some false) × (new ≡ old)

abbrev pub sets_local : ℕ → List Operand → CodeFrame → Machine → Moved
sets_local n [] f m = faults WrongKind m
sets_local n (v ∷ stack) f m =
    if nat_lt n (length f.locals) then goes_on (record f { stack = stack; locals = slice_set f.locals n v }) m else faults WrongKind m

abbrev pub makes_native : Option NativeClass → CodeFrame → Machine → Moved
makes_native None f m = faults NoName m
makes_native (Some c) f m =
    and_then (makes (class.Native c) (native_slots c) 0 m)
    (λ o m1. recorded (Made o (class_name c)) (with_frame (with_operand (operand.Value (value.Ref o)) f) m1))

abbrev pub supers : List Operand → CodeFrame → Machine → Moved
supers (operand.Value (value.Ref o) ∷ stack) f m = goes_on (record f { stack = stack }) m
supers _ f m = faults WrongKind m

abbrev pub construct_super : ℕ → CodeFrame → Machine → Moved
construct_super count f m = if count == 0 then supers f.stack f m else faults WrongCount m

abbrev pub adds : Option ℕ → ObjId → ObjId → CodeFrame → Machine → Moved
adds None parent child f m = faults WrongKind m
adds (Some place) parent child f m = recorded (Added parent child place) (with_frame f (record m { stage = with_child parent child m.stage }))

-- the runtime call `place`, with its arguments on the stack
abbrev pub places : List Operand → CodeFrame → Machine → Moved
places (operand.Value (value.Int rank) ∷ operand.Value (value.Ref child) ∷ operand.Value (value.Ref parent) ∷ operand.Value (value.Ref document) ∷ stack) f m =
    adds (next_place (children_of (object_at m.stage parent))) parent child (record f { stack = stack }) m
places _ f m = faults WrongKind m

-- the call `addEventListener`, with its arguments on the stack
abbrev pub listens : List Operand → CodeFrame → Machine → Moved
listens (operand.Value (value.Listener object method) ∷ operand.Value (value.Text kind) ∷ operand.Value (value.Ref o) ∷ stack) f m =
    goes_on (record f { stack = stack }) (record m { stage = with_listener o (record { event = kind; object = object; method = method }) m.stage })
listens _ f m = faults WrongKind m

-- the call `trace`, with its argument on the stack
abbrev pub traces : List Operand → CodeFrame → Machine → Moved
traces (operand.Value (value.Text text) ∷ operand.Natives ∷ stack) f m = recorded (Traced text) (with_frame (record f { stack = stack }) m)
traces _ f m = faults WrongKind m

-- a write of a property that the object has, with this value
abbrev pub writes : ObjId → List ℕ → Value → Value → Machine → Moved
writes o name old v m = if same old v then silent m else recorded (Written o name v) (record m { stage = with_property o name v m.stage })

abbrev pub writes_slot : ObjId → List ℕ → Value → Option Slot → CodeFrame → Machine → Moved
writes_slot o name v None f m = faults NoName m
writes_slot o name v (Some slot) f m =
    if is_of m.stage v slot.kind then writes o name slot.value v (with_frame f m) else faults NotHere m

abbrev pub writes_public : ObjId → Option (List ℕ) → Value → CodeFrame → Machine → Moved
writes_public o None v f m = faults NoName m
writes_public o (Some name) v f m = writes_slot o name v (property m.stage o name) f m

abbrev pub sets_property : Option (List ℕ) → List Operand → CodeFrame → Machine → Moved
sets_property name (operand.Value v ∷ operand.Value (value.Ref o) ∷ stack) f m = writes_public o name v (record f { stack = stack }) m
sets_property name _ f m = faults WrongKind m

-- the frame is over, and gives back its level if it took one
abbrev pub returns_void : CodeFrame → Machine → Moved
returns_void f m = silent (if f.is_activity then record m { level = m.level - 1 } else m)

-- the main object, and an object that has it as an ancestor, is a component that is shown
abbrev pub shown : Stage → ObjId → Option ObjId → Option ObjId
shown s main None = None
shown s main (Some o) = if is_object main o || list_any (is_object main) (outer s o) then Some o else None

-- the component that a path of names reaches from the main object
abbrev pub reached : Stage → Option ObjId → List (List ℕ) → Option ObjId
reached s None path = None
reached s (Some main) path = shown s main (walked s (Some main) path)

-- a click that reached a component, or that missed
abbrev pub clicks : Stage → List (List ℕ) → Option ObjId → Frame
clicks s path None = frame.Miss (path_text path)
clicks s path (Some o) = frame.Sending (record { target = o; nodes = arrivals o (outer s o) })

-- what a line of the script is to do once its record was made: no component takes a text that is typed, and no document has states
abbrev pub line_frame : UserEvent → Machine → Frame
line_frame (event.Click path line) m = clicks m.stage path (reached m.stage m.main path)
line_frame (event.Write path text line) m = frame.Miss (path_text path)
line_frame (event.State name line) m = frame.UnknownState

abbrev pub line_of_event : UserEvent → List ℕ
line_of_event (event.Click path line) = line
line_of_event (event.Write path text line) = line
line_of_event (event.State name line) = line

-- a line of the script is begun
abbrev pub begins : UserEvent → Machine → Machine
begins e m = opens (frame.User (line_of_event e)) (opens (line_frame e m) m)

-- the event of a click is made, and its dispatch begins
abbrev pub sends : Sending → Machine → Moved
sends c m =
    and_then (makes class.MouseEvent [] 0 m)
    (λ e m1. recorded (Sent c.target click) (opens (frame.Dispatch (record { event = e; kind = click; calls = []; nodes = c.nodes })) m1))

-- a listener that is to be called where an event has arrived
abbrev pub call_at : Arrival → Registration → Call
call_at a l = record { node = a.node; phase = a.phase; object = l.object; method = l.method }

-- the event arrives at the next node, whose listeners are taken
abbrev pub arrives : Arrival → List Arrival → Dispatch → Machine → Moved
arrives a nodes d m =
    silent
    (opens (frame.Dispatch (record d { calls = map (call_at a) (hearing (λ l. l.event) d.kind a.phase (listeners m.stage a.node)); nodes = nodes })) m)

module _ (abc : Abc) where
  -- opens the frame of a body, with the receiver and the arguments
  abbrev pub opens_body : Option ℕ → List Operand → Bool → Machine → Machine
  opens_body None given is_activity m = ended (Fault NotHere) m
  opens_body (Some body) given is_activity m =
      with_frame (record { body = body; pc = 0; stack = []; locals = first_locals abc body given; is_activity = is_activity }) m

  abbrev pub opened : ℕ → List Operand → Bool → Machine → Machine
  opened method given is_activity m = opens_body (body_of abc method) given is_activity m

  -- an activity takes a turn
  abbrev pub with_turn : ℕ → Option TraceItem → ℕ → List Operand → Machine → Moved
  with_turn zero item body given m = ends TurnsSpent m
  with_turn (suc turns) item body given m = moved (opens_body (Some body) given true (record m { level = m.level + 1; turns = turns })) item

  abbrev pub enters_body : Option TraceItem → Option ℕ → List Operand → Machine → Moved
  enters_body item None given m = faults NotHere m
  enters_body item (Some body) given m = if nat_lt m.level 256 then with_turn m.turns item body given m else ends (Stopped Depth) m

  -- an activity takes a level and a turn, and makes this record, if any, once it has started
  abbrev pub entered : Option TraceItem → ℕ → List Operand → Machine → Moved
  entered item method given m = enters_body item (body_of abc method) given m

  abbrev pub constructs : ℕ → List Operand → CodeFrame → Machine → Moved
  constructs name (operand.Natives ∷ stack) f m = makes_native (native_at abc name) (record f { stack = stack }) m
  constructs name _ f m = faults NotHere m

  abbrev pub construct_prop : ℕ → ℕ → CodeFrame → Machine → Moved
  construct_prop name count f m = if count == 0 then constructs name f.stack f m else faults WrongCount m

  abbrev pub traits_method : Option InstanceInfo → Name → Option ℕ
  traits_method None name = None
  traits_method (Some instance) name = method_named abc instance.traits name

  abbrev pub file_method : Class → Name → Option ℕ
  file_method (class.File c) name = traits_method (slice_get abc.instances c) name
  file_method (class.Native c) name = None
  file_method class.MouseEvent name = None

  abbrev pub class_method : Option Object → Name → Option ℕ
  class_method None name = None
  class_method (Some object) name = file_method object.class name

  abbrev pub enters_found : Option ℕ → ObjId → CodeFrame → Machine → Moved
  enters_found None o f m = faults NoName m
  enters_found (Some method) o f m = entered None method (operand.Value (value.Ref o) ∷ []) (with_frame f m)

  -- a call of a method of the receiver's class, without arguments
  abbrev pub calls_method : Name → List Operand → CodeFrame → Machine → Moved
  calls_method name (operand.Value (value.Ref o) ∷ stack) f m =
      enters_found (class_method (object_at m.stage o) name) o (record f { stack = stack }) m
  calls_method name _ f m = faults WrongKind m

  abbrev pub calls : Option Name → ℕ → CodeFrame → Machine → Moved
  calls None count f m = faults NoName m
  calls (Some name) count f m =
      if is_name name (codes "flexc") (codes "place") then (if count == 3 then places f.stack f m else faults WrongCount m)
      else if is_name name [] (codes "addEventListener") then (if count == 2 then listens f.stack f m else faults WrongCount m)
      else if is_name name [] (codes "trace") then (if count == 1 then traces f.stack f m else faults WrongCount m)
      else if count == 0 then calls_method name f.stack f m
      else faults WrongCount m

  abbrev pub makes_class : ℕ → Option ClassInfo → Option Bool → CodeFrame → Machine → Moved
  makes_class c (Some info) (Some false) f m =
      silent
      (opened info.cinit (operand.Class (class.File c) ∷ []) false
      (with_frame (with_operand (operand.Class (class.File c)) f) (record m { made = slice_set m.made c true })))
  makes_class c _ _ f m = faults NotHere m

  abbrev pub new_class : ℕ → List Operand → CodeFrame → Machine → Moved
  new_class c (operand.Class (class.Native base) ∷ stack) f m = makes_class c (slice_get abc.classes c) (slice_get m.made c) (record f { stack = stack }) m
  new_class c _ f m = faults WrongKind m

  abbrev pub inits_property : ℕ → List Operand → CodeFrame → Machine → Moved
  inits_property name (operand.Class (class.File c) ∷ operand.Script script ∷ stack) f m =
      if has_class_trait abc script name c then goes_on (record f { stack = stack }) m else faults NoName m
  inits_property name _ f m = faults WrongKind m

  -- a method of an object, read as a listener
  abbrev pub gets_method : Name → List Operand → CodeFrame → Machine → Moved
  gets_method name (operand.Value (value.Ref o) ∷ stack) f m =
      pushes_found NotHere (option_map (λ method. operand.Value (value.Listener o method)) (class_method (object_at m.stage o) name)) (record f { stack = stack }) m
  gets_method name _ f m = faults WrongKind m

  abbrev pub gets_property : Option Name → CodeFrame → Machine → Moved
  gets_property None f m = faults NoName m
  gets_property (Some name) f m = gets_method name f.stack f m

  -- one instruction of a frame that was taken off, and stands behind the instruction
  abbrev pub act : Instruction → CodeFrame → Machine → Moved
  act (PushString string) f m = pushes_found WrongKind (option_map (λ text. operand.Value (value.Text text)) (string_at abc string)) f m
  act (PushInt int) f m = pushes_found WrongKind (option_map (λ n. operand.Value (value.Int n)) (entry abc.constant_pool.integers int)) f m
  act ReturnVoid f m = returns_void f m
  act (ConstructSuper count) f m = construct_super count f m
  act (ConstructProp name count) f m = construct_prop name count f m
  act (CallPropVoid name count) f m = calls (name_at abc name) count f m
  act (NewClass c) f m = new_class c f.stack f m
  act (FindPropStrict name) f m = pushes_found NoName (holder (name_at abc name)) f m
  act (GetLex name) f m = pushes_found NoName (option_map (λ c. operand.Class (class.Native c)) (native_at abc name)) f m
  act (SetProperty name) f m = sets_property (public_at abc name) f.stack f m
  act (GetProperty name) f m = gets_property (name_at abc name) f m
  act (InitProperty name) f m = inits_property name f.stack f m
  act GetLocal0 f m = pushes_found WrongKind (slice_get f.locals 0) f m
  act GetLocal1 f m = pushes_found WrongKind (slice_get f.locals 1) f m
  act SetLocal1 f m = sets_local 1 f.stack f m
  act _ f m = faults NotHere m

  abbrev pub executes : Option (Instruction × ℕ) → CodeFrame → Machine → Moved
  executes None f m = faults NotHere m
  executes (Some r) f m = act r.0 (record f { pc = r.1 }) m

  -- a listener is called with the event, and hears it once it has started
  abbrev pub hears : Call → Dispatch → Machine → Moved
  hears c d m =
      if hears_clicks abc c.method then
      entered (Some (Heard c.node d.kind (phase_number c.phase))) c.method (operand.Value (value.Ref c.object) ∷ operand.Value (value.Ref d.event) ∷ []) m
      else faults NotHere m

  -- what is next of a dispatch that was taken off
  abbrev pub dispatches : List Call → List Arrival → Dispatch → Machine → Moved
  dispatches (c ∷ calls) nodes d m = hears c d (opens (frame.Dispatch (record d { calls = calls })) m)
  dispatches [] (a ∷ nodes) d m = arrives a nodes d m
  dispatches [] [] d m = silent m

  -- the next step of a frame that was taken off
  abbrev pub continues : Frame → Machine → Moved
  continues (frame.Code f) m = executes (fetch abc f) f m
  continues (frame.User line) m = recorded (User line) m
  continues (frame.Miss path) m = recorded (Missed path) m
  continues frame.UnknownState m = ends (Stopped UnknownState) m
  continues (frame.Sending c) m = sends c m
  continues (frame.Dispatch d) m = dispatches d.calls d.nodes d m

  -- the constructor of the main object, which was made, is an activity
  abbrev pub begins_main : ℕ → List ℕ → ObjId → Machine → Moved
  begins_main constructor main o m = moved (entered None constructor (operand.Value (value.Ref o) ∷ []) (record m { main = Some o })).machine (Some (Made o main))

  abbrev pub makes_main : InstanceInfo → List ℕ → Option (List Slot) → Machine → Moved
  makes_main instance main None m = faults NotHere m
  makes_main instance main (Some slots) m =
      and_then (makes (class.File 0) slots (length slots) m) (begins_main instance.iinit main)

  abbrev pub main_named : List ℕ → InstanceInfo → Option (List ℕ) → Machine → Moved
  main_named main instance None m = faults NoName m
  main_named main instance (Some name) m =
      if bytes_eq name main then makes_main instance main (declared_onto abc instance.traits []) m else faults NoName m

  abbrev pub main_of : List ℕ → Option InstanceInfo → Option Bool → Machine → Moved
  main_of main (Some instance) (Some true) m = main_named main instance (public_at abc instance.name) m
  main_of main _ _ m = faults NoName m

  abbrev pub inits_script : ℕ → Option ScriptInfo → Machine → Machine
  inits_script n None m = record m { load = load.Main }
  inits_script n (Some script) m = opened script.init (operand.Script n ∷ []) false (record m { load = load.Scripts (suc n) })

  abbrev pub loads : List ℕ → Load → Machine → Moved
  loads main (load.Scripts n) m = silent (inits_script n (slice_get abc.scripts n) m)
  loads main load.Main m = main_of main (slice_get abc.instances 0) (slice_get m.made 0) (record m { load = load.Done })
  loads main load.Done m = silent m

  abbrev pub steps : List ℕ → List Frame → Machine → Moved
  steps main [] m = loads main m.load m
  steps main (f ∷ frames) m = continues f (record m { frames = frames })

  -- one step
  abbrev pub step : List ℕ → Machine → Moved
  step main m = steps main m.frames m

-- whether no frame is open and nothing of the load remains
abbrev pub idle_with : List Frame → Load → Bool
idle_with [] load.Done = true
idle_with _ _ = false

abbrev pub idle : Machine → Bool
idle m = idle_with m.frames m.load

-- how the machine came to rest, if it has: its play is over, or it is idle
abbrev pub result_of : Machine → Option Outcome
result_of m = option_or m.outcome (if idle m then Some Ended else None)

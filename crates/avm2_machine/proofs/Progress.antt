-- Each step of a play that isn't over lowers what remains of it.
use Rattle.std.proofs.Common.{◌≡◌, ℕ, zero, suc, ◌+◌, ◌-◌, ◌<◌, ◌≤◌, List, [], ◌∷◌, length, Bool, true, false, Option, Some, None, Ok, Err, refl, sym, ap, subst, arith, slice_set}
use Rattle.std.specs.Prelude.{Result, IfOk, OnOk, slice_get, if◌then◌else◌, nat_lt, ◌==◌, option_map, codes}
use Rattle.std.specs.Option.{option_or}
use Rattle.std.specs.Result.{result_ok}
use Rattle.std.specs.Str.{bytes_eq}
use Rattle.abc_format.specs.declared.records.Abc.{Abc}
use Rattle.abc_format.specs.declared.records.ClassInfo.{ClassInfo}
use Rattle.abc_format.specs.declared.records.InstanceInfo.{InstanceInfo}
use Rattle.abc_format.specs.declared.records.MethodBody.{MethodBody}
use Rattle.abc_format.specs.declared.records.ScriptInfo.{ScriptInfo}
use Rattle.flex_base.specs.Value.{same}
use Rattle.flex_base.specs.declared.outcome.MachineFault.{MachineFault}
use Rattle.flex_base.specs.declared.outcome.MachineFault.TheVariants.{NoName, WrongKind, WrongCount, NotHere}
use Rattle.flex_base.specs.declared.outcome.Outcome.{Outcome}
use Rattle.flex_base.specs.declared.outcome.Outcome.TheVariants.{Ended, Stopped, Fault}
use Rattle.flex_base.specs.declared.outcome.Stop.TheVariants.{Depth, Cells}
use Rattle.flex_base.specs.declared.memory.NoMemory.{NoMemory}
use Rattle.flex_base.specs.declared.record.TraceItem.{TraceItem}
use Rattle.flex_base.specs.declared.record.TraceItem.TheVariants.{Made, Written, Heard, Sent}
use Rattle.flex_base.specs.declared.value.ObjId.{ObjId}
use Rattle.flex_base.specs.declared.value.Value.{Value}
use Rattle.flex_base.specs.declared.value.Value.TheVariants as value
use Rattle.avm2_machine.specs.declared.catalog.NativeClass.{NativeClass}
use Rattle.flex_base.specs.declared.event.Arrival.{Arrival}
use Rattle.avm2_machine.specs.declared.dispatch.Call.{Call}
use Rattle.avm2_machine.specs.declared.dispatch.Sending.{Sending}
use Rattle.avm2_machine.specs.declared.dispatch.Dispatch.{Dispatch}
use Rattle.avm2_machine.specs.declared.frame.CodeFrame.{CodeFrame}
use Rattle.avm2_machine.specs.declared.frame.Frame.{Frame}
use Rattle.avm2_machine.specs.declared.frame.Frame.TheVariants as frame
use Rattle.avm2_machine.specs.declared.frame.Operand.{Operand}
use Rattle.avm2_machine.specs.declared.frame.Operand.TheVariants as operand
use Rattle.avm2_code.specs.declared.instruction.Instruction.{Instruction}
use Rattle.avm2_code.specs.declared.instruction.Instruction.TheVariants.{PushString, PushInt, ReturnVoid, ConstructSuper, ConstructProp, CallPropVoid, NewClass, FindPropStrict, GetLex, SetProperty, InitProperty, GetProperty, GetLocal0, GetLocal1, SetLocal1}
use Rattle.avm2_machine.specs.declared.machine.Load.{Load}
use Rattle.avm2_machine.specs.declared.machine.Load.TheVariants as load
use Rattle.avm2_machine.specs.declared.machine.Machine.{Machine}
use Rattle.avm2_machine.specs.declared.stage.Class.{Class}
use Rattle.avm2_machine.specs.declared.stage.Class.TheVariants as class
use Rattle.avm2_machine.specs.declared.stage.Slot.{Slot}
use Rattle.avm2_machine.specs.declared.stage.Stage.{Stage}
use Rattle.avm2_code.specs.Reading.{Reading, instruction_at}
use Rattle.avm2_code.proofs.InstructionLaws.{read_stands, standing-bounds}
use Rattle.avm2_machine.specs.Machine.{Moved, moved, Unmade, IsMade, and_then, makes, opens, with_frame, with_operand, ended, ends, faults, silent, recorded, goes_on, pushes_found, returns_void, supers, construct_super, makes_native, constructs, construct_prop, adds, places, listens, traces, enters_found, class_method, calls_method, calls, makes_class, new_class, writes, writes_slot, writes_public, sets_property, gets_method, gets_property, inits_property, sets_local, act, executes, opens_body, with_turn, enters_body, entered, sends, hears, dispatches, continues, begins_main, makes_main, main_named, main_of, inits_script, loads, steps, step, idle_with, idle, result_of}
use Rattle.flex_base.specs.Lists.{entry}
use Rattle.avm2_machine.specs.Names.{Name, string_at, name_at, native_at, class_name, is_name, holder}
use Rattle.flex_base.specs.Events.{phase_number, click}
use Rattle.avm2_machine.specs.Progress.{total_code, longest, times, unmade, code_length, frame_left, left_of, frames_left, load_left, work_left, left_with, remaining}
use Rattle.avm2_machine.specs.Stage.{object_at, property, is_of, native_slots, too_many_cells, next_object, with_object, with_property, next_place, children_of, with_child, with_listener}
use Rattle.avm2_machine.specs.Tables.{fetch, fetch_in, body_of, public_at, declared_onto, has_class_trait, hears_clicks}

-- what remains is at most one more than the work that is left
left_le : (o : Option Outcome) (n : ℕ) → left_with o n ≤ suc n
left_le None n = omega arith
left_le (Some o) n = omega arith

-- no body is longer than all of them
code_le : (bodies : List MethodBody) (n : ℕ) → code_length (slice_get bodies n) ≤ total_code bodies
code_le [] n = omega arith
code_le (b ∷ bodies) zero = omega arith
code_le (b ∷ bodies) (suc n) = omega (arith, code_le bodies n)

-- a script that there is has a number below the count of the scripts
get_lt : {A : Type 0} (xs : List A) (n : ℕ) (x : A) → slice_get xs n ≡ Some x → n < length xs
get_lt [] n x h = absurd (cc)
get_lt (y ∷ xs) zero x h = omega arith
get_lt (y ∷ xs) (suc n) x h = omega (arith, get_lt xs n x h)

-- the making of a class leaves one class less to make
unmade_set : (made : List Bool) (c : ℕ) → slice_get made c ≡ Some false → suc (unmade (slice_set made c true)) ≡ unmade made
unmade_set [] c h = absurd (cc)
unmade_set (false ∷ made) zero h = refl
unmade_set (true ∷ made) zero h = absurd (cc)
unmade_set (false ∷ made) (suc c) h = ap suc (unmade_set made c h)
unmade_set (true ∷ made) (suc c) h = unmade_set made c h

-- the frame of a body that is opened is below the longest
opens_lowers : (abc : Abc) (b : Option ℕ) (given : List Operand) (t : Bool) (m : Machine) → remaining abc (opens_body abc b given t m) < suc (longest abc + work_left abc m)
opens_lowers abc None given t m = omega arith
opens_lowers abc (Some body) given t m =
    let short = code_le abc.method_bodies body in
    omega (arith, short, left_le m.outcome (work_left abc (opens_body abc (Some body) given t m)))

-- a frame that goes on, whatever its stack and its locals are
goes_on_le : (abc : Abc) (f : CodeFrame) (m : Machine) → remaining abc (with_frame f m) ≤ suc (frame_left abc f + work_left abc m)
goes_on_le abc f m = let h = left_le m.outcome (work_left abc (with_frame f m)) in omega arith

-- what holds of both moves holds of the one that a test picks
if_le : (abc : Abc) (n : ℕ) (t : Bool) (a b : Moved) → remaining abc a.machine ≤ n → remaining abc b.machine ≤ n → remaining abc (if t then a else b).machine ≤ n
if_le abc n true a b p q = p
if_le abc n false a b p q = q

-- an activity pays its frame with its turn
with_turn_le : (abc : Abc) (turns : ℕ) (item : Option TraceItem) (body : ℕ) (given : List Operand) (m : Machine) → m.turns ≡ turns → remaining abc (with_turn abc turns item body given m).machine ≤ work_left abc m
with_turn_le abc zero item body given m h = omega arith
with_turn_le abc (suc turns) item body given m h =
    let opens = opens_lowers abc (Some body) given true (record m { level = m.level + 1; turns = turns }) in
    let paid : times m.turns (longest abc) ≡ longest abc + times turns (longest abc) = ap (λ t. times t (longest abc)) h in
    omega (arith, opens, paid)

-- so does one that may also be too deep
enters_body_le : (abc : Abc) (item : Option TraceItem) (body : Option ℕ) (given : List Operand) (m : Machine) → remaining abc (enters_body abc item body given m).machine ≤ work_left abc m
enters_body_le abc item None given m = omega arith
enters_body_le abc item (Some body) given m =
    if_le abc (work_left abc m) (nat_lt m.level 256) (with_turn abc m.turns item body given m) (ends (Stopped Depth) m)
    (with_turn_le abc m.turns item body given m refl) (omega arith)

-- so does a call of a method, if it has a body
entered_le : (abc : Abc) (item : Option TraceItem) (method : ℕ) (given : List Operand) (m : Machine) → remaining abc (entered abc item method given m).machine ≤ work_left abc m
entered_le abc item method given m = enters_body_le abc item (body_of abc method) given m

-- an instruction that was read has a byte at least, and all of its bytes stand in the code
abbrev Fits : ℕ → ℕ → Option (Instruction × ℕ) → Type 0
Fits size pc None = Unit {0}
Fits size pc (Some r) = (pc < r.1) × (r.1 ≤ size)

-- a frame has an instruction only before the end of its code
fits_fetch : (body : Option MethodBody) (pc : ℕ) → Fits (code_length body) pc (fetch_in body pc)
fits_fetch None pc = tt
fits_fetch (Some body) pc = cases (instruction_at body.code pc) refl
  where
    cases : (r : Reading (Instruction × ℕ)) → instruction_at body.code pc ≡ r → Fits (length body.code) pc (result_ok r)
    cases (Ok r) e = standing-bounds body.code pc r.0 r.1 (read_stands body.code pc r e)
    cases (Err reason) e = tt

-- the making of an object changes the stage alone, unless it ends the play: by the two tests of its limits
made_le : (abc : Abc) (n : ℕ) (c : Class) (slots : List Slot) (declared : ℕ) (m : Machine) (k : ObjId → Machine → Moved) → ((o : ObjId) (s : Stage) → remaining abc (k o (record m { stage = s })).machine ≤ n) → (cells few : Bool) → remaining abc (and_then (if cells then Unmade (ended (Stopped Cells) m) else if few then IsMade (next_object m.stage) (record m { stage = with_object c slots declared m.stage }) else Unmade (ended (Fault NotHere) m)) k).machine ≤ n
made_le abc n c slots declared m k h true few = omega arith
made_le abc n c slots declared m k h false true = h (next_object m.stage) (with_object c slots declared m.stage)
made_le abc n c slots declared m k h false false = omega arith

-- the same of the making itself
makes_le : (abc : Abc) (n : ℕ) (c : Class) (slots : List Slot) (declared : ℕ) (m : Machine) (k : ObjId → Machine → Moved) → ((o : ObjId) (s : Stage) → remaining abc (k o (record m { stage = s })).machine ≤ n) → remaining abc (and_then (makes c slots declared m) k).machine ≤ n
makes_le abc n c slots declared m k h = made_le abc n c slots declared m k h (too_many_cells declared m.stage) (nat_lt (length m.stage.objects) 4294967295)

-- what a frame that was taken off leaves at most, if it goes on
abbrev with_left : Abc → CodeFrame → Machine → ℕ
with_left abc f m = suc (frame_left abc f + work_left abc m)

-- an operand that is pushed, if it was found
pushes_le : (abc : Abc) (fault : MachineFault) (v : Option Operand) (f : CodeFrame) (m : Machine) → remaining abc (pushes_found fault v f m).machine ≤ with_left abc f m
pushes_le abc fault None f m = omega arith
pushes_le abc fault (Some v) f m = goes_on_le abc (with_operand v f) m

-- the end of a frame
returns_le : (abc : Abc) (f : CodeFrame) (m : Machine) → remaining abc (returns_void f m).machine ≤ with_left abc f m
returns_le abc f m =
    let h = left_le m.outcome (work_left abc m) in
    elim f.is_activity as (λ t. remaining abc (if t then record m { level = m.level - 1 } else m) ≤ with_left abc f m) [ true ↦ omega arith | false ↦ omega arith ]

-- the constructor of the base class, which does nothing
supers_le : (abc : Abc) (stack : List Operand) (f : CodeFrame) (m : Machine) → remaining abc (supers stack f m).machine ≤ with_left abc f m
supers_le abc (operand.Value (value.Ref o) ∷ stack) f m = goes_on_le abc (record f { stack = stack }) m
supers_le abc _ f m = omega arith

-- the same with its count of arguments
construct_super_le : (abc : Abc) (count : ℕ) (f : CodeFrame) (m : Machine) → remaining abc (construct_super count f m).machine ≤ with_left abc f m
construct_super_le abc count f m = if_le abc (with_left abc f m) (count == 0) (supers f.stack f m) (faults WrongCount m) (supers_le abc f.stack f m) (omega arith)

-- the making of an object of a native class
makes_native_le : (abc : Abc) (c : Option NativeClass) (f : CodeFrame) (m : Machine) → remaining abc (makes_native c f m).machine ≤ with_left abc f m
makes_native_le abc None f m = omega arith
makes_native_le abc (Some c) f m =
    makes_le abc (with_left abc f m) (class.Native c) (native_slots c) 0 m (λ o m1. recorded (Made o (class_name c)) (with_frame (with_operand (operand.Value (value.Ref o)) f) m1))
    (λ o s. goes_on_le abc (with_operand (operand.Value (value.Ref o)) f) (record m { stage = s }))

-- the same for the operand under it
constructs_le : (abc : Abc) (name : ℕ) (stack : List Operand) (f : CodeFrame) (m : Machine) → remaining abc (constructs abc name stack f m).machine ≤ with_left abc f m
constructs_le abc name (operand.Natives ∷ stack) f m = makes_native_le abc (native_at abc name) (record f { stack = stack }) m
constructs_le abc name _ f m = omega arith

-- the same with its count of arguments
construct_prop_le : (abc : Abc) (name count : ℕ) (f : CodeFrame) (m : Machine) → remaining abc (construct_prop abc name count f m).machine ≤ with_left abc f m
construct_prop_le abc name count f m = if_le abc (with_left abc f m) (count == 0) (constructs abc name f.stack f m) (faults WrongCount m) (constructs_le abc name f.stack f m) (omega arith)

-- the adding of a child, if it has a place
adds_le : (abc : Abc) (place : Option ℕ) (parent child : ObjId) (f : CodeFrame) (m : Machine) → remaining abc (adds place parent child f m).machine ≤ with_left abc f m
adds_le abc None parent child f m = omega arith
adds_le abc (Some place) parent child f m = goes_on_le abc f (record m { stage = with_child parent child m.stage })

-- the runtime call `place`
places_le : (abc : Abc) (stack : List Operand) (f : CodeFrame) (m : Machine) → remaining abc (places stack f m).machine ≤ with_left abc f m
places_le abc (operand.Value (value.Int rank) ∷ operand.Value (value.Ref child) ∷ operand.Value (value.Ref parent) ∷ operand.Value (value.Ref document) ∷ stack) f m =
    adds_le abc (next_place (children_of (object_at m.stage parent))) parent child (record f { stack = stack }) m
places_le abc _ f m = omega arith

-- the adding of a listener with the operands on the stack
listens_le : (abc : Abc) (stack : List Operand) (f : CodeFrame) (m : Machine) → remaining abc (listens stack f m).machine ≤ with_left abc f m
listens_le abc (operand.Value (value.Listener object method) ∷ operand.Value (value.Text kind) ∷ operand.Value (value.Ref o) ∷ stack) f m =
    goes_on_le abc (record f { stack = stack }) (record m { stage = with_listener o (record { event = kind; object = object; method = method }) m.stage })
listens_le abc _ f m = omega arith

-- a text that is traced
traces_le : (abc : Abc) (stack : List Operand) (f : CodeFrame) (m : Machine) → remaining abc (traces stack f m).machine ≤ with_left abc f m
traces_le abc (operand.Value (value.Text text) ∷ operand.Natives ∷ stack) f m = goes_on_le abc (record f { stack = stack }) m
traces_le abc _ f m = omega arith

-- a call of a method, if it was found
enters_le : (abc : Abc) (method : Option ℕ) (o : ObjId) (f : CodeFrame) (m : Machine) → remaining abc (enters_found abc method o f m).machine ≤ with_left abc f m
enters_le abc None o f m = omega arith
enters_le abc (Some method) o f m = omega (arith, entered_le abc None method (operand.Value (value.Ref o) ∷ []) (with_frame f m))

-- a call of a method of the receiver that is on the stack
calls_method_le : (abc : Abc) (name : Name) (stack : List Operand) (f : CodeFrame) (m : Machine) → remaining abc (calls_method abc name stack f m).machine ≤ with_left abc f m
calls_method_le abc name (operand.Value (value.Ref o) ∷ stack) f m =
    enters_le abc (class_method abc (object_at m.stage o) name) o (record f { stack = stack }) m
calls_method_le abc name _ f m = omega arith

-- a call with so many arguments, if it has them
counted_le : (abc : Abc) (few : Bool) (call : Moved) (f : CodeFrame) (m : Machine) → remaining abc call.machine ≤ with_left abc f m → remaining abc (if few then call else faults WrongCount m).machine ≤ with_left abc f m
counted_le abc few call f m h = if_le abc (with_left abc f m) few call (faults WrongCount m) h (omega arith)

-- a call by its name
calls_le : (abc : Abc) (name : Option Name) (count : ℕ) (f : CodeFrame) (m : Machine) → remaining abc (calls abc name count f m).machine ≤ with_left abc f m
calls_le abc None count f m = omega arith
calls_le abc (Some name) count f m =
    let n = with_left abc f m in
    let method : Moved = if count == 0 then calls_method abc name f.stack f m else faults WrongCount m in
    let trace : Moved = if count == 1 then traces f.stack f m else faults WrongCount m in
    let listen : Moved = if count == 2 then listens f.stack f m else faults WrongCount m in
    let place : Moved = if count == 3 then places f.stack f m else faults WrongCount m in
    let traced : Moved = if is_name name [] (codes "trace") then trace else method in
    let listened : Moved = if is_name name [] (codes "addEventListener") then listen else traced in
    if_le abc n (is_name name (codes "flexc") (codes "place")) place listened
    (counted_le abc (count == 3) (places f.stack f m) f m (places_le abc f.stack f m))
    (if_le abc n (is_name name [] (codes "addEventListener")) listen traced
    (counted_le abc (count == 2) (listens f.stack f m) f m (listens_le abc f.stack f m))
    (if_le abc n (is_name name [] (codes "trace")) trace method
    (counted_le abc (count == 1) (traces f.stack f m) f m (traces_le abc f.stack f m))
    (counted_le abc (count == 0) (calls_method abc name f.stack f m) f m (calls_method_le abc name f.stack f m))))

-- the code of a class is paid by the mark of the class
makes_class_le : (abc : Abc) (c : ℕ) (info : Option ClassInfo) (made : Option Bool) (f : CodeFrame) (m : Machine) → slice_get m.made c ≡ made → remaining abc (makes_class abc c info made f m).machine ≤ with_left abc f m
makes_class_le abc c (Some info) (Some false) f m h =
    let opens =
    opens_lowers abc (body_of abc info.cinit) (operand.Class (class.File c) ∷ []) false
    (with_frame (with_operand (operand.Class (class.File c)) f) (record m { made = slice_set m.made c true })) in
    let paid : longest abc + times (unmade (slice_set m.made c true)) (longest abc) ≡ times (unmade m.made) (longest abc) = ap (λ n. times n (longest abc)) (unmade_set m.made c h) in
    omega (arith, opens, paid)
makes_class_le abc c _ _ f m h = omega arith

-- the making of a class of the file
new_class_le : (abc : Abc) (c : ℕ) (stack : List Operand) (f : CodeFrame) (m : Machine) → remaining abc (new_class abc c stack f m).machine ≤ with_left abc f m
new_class_le abc c (operand.Class (class.Native base) ∷ stack) f m = makes_class_le abc c (slice_get abc.classes c) (slice_get m.made c) (record f { stack = stack }) m refl
new_class_le abc c _ f m = omega arith

-- a write of a property, if the object has it
writes_le : (abc : Abc) (o : ObjId) (name : List ℕ) (v : Value) (slot : Option Slot) (f : CodeFrame) (m : Machine) → remaining abc (writes_slot o name v slot f m).machine ≤ with_left abc f m
writes_le abc o name v None f m = omega arith
writes_le abc o name v (Some slot) f m =
    let n = with_left abc f m in
    if_le abc n (is_of m.stage v slot.kind) (writes o name slot.value v (with_frame f m)) (faults NotHere m)
    (if_le abc n (same slot.value v) (silent (with_frame f m)) (recorded (Written o name v) (record (with_frame f m) { stage = with_property o name v m.stage }))
    (goes_on_le abc f m) (goes_on_le abc f (record m { stage = with_property o name v m.stage })))
    (omega arith)

-- a write of a property by its public name
writes_public_le : (abc : Abc) (o : ObjId) (name : Option (List ℕ)) (v : Value) (f : CodeFrame) (m : Machine) → remaining abc (writes_public o name v f m).machine ≤ with_left abc f m
writes_public_le abc o None v f m = omega arith
writes_public_le abc o (Some name) v f m = writes_le abc o name v (property m.stage o name) f m

-- a write of a property with the operands on the stack
sets_property_le : (abc : Abc) (name : Option (List ℕ)) (stack : List Operand) (f : CodeFrame) (m : Machine) → remaining abc (sets_property name stack f m).machine ≤ with_left abc f m
sets_property_le abc name (operand.Value v ∷ operand.Value (value.Ref o) ∷ stack) f m = writes_public_le abc o name v (record f { stack = stack }) m
sets_property_le abc name _ f m = omega arith

-- the naming of a class that was made
inits_property_le : (abc : Abc) (name : ℕ) (stack : List Operand) (f : CodeFrame) (m : Machine) → remaining abc (inits_property abc name stack f m).machine ≤ with_left abc f m
inits_property_le abc name (operand.Class (class.File c) ∷ operand.Script script ∷ stack) f m =
    if_le abc (with_left abc f m) (has_class_trait abc script name c) (goes_on (record f { stack = stack }) m) (faults NoName m) (goes_on_le abc (record f { stack = stack }) m) (omega arith)
inits_property_le abc name _ f m = omega arith

-- a write of a local
sets_local_le : (abc : Abc) (n : ℕ) (stack : List Operand) (f : CodeFrame) (m : Machine) → remaining abc (sets_local n stack f m).machine ≤ with_left abc f m
sets_local_le abc n [] f m = omega arith
sets_local_le abc n (v ∷ stack) f m =
    if_le abc (with_left abc f m) (nat_lt n (length f.locals)) (goes_on (record f { stack = stack; locals = slice_set f.locals n v }) m) (faults WrongKind m)
    (goes_on_le abc (record f { stack = stack; locals = slice_set f.locals n v }) m) (omega arith)

-- a method of the receiver that is on the stack, read as a listener
gets_method_le : (abc : Abc) (name : Name) (stack : List Operand) (f : CodeFrame) (m : Machine) → remaining abc (gets_method abc name stack f m).machine ≤ with_left abc f m
gets_method_le abc name (operand.Value (value.Ref o) ∷ stack) f m =
    pushes_le abc NotHere (option_map (λ method. operand.Value (value.Listener o method)) (class_method abc (object_at m.stage o) name)) (record f { stack = stack }) m
gets_method_le abc name _ f m = omega arith

-- the same by its name, if it has one
gets_property_le : (abc : Abc) (name : Option Name) (f : CodeFrame) (m : Machine) → remaining abc (gets_property abc name f m).machine ≤ with_left abc f m
gets_property_le abc None f m = omega arith
gets_property_le abc (Some name) f m = gets_method_le abc name f.stack f m

-- what an instruction leaves at most
act_le : (abc : Abc) (i : Instruction) (f : CodeFrame) (m : Machine) → remaining abc (act abc i f m).machine ≤ with_left abc f m
act_le abc (PushString string) f m = pushes_le abc WrongKind (option_map (λ text. operand.Value (value.Text text)) (string_at abc string)) f m
act_le abc (PushInt int) f m = pushes_le abc WrongKind (option_map (λ n. operand.Value (value.Int n)) (entry abc.constant_pool.integers int)) f m
act_le abc ReturnVoid f m = returns_le abc f m
act_le abc (ConstructSuper count) f m = construct_super_le abc count f m
act_le abc (ConstructProp name count) f m = construct_prop_le abc name count f m
act_le abc (CallPropVoid name count) f m = calls_le abc (name_at abc name) count f m
act_le abc (NewClass c) f m = new_class_le abc c f.stack f m
act_le abc (FindPropStrict name) f m = pushes_le abc NoName (holder (name_at abc name)) f m
act_le abc (GetLex name) f m = pushes_le abc NoName (option_map (λ c. operand.Class (class.Native c)) (native_at abc name)) f m
act_le abc (SetProperty name) f m = sets_property_le abc (public_at abc name) f.stack f m
act_le abc (GetProperty name) f m = gets_property_le abc (name_at abc name) f m
act_le abc (InitProperty name) f m = inits_property_le abc name f.stack f m
act_le abc GetLocal0 f m = pushes_le abc WrongKind (slice_get f.locals 0) f m
act_le abc GetLocal1 f m = pushes_le abc WrongKind (slice_get f.locals 1) f m
act_le abc SetLocal1 f m = sets_local_le abc 1 f.stack f m
act_le abc _ f m = omega arith

-- an instruction that was read takes its bytes off what is left of the frame
executes_lowers : (abc : Abc) (r : Option (Instruction × ℕ)) (f : CodeFrame) (m : Machine) → Fits (code_length (slice_get abc.method_bodies f.body)) f.pc r → remaining abc (executes abc r f m).machine < with_left abc f m
executes_lowers abc None f m fits = omega arith
executes_lowers abc (Some r) f m fits =
    let acts = act_le abc r.0 (record f { pc = r.1 }) m in
    omega (arith, acts, fits.0, fits.1)

-- the constructor of the main object
makes_main_le : (abc : Abc) (instance : InstanceInfo) (main : List ℕ) (slots : Option (List Slot)) (m : Machine) → remaining abc (makes_main abc instance main slots m).machine ≤ suc (work_left abc m)
makes_main_le abc instance main None m = omega arith
makes_main_le abc instance main (Some slots) m =
    makes_le abc (suc (work_left abc m)) (class.File 0) slots (length slots) m (begins_main abc instance.iinit main)
    (λ o s. omega (arith, entered_le abc None instance.iinit (operand.Value (value.Ref o) ∷ []) (record m { stage = s; main = Some o })))

-- the making of the main object, if the first class has its name
main_named_le : (abc : Abc) (main : List ℕ) (instance : InstanceInfo) (name : Option (List ℕ)) (m : Machine) → remaining abc (main_named abc main instance name m).machine ≤ suc (work_left abc m)
main_named_le abc main instance None m = omega arith
main_named_le abc main instance (Some name) m =
    if_le abc (suc (work_left abc m)) (bytes_eq name main) (makes_main abc instance main (declared_onto abc instance.traits []) m) (faults NoName m)
    (makes_main_le abc instance main (declared_onto abc instance.traits []) m) (omega arith)

-- the making of the main object, if the first class was made
main_of_le : (abc : Abc) (main : List ℕ) (instance : Option InstanceInfo) (made : Option Bool) (m : Machine) → remaining abc (main_of abc main instance made m).machine ≤ suc (work_left abc m)
main_of_le abc main (Some instance) (Some true) m = main_named_le abc main instance (public_at abc instance.name) m
main_of_le abc main _ _ m = omega arith

-- one script less to run
scripts_left : (abc : Abc) (n : ℕ) (script : ScriptInfo) → slice_get abc.scripts n ≡ Some script → longest abc + times (length abc.scripts - suc n) (longest abc) ≡ times (length abc.scripts - n) (longest abc)
scripts_left abc n script h =
    let lt = get_lt abc.scripts n script h in
    let e : suc (length abc.scripts - suc n) ≡ length abc.scripts - n = omega (arith, lt) in
    ap (λ k. times k (longest abc)) e

-- the code of a script is paid by the script
inits_lowers : (abc : Abc) (n : ℕ) (script : Option ScriptInfo) (m : Machine) → slice_get abc.scripts n ≡ script → m.load ≡ load.Scripts n → remaining abc (inits_script abc n script m) < suc (work_left abc m)
inits_lowers abc n None m h e =
    let left : load_left abc m.load ≡ load_left abc (load.Scripts n) = ap (load_left abc) e in
    omega (arith, left, left_le m.outcome (work_left abc (record m { load = load.Main })))
inits_lowers abc n (Some script) m h e =
    let left : load_left abc m.load ≡ load_left abc (load.Scripts n) = ap (load_left abc) e in
    let opens = opens_lowers abc (body_of abc script.init) (operand.Script n ∷ []) false (record m { load = load.Scripts (suc n) }) in
    omega (arith, left, opens, scripts_left abc n script h)

-- a step of the load
loads_lowers : (abc : Abc) (main : List ℕ) (l : Load) (m : Machine) → m.load ≡ l → idle_with [] l ≡ false → remaining abc (loads abc main l m).machine < suc (work_left abc m)
loads_lowers abc main (load.Scripts n) m e h = inits_lowers abc n (slice_get abc.scripts n) m refl e
loads_lowers abc main load.Main m e h =
    let left : load_left abc m.load ≡ 1 = ap (load_left abc) e in
    omega (arith, left, main_of_le abc main (slice_get abc.instances 0) (slice_get m.made 0) (record m { load = load.Done }))
loads_lowers abc main load.Done m e h = absurd (cc)

-- the event of a click is made, and its dispatch begins
sends_le : (abc : Abc) (c : Sending) (m : Machine) → remaining abc (sends c m).machine ≤ suc (suc (length c.nodes) + work_left abc m)
sends_le abc c m =
    makes_le abc (suc (suc (length c.nodes) + work_left abc m)) class.MouseEvent [] 0 m
    (λ e m1. recorded (Sent c.target click) (opens (frame.Dispatch (record { event = e; kind = click; calls = []; nodes = c.nodes })) m1))
    (λ e s. omega (arith, left_le m.outcome (work_left abc (opens (frame.Dispatch (record { event = e; kind = click; calls = []; nodes = c.nodes })) (record m { stage = s })))))

-- the call of a listener is paid by its turn
hears_le : (abc : Abc) (c : Call) (d : Dispatch) (m : Machine) → remaining abc (hears abc c d m).machine ≤ work_left abc m
hears_le abc c d m =
    let item : Option TraceItem = Some (Heard c.node d.kind (phase_number c.phase)) in
    let given : List Operand = operand.Value (value.Ref c.object) ∷ operand.Value (value.Ref d.event) ∷ [] in
    if_le abc (work_left abc m) (hears_clicks abc c.method) (entered abc item c.method given m) (faults NotHere m)
    (entered_le abc item c.method given m) (omega arith)

-- what is next of a dispatch is paid by a turn, by a node, or by its end
dispatches_le : (abc : Abc) (calls : List Call) (nodes : List Arrival) (d : Dispatch) (m : Machine) → d.nodes ≡ nodes → remaining abc (dispatches abc calls nodes d m).machine ≤ suc (length nodes) + work_left abc m
dispatches_le abc (c ∷ calls) nodes d m e =
    let same : length d.nodes ≡ length nodes = ap length e in
    omega (arith, same, hears_le abc c d (opens (frame.Dispatch (record d { calls = calls })) m))
dispatches_le abc [] (a ∷ nodes) d m e = omega (arith, left_le m.outcome (work_left abc (opens (frame.Dispatch (record d { nodes = nodes })) m)))
dispatches_le abc [] [] d m e = omega (arith, left_le m.outcome (work_left abc m))

-- a step of a frame that was taken off
continues_lowers : (abc : Abc) (f : Frame) (m : Machine) → remaining abc (continues abc f m).machine < suc (left_of abc f + work_left abc m)
continues_lowers abc (frame.Code f) m = executes_lowers abc (fetch abc f) f m (fits_fetch (slice_get abc.method_bodies f.body) f.pc)
continues_lowers abc (frame.User line) m = omega (arith, left_le m.outcome (work_left abc m))
continues_lowers abc (frame.Miss name) m = omega (arith, left_le m.outcome (work_left abc m))
continues_lowers abc frame.UnknownState m = omega arith
continues_lowers abc (frame.Sending c) m = omega (arith, sends_le abc c m)
continues_lowers abc (frame.Dispatch d) m = omega (arith, dispatches_le abc d.calls d.nodes d m refl)

-- a step of a play whose outcome is open
steps_lowers : (abc : Abc) (main : List ℕ) (frames : List Frame) (m : Machine) → m.frames ≡ frames → idle_with frames m.load ≡ false → remaining abc (steps abc main frames m).machine < suc (work_left abc m)
steps_lowers abc main [] m e h = loads_lowers abc main m.load m refl h
steps_lowers abc main (f ∷ frames) m e h =
    let left : frames_left abc m.frames ≡ left_of abc f + frames_left abc frames = ap (frames_left abc) e in
    omega (arith, left, continues_lowers abc f (record m { frames = frames }))

-- a machine that has no result isn't idle
not_idle : (t : Bool) → (if t then Some Ended else None) ≡ None → t ≡ false
not_idle true h = cc
not_idle false h = refl

-- the same, by the outcome so far
going_lowers : (abc : Abc) (main : List ℕ) (m : Machine) (o : Option Outcome) → m.outcome ≡ o → option_or o (if idle m then Some Ended else None) ≡ None → remaining abc (step abc main m).machine < left_with o (work_left abc m)
going_lowers abc main m None e h = steps_lowers abc main m.frames m refl (not_idle (idle m) h)
going_lowers abc main m (Some o) e h = absurd (cc)

-- a step of a play that isn't over lowers what remains of it
pub step_lowers : (abc : Abc) (main : List ℕ) (m : Machine) → result_of m ≡ None → remaining abc (step abc main m).machine < remaining abc m
step_lowers abc main m h = going_lowers abc main m m.outcome refl h

-- the same of a step that may have wanted memory
pub moved_lowers : (abc : Abc) (main : List ℕ) (old new : Machine) (r : Result (Option TraceItem) NoMemory) → IfOk r (λ item. moved new item ≡ step abc main old)
    → OnOk r (result_of old ≡ None → remaining abc new < remaining abc old)
moved_lowers abc main old new (Ok item) is = λ h. subst (λ m. remaining abc m < remaining abc old) (sym (ap (λ x. x.machine) is)) (step_lowers abc main old h)
moved_lowers abc main old new (Err refusal) is = tt

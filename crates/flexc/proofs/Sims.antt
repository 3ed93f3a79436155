-- What each instruction does in the words of the source.
use Rattle.std.proofs.Common.{◌≡◌, ℕ, zero, suc, ◌+◌, ◌*◌, ◌<◌, ◌≤◌, ℤ, Option, arith, List, [], ◌∷◌, length, None, Some, Ok, Bool, true, false, refl, sym, ap, ◌∙◌, subst}
use Rattle.std.specs.Prelude.{map, option_map, slice_get, nat_lt, if◌then◌else◌, codes}
use Rattle.std.proofs.lemmas.Bool.{lt-ltb, ltb-false}
use Rattle.std.proofs.lemmas.List.{length-map}
use Rattle.abc_format.specs.declared.records.Abc.{Abc}
use Rattle.abc_format.specs.declared.records.MethodBody.{MethodBody}
use Rattle.flex_base.specs.Value.{same}
use Rattle.flex_base.specs.declared.outcome.MachineFault.TheVariants.{NoName, WrongKind, WrongCount, NotHere}
use Rattle.flex_base.specs.declared.outcome.Outcome.{Outcome}
use Rattle.flex_base.specs.declared.outcome.Outcome.TheVariants.{Stopped, TurnsSpent, Fault}
use Rattle.flex_base.specs.declared.outcome.Stop.TheVariants.{Depth, Cells}
use Rattle.flex_base.specs.declared.record.TraceItem.{TraceItem}
use Rattle.flex_base.specs.declared.record.TraceItem.TheVariants.{Made, Written, Added, Traced}
use Rattle.flex_base.specs.declared.value.ObjId.{ObjId}
use Rattle.flex_base.specs.declared.value.Value.{Value}
use Rattle.flex_base.specs.declared.value.Value.TheVariants as value
use Rattle.avm2_machine.specs.declared.catalog.NativeClass.{NativeClass}
use Rattle.avm2_machine.specs.declared.frame.CodeFrame.{CodeFrame}
use Rattle.avm2_machine.specs.declared.frame.Frame.{Frame}
use Rattle.avm2_machine.specs.declared.frame.Frame.TheVariants as opened
use Rattle.avm2_machine.specs.declared.frame.Operand.{Operand}
use Rattle.avm2_machine.specs.declared.frame.Operand.TheVariants as operand
use Rattle.avm2_code.specs.declared.instruction.Instruction.{Instruction}
use Rattle.avm2_code.specs.declared.instruction.Instruction.TheVariants.{PushString, PushInt, ReturnVoid, ConstructSuper, ConstructProp, CallPropVoid, FindPropStrict, SetProperty, GetProperty, GetLocal0, GetLocal1, SetLocal1}
use Rattle.avm2_machine.specs.declared.machine.Machine.{Machine}
use Rattle.avm2_machine.specs.declared.stage.Slot.{Slot}
use Rattle.avm2_machine.specs.declared.stage.Stage.{Stage}
use Rattle.std.specs.Result.{result_ok}
use Rattle.avm2_code.specs.Reading.{instruction_at}
use Rattle.avm2_machine.specs.Machine.{Moved, Making, Unmade, IsMade, silent, ends, act, executes, pushes_found, recorded, and_then, makes, with_frame, with_operand, makes_native, ended, writes_public, writes_slot, writes, calls, calls_method, enters_found, class_method, adds, entered, enters_body, with_turn, gets_property}
use Rattle.flex_base.specs.Lists.{entry}
use Rattle.avm2_machine.specs.Names.{Name, string_at, name_at, native_at, class_name, is_name, holder}
use Rattle.script_player.specs.Playing.{Config, and_item, moved_on, advance}
use Rattle.avm2_machine.specs.Stage.{too_many_cells, is_of, native_slots, property, children_of, object_at, next_place, next_object, with_object, with_property}
use Rattle.avm2_machine.specs.Tables.{fetch, fetch_in, body_of, first_locals, public_at}
use Rattle.flexc.specs.Emitted.{handler_number}
use Rattle.flexc.specs.World.{Kind, Native, Property, Listener, Component, World, Result, Goes, Halts, bind, note, spend, enter, leave, take, make, next_number, new_component, with_component, component, property_in, property_named, write, write_over, stored, add, child_count, with_child, listen, with_listener}
use Rattle.flexc.proofs.Comes.{Comes, comes_here, comes_then}
use Rattle.flexc.proofs.Decoded.{size}
use Rattle.flexc.proofs.States.{class_of, type_of, slot_of, object_of, stage_of, machine_of, at, next_number_is, object_is, with_object_is, property_is, stored_is, with_child_is, with_listener_is}

-- the machine is where a meaning says: it goes on with this value and world as k says, or is over with the same outcome and records
abbrev pub Answers : {A : Type 0} → Result A → (A → World → Config → Type 0) → Config → Type 0
Answers (Goes v w) k c = k v w c
Answers (Halts o w) k c = (c.machine.outcome ≡ Some o) × (c.records ≡ w.records)

-- a name that is none of the native calls
pub record IsMethodName (called : Name) : Type 0 where
  pub placing : is_name called (codes "flexc") (codes "place") ≡ false
  pub listening : is_name called [] (codes "addEventListener") ≡ false
  pub tracing : is_name called [] (codes "trace") ≡ false

-- the same objects, which cost the same
pub record SameObjects (w w1 : World) : Type 0 where
  pub objects : w1.objects ≡ w.objects
  pub cells : w1.cells ≡ w.cells

-- each object has cost 16 cells at least
pub record IsCounted (w : World) : Type 0 where
  pub enough : 16 * length w.objects ≤ w.cells

-- an activity's frame
abbrev pub frame : ℕ → ℕ → List Operand → List Operand → CodeFrame
frame body pc stack locals = record { body = body; pc = pc; stack = stack; locals = locals; is_activity = true }

abbrev pub running : ℕ → ℕ → List Operand → List Operand → Frame
running body pc stack locals = opened.Code (frame body pc stack locals)

abbrev pub ref : ObjId → Operand
ref o = operand.Value (value.Ref o)

module _ (abc : Abc) (main : List ℕ) where
  -- from here the machine does what the meaning says, and goes on as k says
  pub record Sim {A : Type 0} (c : Config) (r : Result A) (k : A → World → Config → Type 0) : Type 0 where
    pub comes : Comes abc main c (Answers r k)

  pub sim_done : {A : Type 0} (v : A) (c : Config) (w : World) (k : A → World → Config → Type 0) → k v w c → Sim c (Goes v w) k
  sim_done v c w k holds = record { comes = comes_here abc main c (Answers (Goes v w) k) holds }

  -- the play is over
  pub sim_over : {A : Type 0} (m : Machine) (o : Outcome) (w : World) (k : A → World → Config → Type 0) → m.outcome ≡ Some o
      → Sim (record { machine = m; records = w.records }) (Halts o w) k
  sim_over m o w k is = record { comes = comes_here abc main (record { machine = m; records = w.records }) (Answers (Halts o w) k) (is, refl) }

  pub sim_then : {A : Type 0} (c : Config) (r : Result A) (k : A → World → Config → Type 0) → Sim (advance abc main c) r k → Sim c r k
  sim_then c r k s = record { comes = comes_then abc main c (Answers r k) s.comes }

  pub sim_assoc : {A B C : Type 0} (c : Config) (r : Result A) (g : A → World → Result B) (f : B → World → Result C) (l : C → World → Config → Type 0)
      → Sim c (bind r (λ v w. bind (g v w) f)) l → Sim c (bind (bind r g) f) l
  sim_assoc c (Goes v w) g f l s = s
  sim_assoc c (Halts o w) g f l s = s

  -- a step that came to this
  abbrev pub turned : World → Moved → Config
  turned w m = moved_on abc main w.records m

  -- the machine with these frames in a world, where this record was made
  abbrev pub noted_at : Option TraceItem → List Frame → World → Config
  noted_at item fs w = record { machine = machine_of fs w; records = and_item w.records item }

  -- an activity begins on both sides
  pub entered_sim : {A : Type 0} (item : Option TraceItem) (method b : ℕ) (given : List Operand) (fs : List Frame) (w : World) (f : Unit {0} → World → Result A) (k : A → World → Config → Type 0)
      → body_of abc method ≡ Some b → ((w1 : World) → SameObjects w w1 → Sim (noted_at item (running b 0 [] (first_locals abc b given) ∷ fs) w1) (f tt w1) k)
      → Sim (turned w (entered abc item method given (machine_of fs w))) (bind (enter w) f) k
  entered_sim item method b given fs w f k has s =
      subst (λ o. Sim (turned w (enters_body abc item o given (machine_of fs w))) (bind (enter w) f) k) (sym has) (by (nat_lt w.level 256))
    where
      spends : (t : ℕ) → Sim (turned w (with_turn abc t item b given (machine_of fs w))) (bind (spend t w) f) k
      spends zero = sim_over (ended TurnsSpent (machine_of fs w)) TurnsSpent w k refl
      spends (suc t) = s (record w { level = w.level + 1; turns = t }) (record { objects = refl; cells = refl })

      by : (t : Bool) → Sim (turned w (if t then with_turn abc w.turns item b given (machine_of fs w) else ends (Stopped Depth) (machine_of fs w))) (bind (if t then spend w.turns w else Halts (Stopped Depth) w) f) k
      by true = spends w.turns
      by false = sim_over (ended (Stopped Depth) (machine_of fs w)) (Stopped Depth) w k refl

  -- an object takes its number on both sides
  pub takes_sim : {A : Type 0} (kind : Kind) (properties : List Property) (declared : ℕ) (slots : List Slot) (m : Machine) (w : World)
      (put : ObjId → Machine → Moved) (f : ObjId → World → Result A) (k : A → World → Config → Type 0) → m.stage ≡ stage_of w → slots ≡ map slot_of properties → IsCounted w
      → ((w1 : World) → w1 ≡ with_component (new_component kind properties) (16 + declared) w
      → Sim (turned w1 (put (next_number w) (record m { stage = stage_of w1 }))) (f (next_number w) w1) k)
      → Sim (turned w (and_then (makes (class_of kind) slots declared m) put)) (bind (take kind properties declared w) f) k
  takes_sim kind properties declared slots m w put f k staged are counted s =
      subst (λ g. Sim (turned w (and_then (made g) put)) (bind (take kind properties declared w) f) k) (sym staged)
      (by (nat_lt 1000000 (w.cells + (16 + declared))) refl)
    where
      new : World
      new = with_component (new_component kind properties) (16 + declared) w

      fits : Bool → Stage → Making
      fits t g = if t then IsMade (next_object g) (record m { stage = with_object (class_of kind) slots declared g }) else Unmade (ended (Fault NotHere) m)

      made : Stage → Making
      made g = if too_many_cells declared g then Unmade (ended (Stopped Cells) m) else fits (nat_lt (length g.objects) 4294967295) g

      is_new : with_object (class_of kind) slots declared (stage_of w) ≡ stage_of new
      is_new = ap (λ l. with_object (class_of kind) l declared (stage_of w)) are ∙ with_object_is kind properties declared w

      few : nat_lt 1000000 (w.cells + (16 + declared)) ≡ false → nat_lt (length (map object_of w.objects)) 4294967295 ≡ true
      few e =
          let cells = ltb-false 1000000 (w.cells + (16 + declared)) e in
          let each = counted.enough in
          lt-ltb (length (map object_of w.objects)) 4294967295 (omega (arith, cells, each, length-map w.objects object_of))

      by : (t : Bool) → nat_lt 1000000 (w.cells + (16 + declared)) ≡ t
          → Sim (turned w (and_then (if t then Unmade (ended (Stopped Cells) m) else fits (nat_lt (length (map object_of w.objects)) 4294967295) (stage_of w)) put))
          (bind (if t then Halts (Stopped Cells) w else Goes (next_number w) new) f) k
      by true e = sim_over (ended (Stopped Cells) m) (Stopped Cells) w k refl
      by false e =
          subst (λ t. Sim (turned w (and_then (fits t (stage_of w)) put)) (f (next_number w) new) k) (sym (few e))
          (subst (λ n. Sim (turned w (put n (record m { stage = with_object (class_of kind) slots declared (stage_of w) }))) (f (next_number w) new) k) (sym (next_number_is w))
          (subst (λ g. Sim (turned w (put (next_number w) (record m { stage = g }))) (f (next_number w) new) k) (sym is_new) (s new refl)))

  -- the same of the machine in a world
  pub takes_at_sim : {A : Type 0} (kind : Kind) (properties : List Property) (declared : ℕ) (slots : List Slot) (fs : List Frame) (w : World)
      (put : ObjId → Machine → Moved) (f : ObjId → World → Result A) (k : A → World → Config → Type 0) → slots ≡ map slot_of properties → IsCounted w
      → ((w1 : World) → w1 ≡ with_component (new_component kind properties) (16 + declared) w → Sim (turned w1 (put (next_number w) (machine_of fs w1))) (f (next_number w) w1) k)
      → Sim (turned w (and_then (makes (class_of kind) slots declared (machine_of fs w)) put)) (bind (take kind properties declared w) f) k
  takes_at_sim kind properties declared slots fs w put f k are counted s =
      let new = with_component (new_component kind properties) (16 + declared) w in
      takes_sim kind properties declared slots (machine_of fs w) w put f k refl are counted
      (λ w1 e. subst (λ x. Sim (turned x (put (next_number w) (record (machine_of fs w) { stage = stage_of x }))) (f (next_number w) x) k) (sym e) (s new refl))

  module _ (b : ℕ) (body : MethodBody) (has : slice_get abc.method_bodies b ≡ Some body) where
    abbrev pub Here : ℕ → Instruction → Type 0
    Here a i = instruction_at body.code a ≡ Ok (i, a + size i)

    -- one instruction
    pub sim_at : {A : Type 0} (i : Instruction) (a : ℕ) (st ls : List Operand) (fs : List Frame) (w : World) (r : Result A) (k : A → World → Config → Type 0) → Here a i
        → Sim (turned w (act abc i (frame b (a + size i) st ls) (machine_of fs w))) r k → Sim (at (running b a st ls ∷ fs) w) r k
    sim_at i a st ls fs w r k here s =
        let fetched : fetch abc (frame b a st ls) ≡ Some (i, a + size i) = ap (λ o. fetch_in o a) has ∙ ap result_ok here in
        sim_then (at (running b a st ls ∷ fs) w) r k (subst (λ o. Sim (turned w (executes abc o (frame b a st ls) (machine_of fs w))) r k) (sym fetched) s)

    module _ (a : ℕ) (st : List Operand) (fs : List Frame) (w : World) where
      module _ {A : Type 0} (r : Result A) (k : A → World → Config → Type 0) where
        pub find_sim : (name : ℕ) (ls : List Operand) → holder (name_at abc name) ≡ Some operand.Natives → Here a (FindPropStrict name)
            → Sim (at (running b (a + size (FindPropStrict name)) (operand.Natives ∷ st) ls ∷ fs) w) r k → Sim (at (running b a st ls ∷ fs) w) r k
        find_sim name ls is here s =
            sim_at (FindPropStrict name) a st ls fs w r k here
            (subst (λ o. Sim (turned w (pushes_found NoName o (frame b (a + size (FindPropStrict name)) st ls) (machine_of fs w))) r k) (sym is) s)

        pub push_string_sim : (n : ℕ) (text : List ℕ) (ls : List Operand) → string_at abc n ≡ Some text → Here a (PushString n)
            → Sim (at (running b (a + size (PushString n)) (operand.Value (value.Text text) ∷ st) ls ∷ fs) w) r k → Sim (at (running b a st ls ∷ fs) w) r k
        push_string_sim n text ls is here s =
            sim_at (PushString n) a st ls fs w r k here
            (subst (λ o. Sim (turned w (pushes_found WrongKind (option_map (λ t. operand.Value (value.Text t)) o) (frame b (a + size (PushString n)) st ls) (machine_of fs w))) r k) (sym is) s)

        pub push_int_sim : (n : ℕ) (z : ℤ) (ls : List Operand) → entry abc.constant_pool.integers n ≡ Some z → Here a (PushInt n)
            → Sim (at (running b (a + size (PushInt n)) (operand.Value (value.Int z) ∷ st) ls ∷ fs) w) r k → Sim (at (running b a st ls ∷ fs) w) r k
        push_int_sim n z ls is here s =
            sim_at (PushInt n) a st ls fs w r k here
            (subst (λ o. Sim (turned w (pushes_found WrongKind (option_map (λ t. operand.Value (value.Int t)) o) (frame b (a + size (PushInt n)) st ls) (machine_of fs w))) r k) (sym is) s)

        pub get_0_sim : (x : Operand) (ls : List Operand) → Here a GetLocal0
            → Sim (at (running b (a + size GetLocal0) (x ∷ st) (x ∷ ls) ∷ fs) w) r k → Sim (at (running b a st (x ∷ ls) ∷ fs) w) r k
        get_0_sim x ls here s = sim_at GetLocal0 a st (x ∷ ls) fs w r k here s

        pub get_1_sim : (x y : Operand) (ls : List Operand) → Here a GetLocal1
            → Sim (at (running b (a + size GetLocal1) (y ∷ st) (x ∷ y ∷ ls) ∷ fs) w) r k → Sim (at (running b a st (x ∷ y ∷ ls) ∷ fs) w) r k
        get_1_sim x y ls here s = sim_at GetLocal1 a st (x ∷ y ∷ ls) fs w r k here s

        pub set_1_sim : (v x y : Operand) → Here a SetLocal1
            → Sim (at (running b (a + size SetLocal1) st (x ∷ v ∷ []) ∷ fs) w) r k → Sim (at (running b a (v ∷ st) (x ∷ y ∷ []) ∷ fs) w) r k
        set_1_sim v x y here s = sim_at SetLocal1 a (v ∷ st) (x ∷ y ∷ []) fs w r k here s

        pub super_sim : (o : ObjId) (ls : List Operand) → Here a (ConstructSuper 0)
            → Sim (at (running b (a + size (ConstructSuper 0)) st ls ∷ fs) w) r k → Sim (at (running b a (ref o ∷ st) ls ∷ fs) w) r k
        super_sim o ls here s = sim_at (ConstructSuper 0) a (ref o ∷ st) ls fs w r k here s

        pub return_sim : (ls : List Operand) → Here a ReturnVoid → Sim (at fs (leave w)) r k → Sim (at (running b a st ls ∷ fs) w) r k
        return_sim ls here s = sim_at ReturnVoid a st ls fs w r k here s

      -- an object of a native class is made on both sides
      pub construct_sim : {B : Type 0} (name : ℕ) (c : NativeClass) (properties : List Property) (ls : List Operand) (f : ObjId → World → Result B) (l : B → World → Config → Type 0)
          → native_at abc name ≡ Some c → native_slots c ≡ map slot_of properties → IsCounted w → Here a (ConstructProp name 0)
          → ((w1 : World) → w1 ≡ note (Made (next_number w) (class_name c)) (with_component (new_component (Native c) properties) (16 + 0) w)
          → Sim (at (running b (a + size (ConstructProp name 0)) (ref (next_number w) ∷ st) ls ∷ fs) w1) (f (next_number w) w1) l)
          → Sim (at (running b a (operand.Natives ∷ st) ls ∷ fs) w) (bind (make (Native c) (class_name c) properties 0 w) f) l
      construct_sim name c properties ls f l is slots counted here s =
          sim_at (ConstructProp name 0) a (operand.Natives ∷ st) ls fs w _ _ here
          (subst (λ o. Sim (turned w (makes_native o (frame b (a + size (ConstructProp name 0)) st ls) (machine_of fs w))) (bind (make (Native c) (class_name c) properties 0 w) f) l) (sym is)
          (sim_assoc (turned w (makes_native (Some c) (frame b (a + size (ConstructProp name 0)) st ls) (machine_of fs w))) (take (Native c) properties 0 w) (λ o w1. Goes o (note (Made o (class_name c)) w1)) f l
          (takes_at_sim (Native c) properties 0 (native_slots c) fs w
          (λ o m1. recorded (Made o (class_name c)) (with_frame (with_operand (ref o) (frame b (a + size (ConstructProp name 0)) st ls)) m1))
          (λ o w1. f o (note (Made o (class_name c)) w1)) l slots counted
          (λ w1 e. s (note (Made (next_number w) (class_name c)) w1) (ap (note (Made (next_number w) (class_name c))) e)))))

      -- a property that is there is written on both sides
      pub set_property_sim : {B : Type 0} (name : ℕ) (text : List ℕ) (n : ℕ) (v : Value) (c : Component) (p : Property) (ls : List Operand) (f : Unit {0} → World → Result B) (l : B → World → Config → Type 0)
          → public_at abc name ≡ Some text → component w (record { 0 = n }) ≡ Some c → property_named text c.properties ≡ Some p → is_of (stage_of w) v (type_of p.content) ≡ true
          → Here a (SetProperty name)
          → ((w1 : World) → w1 ≡ write_over (record { 0 = n }) text (Some p) v w → Sim (at (running b (a + size (SetProperty name)) st ls ∷ fs) w1) (f tt w1) l)
          → Sim (at (running b a (operand.Value v ∷ ref (record { 0 = n }) ∷ st) ls ∷ fs) w) (bind (write (record { 0 = n }) text v w) f) l
      set_property_sim name text n v c p ls f l is there has_p fits here s =
          sim_at (SetProperty name) a (operand.Value v ∷ ref o ∷ st) ls fs w _ _ here
          (subst (λ x. Sim (turned w (writes_public o x v g m)) (bind (write o text v w) f) l) (sym is)
          (subst (λ x. Sim (turned w (writes_slot o text v x g m)) (bind (write o text v w) f) l) (sym slot)
          (subst (λ t. Sim (turned w (if t then writes o text p.value v (with_frame g m) else ends (Fault NotHere) m)) (bind (write o text v w) f) l) (sym fits)
          (subst (λ x. Sim (turned w (writes o text p.value v (with_frame g m))) (f tt (write_over o text x v w)) l) (sym found) (by (same p.value v) s)))))
        where
          o : ObjId
          o = record { 0 = n }

          g : CodeFrame
          g = frame b (a + size (SetProperty name)) st ls

          m : Machine
          m = machine_of fs w

          found : property_in text (component w o) ≡ Some p
          found = ap (property_in text) there ∙ has_p

          slot : property (stage_of w) o text ≡ Some (slot_of p)
          slot = property_is text w o ∙ ap (option_map slot_of) found

          by : (t : Bool) → ((w1 : World) → w1 ≡ (if t then w else note (Written o text v) (stored o text v w)) → Sim (at (opened.Code g ∷ fs) w1) (f tt w1) l)
              → Sim (turned w (if t then silent (with_frame g m) else recorded (Written o text v) (record (with_frame g m) { stage = with_property o text v m.stage })))
              (f tt (if t then w else note (Written o text v) (stored o text v w))) l
          by true next = next w refl
          by false next =
              subst (λ x. Sim (turned w (recorded (Written o text v) (record (with_frame g m) { stage = x }))) (f tt (note (Written o text v) (stored o text v w))) l) (sym (stored_is n text v w))
              (next (note (Written o text v) (stored o text v w)) refl)

      -- a child is added on both sides
      pub place_sim : {B : Type 0} (name : ℕ) (rank : ℤ) (document child : ObjId) (n : ℕ) (c : Component) (ls : List Operand) (f : Unit {0} → World → Result B) (l : B → World → Config → Type 0)
          → name_at abc name ≡ Some (record { space = codes "flexc"; local = codes "place" }) → component w (record { 0 = n }) ≡ Some c → length c.children < 4294967296
          → Here a (CallPropVoid name 3)
          → ((w1 : World) → w1 ≡ note (Added (record { 0 = n }) child (length c.children)) (with_child (record { 0 = n }) child w)
          → Sim (at (running b (a + size (CallPropVoid name 3)) st ls ∷ fs) w1) (f tt w1) l)
          → Sim (at (running b a (operand.Value (value.Int rank) ∷ ref child ∷ ref (record { 0 = n }) ∷ ref document ∷ st) ls ∷ fs) w) (bind (add (record { 0 = n }) child w) f) l
      place_sim name rank document child n c ls f l is there few here s =
          sim_at (CallPropVoid name 3) a (operand.Value (value.Int rank) ∷ ref child ∷ ref o ∷ ref document ∷ st) ls fs w _ _ here
          (subst (λ x. Sim (turned w (calls abc x 3 (frame b (a + size (CallPropVoid name 3)) (operand.Value (value.Int rank) ∷ ref child ∷ ref o ∷ ref document ∷ st) ls) m)) (bind (add o child w) f) l) (sym is)
          (subst (λ x. Sim (turned w (adds x o child g m)) (f tt (note (Added o child (child_count (component w o))) (with_child o child w))) l) (sym next)
          (subst (λ x. Sim (turned w (adds (Some (length c.children)) o child g m)) (f tt (note (Added o child (child_count x)) (with_child o child w))) l) (sym there)
          (subst (λ x. Sim (turned w (recorded (Added o child (length c.children)) (with_frame g (record m { stage = x })))) (f tt (note (Added o child (length c.children)) (with_child o child w))) l) (sym (with_child_is n child w))
          (s (note (Added o child (length c.children)) (with_child o child w)) refl)))))
        where
          o : ObjId
          o = record { 0 = n }

          g : CodeFrame
          g = frame b (a + size (CallPropVoid name 3)) st ls

          m : Machine
          m = machine_of fs w

          next : next_place (children_of (object_at (stage_of w) o)) ≡ Some (length c.children)
          next =
              ap (λ x. next_place (children_of x)) (object_is w o ∙ ap (option_map object_of) there)
              ∙ ap (λ t. if t then Some (length c.children) else None) (lt-ltb (length c.children) 4294967296 few)

      -- a method of the receiver's class is entered on both sides
      pub call_sim : {B : Type 0} (name : ℕ) (called : Name) (n method b2 : ℕ) (ls : List Operand) (f : Unit {0} → World → Result B) (l : B → World → Config → Type 0)
          → name_at abc name ≡ Some called → IsMethodName called → class_method abc (object_at (stage_of w) (record { 0 = n })) called ≡ Some method → body_of abc method ≡ Some b2
          → Here a (CallPropVoid name 0)
          → ((w1 : World) → SameObjects w w1
          → Sim (at (running b2 0 [] (first_locals abc b2 (ref (record { 0 = n }) ∷ [])) ∷ running b (a + size (CallPropVoid name 0)) st ls ∷ fs) w1) (f tt w1) l)
          → Sim (at (running b a (ref (record { 0 = n }) ∷ st) ls ∷ fs) w) (bind (enter w) f) l
      call_sim name called n method b2 ls f l is other found has_body here s =
          sim_at (CallPropVoid name 0) a (ref o ∷ st) ls fs w _ _ here
          (subst (λ x. Sim (turned w (calls abc x 0 h m)) (bind (enter w) f) l) (sym is)
          (subst (λ t. Sim (turned w (if t then ends (Fault WrongCount) m else listening (is_name called [] (codes "addEventListener")))) (bind (enter w) f) l) (sym other.placing)
          (subst (λ t. Sim (turned w (listening t)) (bind (enter w) f) l) (sym other.listening)
          (subst (λ t. Sim (turned w (tracing t)) (bind (enter w) f) l) (sym other.tracing)
          (subst (λ x. Sim (turned w (enters_found abc x o g m)) (bind (enter w) f) l) (sym found)
          (entered_sim None method b2 (ref o ∷ []) (opened.Code g ∷ fs) w f l has_body s))))))
        where
          o : ObjId
          o = record { 0 = n }

          g : CodeFrame
          g = frame b (a + size (CallPropVoid name 0)) st ls

          h : CodeFrame
          h = frame b (a + size (CallPropVoid name 0)) (ref o ∷ st) ls

          m : Machine
          m = machine_of fs w

          tracing : Bool → Moved
          tracing t = if t then ends (Fault WrongCount) m else calls_method abc called (ref o ∷ st) h m

          listening : Bool → Moved
          listening t = if t then ends (Fault WrongCount) m else tracing (is_name called [] (codes "trace"))

      -- a method of the receiver's class is read as a listener
      pub get_method_sim : {A : Type 0} (r : Result A) (k : A → World → Config → Type 0) (name : ℕ) (called : Name) (n method : ℕ) (ls : List Operand) → name_at abc name ≡ Some called
          → class_method abc (object_at (stage_of w) (record { 0 = n })) called ≡ Some method → Here a (GetProperty name)
          → Sim (at (running b (a + size (GetProperty name)) (operand.Value (value.Listener (record { 0 = n }) method) ∷ st) ls ∷ fs) w) r k
          → Sim (at (running b a (ref (record { 0 = n }) ∷ st) ls ∷ fs) w) r k
      get_method_sim r k name called n method ls is found here s =
          sim_at (GetProperty name) a (ref o ∷ st) ls fs w r k here
          (subst (λ x. Sim (turned w (gets_property abc x h m)) r k) (sym is)
          (subst (λ x. Sim (turned w (pushes_found NotHere (option_map (λ y. operand.Value (value.Listener o y)) x) g m)) r k) (sym found) s))
        where
          o : ObjId
          o = record { 0 = n }

          g : CodeFrame
          g = frame b (a + size (GetProperty name)) st ls

          h : CodeFrame
          h = frame b (a + size (GetProperty name)) (ref o ∷ st) ls

          m : Machine
          m = machine_of fs w

      -- a listener is registered on both sides
      pub listen_sim : {B : Type 0} (name n : ℕ) (listener : Listener) (ls : List Operand) (f : Unit {0} → World → Result B) (l : B → World → Config → Type 0)
          → name_at abc name ≡ Some (record { space = []; local = codes "addEventListener" }) → Here a (CallPropVoid name 2)
          → ((w1 : World) → w1 ≡ with_listener (record { 0 = n }) listener w → Sim (at (running b (a + size (CallPropVoid name 2)) st ls ∷ fs) w1) (f tt w1) l)
          → Sim (at (running b a (operand.Value (value.Listener listener.document (handler_number listener.number)) ∷ operand.Value (value.Text listener.event) ∷ ref (record { 0 = n }) ∷ st) ls ∷ fs) w)
          (bind (listen (record { 0 = n }) listener w) f) l
      listen_sim name n listener ls f l is here s =
          sim_at (CallPropVoid name 2) a given ls fs w _ _ here
          (subst (λ x. Sim (turned w (calls abc x 2 (frame b (a + size (CallPropVoid name 2)) given ls) m)) (bind (listen o listener w) f) l) (sym is)
          (subst (λ x. Sim (turned w (silent (with_frame g (record m { stage = x })))) (f tt (with_listener o listener w)) l) (sym (with_listener_is n listener w))
          (s (with_listener o listener w) refl)))
        where
          o : ObjId
          o = record { 0 = n }

          given : List Operand
          given = operand.Value (value.Listener listener.document (handler_number listener.number)) ∷ operand.Value (value.Text listener.event) ∷ ref o ∷ st

          g : CodeFrame
          g = frame b (a + size (CallPropVoid name 2)) st ls

          m : Machine
          m = machine_of fs w

      -- a text is traced
      pub trace_sim : {A : Type 0} (r : Result A) (k : A → World → Config → Type 0) (name : ℕ) (text : List ℕ) (ls : List Operand)
          → name_at abc name ≡ Some (record { space = []; local = codes "trace" }) → Here a (CallPropVoid name 1)
          → Sim (at (running b (a + size (CallPropVoid name 1)) st ls ∷ fs) (note (Traced text) w)) r k
          → Sim (at (running b a (operand.Value (value.Text text) ∷ operand.Natives ∷ st) ls ∷ fs) w) r k
      trace_sim r k name text ls is here s =
          sim_at (CallPropVoid name 1) a (operand.Value (value.Text text) ∷ operand.Natives ∷ st) ls fs w r k here
          (subst (λ x. Sim (turned w (calls abc x 1 (frame b (a + size (CallPropVoid name 1)) (operand.Value (value.Text text) ∷ operand.Natives ∷ st) ls) (machine_of fs w))) r k) (sym is) s)

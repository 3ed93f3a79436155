-- The run of a binding does what it means.
use Rattle.std.proofs.Common.{◌≡◌, refl, sym, ap, ◌∙◌, subst, arith}
use Rattle.std.specs.Prelude.{Bool, List, None, Ok, Option, Some, [], false, length, option_and_then, option_map, replicate, slice_get, suc, true, zero, ℕ, ◌+◌, ◌-◌, ◌∷◌, ◌≤◌}
use Rattle.std.specs.List.{find}
use Rattle.flex_base.specs.declared.value.ObjId.{ObjId}
use Rattle.flex_base.specs.declared.value.Value.TheVariants as value
use Rattle.flex_base.specs.declared.value.Value.{Value}
use Rattle.component_catalog.specs.Classes.{or_else}
use Rattle.flex_world.specs.declared.kind.Class.TheVariants as Class
use Rattle.flex_world.specs.declared.operator.Operator.TheVariants as Operator
use Rattle.flex_world.specs.Objects.{Field, Instance_of, Object, changed_object, class_of_kind, object_at, property, ref_or_null, watcher, without_number}
use Rattle.flex_world.specs.Operators.{operate}
use Rattle.flex_program.specs.Classes.{document_of, has_property}
use Rattle.flex_program.specs.Program.{Binding, BindingSource, Destination, Document, Part}
use Rattle.flex_meaning.specs.Activities.{Does}
use Rattle.flex_meaning.specs.Bindings as source
use Rattle.flex_meaning.specs.Bindings.{Target, caught, closed, destination, end_of_chain, go_on, opened, read_built, run_binding, target, transfer, write_source, write_target}
use Rattle.flex_meaning.specs.Expressions.{Env}
use Rattle.flex_meaning.specs.Objects as objects
use Rattle.flex_meaning.specs.Results.{Ends, Goes, Halts, Result, Stuck, bind, done, guarded, need}
use Rattle.flex_meaning.specs.Storing.{binding_of}
use Rattle.flex_meaning.specs.Tasks.{context, perform, without_value}
use Rattle.flex_meaning.specs.Turns as turns
use Rattle.flex_meaning.specs.World.{Built, World, built_object, is_of_instance}
use Rattle.flex_meaning.specs.Writes.{assign}
use Rattle.program_code.specs.Code.{Tested}
use Rattle.program_code.specs.Documents.{Instance_at, IsBindingCode, IsSourceCode, Walks, Writes_last}
use Rattle.program_code.specs.Names.{hidden_name, member_name}
use Rattle.program_code.specs.Program.{HasActivity}
use Rattle.program_code.specs.Shapes.{One, Then}
use Rattle.program_simulation.proofs.Assigning.{assign_sim}
use Rattle.program_simulation.proofs.Bodies.{Has, Here, acted_at, at, ctx, heap, image, labels, pushed, see_one, see_then, sim_at, stacked, tops, valued, work}
use Rattle.program_simulation.proofs.Equations.{kept_slot, found_there, read_alike}
use Rattle.program_simulation.proofs.Expressions.{ending, returns_sim, tested_sim, value_sim}
use Rattle.program_simulation.proofs.Follows.{EveryEnd, Onward, alike_from, alike_goes, comes_here, comes_step, sim_any, sim_bind, sim_bind_end, sim_caught, sim_done, sim_from, sim_stuck}
use Rattle.program_simulation.proofs.Methods.{activity_sim}
use Rattle.program_simulation.proofs.Place.{hold_from, lies_nothing}
use Rattle.program_simulation.proofs.Standing.{Keeps, changed_there, entity_there, heap_changed, holds_changed}
use Rattle.program_simulation.proofs.Starting.{document_code}
use Rattle.program_simulation.proofs.Statements.{bind_later}
use Rattle.program_simulation.specs.Following.{Holds, Meets, Sim, SimTo, Unseen}
use Rattle.program_simulation.specs.Image.{IsImage, IsKept}
use Rattle.program_simulation.specs.Laws.{BindingsRun, HasInstance, HasPlainBindings, IsPlain, IsPlainDestination, IsPlainSource, Law}
use Rattle.program_simulation.specs.Stands.{Image, Setting, beside, entity_of, heap_of, hidden_slots, inside_of, machine_of, playing, playing_of, stage_of}
use Rattle.avm2_program.specs.Naming.{Naming}
use Rattle.avm2_program.specs.declared.method.Body as FileBody
use Rattle.avm2_program.specs.declared.method.Method as FileMethod
use Rattle.avm2_program.specs.declared.member.Member.TheVariants as Member
use Rattle.avm2_program.specs.declared.operation.Operation.TheVariants as Operation
use Rattle.flex_objects.specs.Entities.{value_of}
use Rattle.avm2_meaning.specs.Act.{act, property_at}
use Rattle.avm2_meaning.specs.Apply.{enter, open_body, open_call}
use Rattle.avm2_meaning.specs.Bindings.{starting}
use Rattle.avm2_meaning.specs.Calls.{call_of}
use Rattle.avm2_meaning.specs.declared.frame.Frame.{Frame}
use Rattle.avm2_meaning.specs.Operands.{ref, undefined}
use Rattle.avm2_meaning.specs.declared.operand.Operand.{Operand}
use Rattle.avm2_meaning.specs.declared.operand.Operand.TheVariants.{Plain}
use Rattle.avm2_meaning.specs.Properties as properties
use Rattle.avm2_meaning.specs.Results as machine
use Rattle.avm2_meaning.specs.Trace.{Playing}

-- in the method of a binding of a document
module _ (h : Here) (void : h.result ≡ None) (o : ObjId) (k : ℕ) (d : Document) (is_d : document_of (image h).source (Class.File k) ≡ Some d) where
  abbrev env : Env
  env = record { this = o; locals = [] }

  -- the run of the binding is over
  abbrev over : World → Unseen → Playing
  over w x = playing h.setting (Rattle.avm2_meaning.specs.Apply.give_if h.keeps (Some undefined) (machine_of h.setting h.frames x.order (turns.leave w))) w.records

  abbrev lands_over : Onward (Unit {0})
  lands_over u w x = over w x

  -- the object stays what it is
  record IsThere (w : World) : Type 0 where
    object : Object
    there : object_at w.objects o ≡ Some object
    kind_is : object.kind ≡ Instance_of (Class.File k)

  -- the value in the slot of an instance
  slot_alike : (number place : ℕ) (part : Part) → slice_get (Rattle.program_simulation.specs.Stands.behind_root (Rattle.flex_program.specs.Instances.parts_of d.root)) place ≡ Some part → part.number ≡ suc number
      → (order : List ObjId) (w : World) → IsThere w → Holds (image h).source w
      → property_at (image h).program (hidden_name ((labels h).instance_key (suc number))) (Plain (value.Ref o)) (heap h order w) ≡ machine.Goes (Plain (ref_or_null (built_object w.built o (suc number)))) (heap h order w)
  slot_alike number place part there_is is_number order w at_o holds =
      subst (λ m. property_at (image h).program (hidden_name ((labels h).instance_key m)) (Plain (value.Ref o)) (heap h order w) ≡ machine.Goes (Plain (ref_or_null (option_map (λ (b : Built). b.object) (find (is_of_instance o m) w.built)))) (heap h order w)) is_number
      (ap (λ y. machine.bind y (λ m h1. properties.read (Plain (value.Ref o)) m h1))
      (found_there (image h) order w o at_o.object (hidden_name key) (Member.HiddenSlot key) at_o.there (ap (λ z. Rattle.avm2_meaning.specs.Members.kind_member (image h).program z (hidden_name key)) at_o.kind_is ∙ keeps.found))
      ∙ ap (λ y. machine.need (option_and_then (value_of key) y) (heap h order w) (λ v. machine.Goes (Plain v) (heap h order w))) (entity_there (image h) order w o ∙ ap (option_map (λ z. entity_of (image h) (beside w) o z)) at_o.there)
      ∙ ap (λ y. machine.need (or_else (option_map (λ (f : Field). f.value) y) (Rattle.flex_objects.specs.Entities.computed key (entity_of (image h) (beside w) o at_o.object))) (heap h order w) (λ v. machine.Goes (Plain v) (heap h order w)))
      (kept_slot (image h) w o at_o.object k d part holds at_o.there at_o.kind_is is_d keeps))
    where
      key : List ℕ
      key = (labels h).instance_key part.number

      keeps : IsKept (image h) k d part
      keeps = h.is.kept k d place part is_d there_is

  -- the object of an instance, or null
  instance_sim : (instance : ℕ) → HasInstance d instance → (n a b : ℕ) (st : List Operand) (order : List ObjId) (w : World) → Has h (Instance_at (labels h) k d instance) a b → IsThere w → Meets (image h) n w
      → Sim (image h) n (at h a st env order w) (Goes (ref_or_null (built_object w.built o instance)) w) (tops h b st env)
  instance_sim zero has_it n a b st order w has at_o ok = pushed h n a b (Operation.GetLocal 0) st (value.Ref o) env order w refl has ok
  instance_sim (suc number) has_it n a b st order w has at_o ok =
      let p1 = see_then h _ _ a b has in
      stacked h n a p1.mid (Operation.GetLocal 0) st (Plain (value.Ref o) ∷ st) env order w refl p1.front
      (valued h n p1.mid b (Operation.GetProperty (hidden_name ((labels h).instance_key (suc number)))) (Plain (value.Ref o) ∷ st) st env order w
      (property_at (image h).program (hidden_name ((labels h).instance_key (suc number))) (Plain (value.Ref o)) (heap h order w)) p1.back refl
      (alike_from (slot_alike number has_it.0 has_it.1 has_it.2 has_it.3 order w at_o ok.holds) (alike_goes Plain (ref_or_null (built_object w.built o (suc number))) w)) ok)

  -- what the binding reads
  source_sim : h.supers ≡ None → (s : BindingSource) → IsPlainSource (image h).source d s → (n : ℕ) → n ≤ h.n → (a b : ℕ) (st : List Operand) (order : List ObjId) (w : World) → Has h (IsSourceCode (labels h) k d s) a b → IsThere w → Meets (image h) n w
      → SimTo (image h) (ending h true) n (at h a st env order w) (source.source (ctx h) o s w) (tops h b st env)
  source_sim unowned (BindingSource.An_expression e) plain n le a b st order w has at_o ok =
      value_sim h true (λ _. void) e (subst (λ z. IsPlain (image h).source z e) (sym unowned) plain) n le a b st env order w has ok
  source_sim unowned (BindingSource.A_property instance name) plain n le a b st order w has at_o ok =
      let p1 = see_then h _ _ a b has in
      let p2 = see_then h _ _ a p1.mid p1.front in
      let found = (instance_sim instance plain n a p2.mid st order w p2.front at_o ok).comes in
      sim_from found.1 (of_object (built_object w.built o instance) p2.mid p1.mid p2.back p1.back found.0.order)
    where
      of_object : (x : Option ObjId) (at_test mid : ℕ) → Has h Tested at_test mid → Has h (One (Operation.GetProperty (member_name name))) mid b → (order1 : List ObjId)
          → SimTo (image h) (ending h true) n (at h at_test (Plain (ref_or_null x) ∷ st) env order1 w) (read_built (image h).source name x w) (tops h b st env)
      of_object None at_test mid tests reads order1 =
          tested_sim h n at_test mid st value.Null env order1 w true refl tests (λ c e is returns. returns_sim h n c e (Plain value.Null ∷ st) env order1 w void returns ok) (λ is. absurd cc)
      of_object (Some o1) at_test mid tests reads order1 =
          tested_sim h n at_test mid st (value.Ref o1) env order1 w false refl tests (λ c e is returns. absurd cc)
          (λ is. sim_any (valued h n mid b (Operation.GetProperty (member_name name)) (Plain (value.Ref o1) ∷ st) st env order1 w _ reads refl (read_alike h.is (value.Ref o1) name w ok.holds) ok))

  -- its method returns
  ends_sim : (n a b : ℕ) (st : List Operand) (order : List ObjId) (w : World) → Has h (One Operation.ReturnVoid) a b → Meets (image h) n w → Sim (image h) n (at h a st env order w) (done w) lands_over
  ends_sim n a b st order w has ok =
      let s = returns_sim h n a b st env order w {k = lands_over} void has ok in record { comes = s.comes; keeps = s.keeps }

  -- its destination is null
  nowhere_sim : (v : Value) → operate Operator.Equal v value.Null ≡ Ok (value.Bool true) → (n a b : ℕ) (order : List ObjId) (w : World) → Has h Tested a b → Meets (image h) n w
      → Sim (image h) n (at h a (Plain v ∷ []) env order w) (done w) lands_over
  nowhere_sim v compares n a b order w has ok = tested_sim h n a b [] v env order w true compares has (λ c e is returns. ends_sim n c e (Plain v ∷ []) order w returns ok) (λ is. absurd cc)

  bind_done : (r : Result (Unit {0})) → bind r (λ _ w. done w) ≡ r
  bind_done (Goes v w) = refl
  bind_done (Halts z w) = refl
  bind_done (Ends w) = refl
  bind_done (Stuck w) = refl

  -- it reads and writes
  writes_sim : h.supers ≡ None → (s : BindingSource) → IsPlainSource (image h).source d s → (name : List ℕ) (o1 : ObjId) (n : ℕ) → n ≤ h.n → (a b : ℕ) (order : List ObjId) (w : World)
      → Has h (Then (IsSourceCode (labels h) k d s) (Then (One (Operation.SetProperty (member_name name))) (One Operation.ReturnVoid))) a b → IsThere w → Meets (image h) n w
      → Sim (image h) n (at h a (Plain (value.Ref o1) ∷ []) env order w) (write_source (ctx h) o s (Some (target name o1)) w) lands_over
  writes_sim unowned s plain name o1 n le a b order w has at_o ok =
      let p1 = see_then h _ _ a b has in
      let p2 = see_then h _ _ p1.mid b p1.back in
      let set = see_one h (Operation.SetProperty (member_name name)) p1.mid p2.mid p2.front in
      sim_caught over (write_target (ctx h) (target name o1)) (source_sim unowned s plain n le a p1.mid (Plain (value.Ref o1) ∷ []) order w p1.front at_o ok)
      (λ v w1 x ok1. subst (λ r. Sim (image h) n (at h p1.mid (Plain v ∷ Plain (value.Ref o1) ∷ []) env x.order w1) r lands_over) (bind_done (assign (ctx h) o1 name v w1))
      (sim_bind {k = λ u w2 x2. at h p2.mid [] env x2.order w2}
      (sim_at h n p1.mid p2.mid (Operation.SetProperty (member_name name)) (Plain v ∷ Plain (value.Ref o1) ∷ []) env x.order w1 (λ u w2 x2. at h p2.mid [] env x2.order w2) set
      (subst (λ place. Sim (image h) n (acted_at h p1.mid (Plain v ∷ Plain (value.Ref o1) ∷ []) env (Operation.SetProperty (member_name name)) (act (image h).program (Operation.SetProperty (member_name name)) (work h (Plain v ∷ Plain (value.Ref o1) ∷ []) env) (heap h x.order w1)) x.order w1) (assign (ctx h) o1 name v w1) (λ u w2 x2. at h place [] env x2.order w2)) (sym set.next)
      (assign_sim h n le p1.mid name (Plain v ∷ Plain (value.Ref o1) ∷ []) [] (value.Ref o1) v env x.order w1 ok1)))
      (λ u w2 x2 ok2. ends_sim n p2.mid b [] x2.order w2 p2.back ok2)))
      (λ w1 x ok1. sim_done {v = tt} {k = lands_over} x ok1)

  -- a property is read in the world that there is
  read_same : (o1 : ObjId) (name : List ℕ) (w : World) → EveryEnd (λ (v : Value) w1. w1 ≡ w) (objects.read (image h).source o1 name w)
  read_same o1 name w = of_object (object_at w.objects o1)
    where
      of_value : (x : Option Value) → EveryEnd (λ (v : Value) w1. w1 ≡ w) (need x w (λ v. Goes v w))
      of_value None = tt
      of_value (Some v) = refl

      has_it : (c : Object) (t : Bool) → EveryEnd (λ (v : Value) w1. w1 ≡ w) (guarded t (λ w1. need (property c name) w1 (λ v. Goes v w1)) w)
      has_it c true = of_value (property c name)
      has_it c false = tt

      of_object : (x : Option Object) → EveryEnd (λ (v : Value) w1. w1 ≡ w) (need x w (λ c. guarded (has_property (image h).source c.kind name) (λ w1. need (property c name) w1 (λ v. Goes v w1)) w))
      of_object None = tt
      of_object (Some c) = has_it c (has_property (image h).source c.kind name)

  -- it goes along a chain first
  walks_sim : h.supers ≡ None → (s : BindingSource) → IsPlainSource (image h).source d s → (names : List (List ℕ)) (name : List ℕ) (o1 : ObjId) (n : ℕ) → n ≤ h.n → (a b c : ℕ) (order : List ObjId) (w : World)
      → Has h (Walks (labels h) k d name names) a b → Has h (Then (IsSourceCode (labels h) k d s) (Then (Writes_last (labels h) k d name names) (One Operation.ReturnVoid))) b c → IsThere w → Meets (image h) n w
      → Sim (image h) n (at h a (Plain (value.Ref o1) ∷ []) env order w) (bind (end_of_chain (image h).source name names o1 w) (write_source (ctx h) o s)) lands_over
  walks_sim unowned s plain [] name o1 n le a b c order w has last at_o ok =
      subst (λ z. Sim (image h) n (at h z (Plain (value.Ref o1) ∷ []) env order w) (write_source (ctx h) o s (Some (target name o1)) w) lands_over) (sym (lies_nothing h.naming h.code h.parts h.marks h.by a b has))
      (writes_sim unowned s plain name o1 n le b c order w last at_o ok)
  walks_sim unowned s plain (next ∷ names) name o1 n le a b c order w has last at_o ok =
      let p1 = see_then h _ _ a b has in
      let p2 = see_then h _ _ p1.mid b p1.back in
      subst (λ r. Sim (image h) n (at h a (Plain (value.Ref o1) ∷ []) env order w) r lands_over) (sym (bind_later (objects.read (image h).source o1 name w) (go_on (end_of_chain (image h).source next names)) (write_source (ctx h) o s)))
      (sim_bind_end (λ v w1. w1 ≡ w) (read_same o1 name w)
      (valued h n a p1.mid (Operation.GetProperty (member_name name)) (Plain (value.Ref o1) ∷ []) [] env order w _ p1.front refl (read_alike h.is (value.Ref o1) name w ok.holds) ok)
      (λ v w1 x same ok1. of_value v w1 x.order p1.mid p2.mid p2.front ok1 (λ o2. walks_sim unowned s plain names next o2 n le p2.mid b c x.order w1 p2.back last (subst (λ z. IsThere z) (sym same) at_o) ok1)))
    where
      of_value : (v : Value) (w1 : World) (order1 : List ObjId) (at_test mid : ℕ) → Has h Tested at_test mid → Meets (image h) n w1
          → ((o2 : ObjId) → Sim (image h) n (at h mid (Plain (value.Ref o2) ∷ []) env order1 w1) (bind (end_of_chain (image h).source next names o2 w1) (write_source (ctx h) o s)) lands_over)
          → Sim (image h) n (at h at_test (Plain v ∷ []) env order1 w1) (bind (go_on (end_of_chain (image h).source next names) v w1) (write_source (ctx h) o s)) lands_over
      of_value (value.Ref o2) w1 order1 at_test mid tests ok1 rest = tested_sim h n at_test mid [] (value.Ref o2) env order1 w1 false refl tests (λ c1 d1 is returns. absurd cc) (λ is. rest o2)
      of_value value.Null w1 order1 at_test mid tests ok1 rest = nowhere_sim value.Null refl n at_test mid order1 w1 tests ok1
      of_value value.Undefined w1 order1 at_test mid tests ok1 rest = nowhere_sim value.Undefined refl n at_test mid order1 w1 tests ok1
      of_value (value.Bool z) w1 order1 at_test mid tests ok1 rest = sim_stuck
      of_value (value.Int z) w1 order1 at_test mid tests ok1 rest = sim_stuck
      of_value (value.Text z) w1 order1 at_test mid tests ok1 rest = sim_stuck
      of_value (value.Listener z z1) w1 order1 at_test mid tests ok1 rest = sim_stuck

  -- all that the run does
  transfer_sim : h.supers ≡ None → (s : BindingSource) → IsPlainSource (image h).source d s → (to : Destination) → IsPlainDestination d to → (n : ℕ) → n ≤ h.n → (a b : ℕ) (order : List ObjId) (w : World)
      → Has h (IsBindingCode (labels h) k d s to) a b → IsThere w → Meets (image h) n w
      → Sim (image h) n (at h a [] env order w) (bind (destination (image h).source o to w) (write_source (ctx h) o s)) lands_over
  transfer_sim unowned s plain (Destination.In_instance instance name) has_it n le a b order w has at_o ok =
      let p1 = see_then h _ _ a b has in
      let p2 = see_then h _ _ a p1.mid p1.front in
      let found = (instance_sim instance has_it n a p2.mid [] order w p2.front at_o ok).comes in
      sim_from found.1 (of_object (built_object w.built o instance) p2.mid p1.mid p2.back p1.back found.0.order)
    where
      of_object : (x : Option ObjId) (at_test mid : ℕ) → Has h Tested at_test mid → Has h (Then (IsSourceCode (labels h) k d s) (Then (One (Operation.SetProperty (member_name name))) (One Operation.ReturnVoid))) mid b → (order1 : List ObjId)
          → Sim (image h) n (at h at_test (Plain (ref_or_null x) ∷ []) env order1 w) (write_source (ctx h) o s (option_map (target name) x) w) lands_over
      of_object None at_test mid tests rest order1 = nowhere_sim value.Null refl n at_test mid order1 w tests ok
      of_object (Some o1) at_test mid tests rest order1 =
          tested_sim h n at_test mid [] (value.Ref o1) env order1 w false refl tests (λ c e is returns. absurd cc) (λ is. writes_sim unowned s plain name o1 n le mid b order1 w rest at_o ok)
  transfer_sim unowned s plain (Destination.At_chain []) has_it n le a b order w has at_o ok = sim_stuck
  transfer_sim unowned s plain (Destination.At_chain (name ∷ names)) has_it n le a b order w has at_o ok =
      let p1 = see_then h _ _ a b has in
      let p2 = see_then h _ _ p1.mid b p1.back in
      stacked h n a p1.mid (Operation.GetLocal 0) [] (Plain (value.Ref o) ∷ []) env order w refl p1.front
      (walks_sim unowned s plain names name o n le p1.mid p2.mid b order w p2.front p2.back at_o ok)

-- what the runs of bindings do with one turn more
pub binding_sim : (t : Setting) {g : Naming} (is : IsImage g t.image) (n : ℕ) (does : Does) (law : Law t n does) → HasPlainBindings t.image.source → BindingsRun t (suc n) (perform (context t.image.source n does))
binding_sim t {g} is n does law plain m le o c k number d b ws fs order w there kind is_d is_b ok =
    activity_sim t m n le (call_of (t.image.labels.binding_run_of k number) (ref o) [] false) (closing ∷ fs) order (λ l. changed_object mark o l) w (without_value (run_binding (context t.image.source n does) o number)) ends ok
    (λ j le1 w1 same ok1. subst (λ y. Sim t.image j y (bind (without_value (run_binding (context t.image.source n does) o number) w1) (λ v w2. Goes v (turns.leave w2))) ends) (sym (begins w1))
    (subst (λ r. Sim t.image j (at here 0 [] (record { this = o; locals = [] }) order (opened o number w1)) (bind (bind r (λ _ w3. Goes value.Undefined w3)) (λ v w4. Goes v (turns.leave w4))) ends) (sym (as_run w1 same))
    (subst (λ r. Sim t.image j (at here 0 [] (record { this = o; locals = [] }) order (opened o number w1)) r ends) (in_order (transfer (context t.image.source n does) o b (opened o number w1)))
    (sim_bind (transfer_sim here refl o k d is_d refl b.source (plain k d number b is_d is_b).0 b.destination (plain k d number b is_d is_b).1 j le1 0 (0 + length code.code.parts) order (opened o number w1) whole (is_there w1 same)
    (record { turns = ok1.turns; holds = holds_changed t.image o mark w1 mark_kept ok1.holds }))
    (λ u w2 x ok2. closes j w2 x ok2)))))
  where
    mark : Object → Object
    mark z = record z { keeping = record z.keeping { open_bindings = number ∷ z.keeping.open_bindings } }

    mark_kept : Keeps mark
    mark_kept = record { kind = λ z. refl; enabled = λ z. refl; names = λ z name. refl }

    unmark : Object → Object
    unmark z = record z { keeping = record z.keeping { open_bindings = without_number number z.keeping.open_bindings } }

    unmark_kept : Keeps unmark
    unmark_kept = record { kind = λ z. refl; enabled = λ z. refl; names = λ z name. refl }

    closing : Frame
    closing = Frame.Does (starting (Some (watcher o number)) ws)

    ends : Onward Value
    ends v w1 x = playing_of t (Frame.Does (starting None ws) ∷ fs) x.order w1

    code : HasActivity g t.image.program (t.image.labels.binding_run_of k number) [] (IsBindingCode t.image.labels k d b.source b.destination)
    code = (document_code is k d is_d).bindings number b is_b

    here : Here
    here = record {
      setting = t;
      naming = g;
      is = is;
      n = n;
      does = does;
      law = law;
      method = t.image.labels.binding_run_of k number;
      code = code.body.code;
      fetched = λ place. ap (λ y. option_and_then (λ (z : FileBody.Body). slice_get z.code place) (option_and_then (λ (z : FileMethod.Method). z.body) y)) code.there ∙ ap (option_and_then (λ (z : FileBody.Body). slice_get z.code place)) code.has;
      parts = code.code.parts;
      marks = code.code.marks;
      by = code.code.by;
      keeps = false;
      frames = closing ∷ fs;
      rest = [];
      this = o;
      width = 0;
      own = code.method;
      own_there = code.there;
      result = None;
      result_is = code.result_is;
      supers = None;
      super_at = λ base e. absurd cc;
    }

    whole : Has here (IsBindingCode t.image.labels k d b.source b.destination) 0 (0 + length code.code.parts)
    whole = record { these = code.code.parts; code = code.code.code; hold = hold_from g code.body.code code.code.parts code.code.marks code.code.by [] code.code.parts refl; until = refl }

    begins : (w1 : World) → playing t (open_call t.image.program true (call_of (t.image.labels.binding_run_of k number) (ref o) [] false) (machine_of t (closing ∷ fs) order (record w1 { objects = changed_object mark o w1.objects }))) w1.records
        ≡ at here 0 [] (record { this = o; locals = [] }) order (opened o number w1)
    begins w1 =
        ap (λ y. playing t (open_body true (call_of (t.image.labels.binding_run_of k number) (ref o) [] false) (option_and_then (λ (z : FileMethod.Method). z.body) y) (machine_of t (closing ∷ fs) order (opened o number w1))) w1.records) code.there
        ∙ ap (λ y. playing t (open_body true (call_of (t.image.labels.binding_run_of k number) (ref o) [] false) y (machine_of t (closing ∷ fs) order (opened o number w1))) w1.records) code.has
        ∙ ap (λ i. playing_of t (Frame.Code (record { place = 0; work = record { method = t.image.labels.binding_run_of k number; stack = []; scopes = []; locals = Plain (value.Ref o) ∷ replicate i undefined }; is_activity = true; keeps = false }) ∷ closing ∷ fs) order (opened o number w1)) none
      where
        none : code.body.locals - 1 - 0 ≡ 0
        none = omega (arith, code.locals_are)

    there_too : (w1 : World) → w1.objects ≡ w.objects → object_at w1.objects o ≡ Some c
    there_too w1 same = ap (λ l. object_at l o) same ∙ there

    is_there : (w1 : World) → w1.objects ≡ w.objects → IsThere here refl o k d is_d (opened o number w1)
    is_there w1 same = record { object = mark c; there = changed_there o mark w1.objects c (there_too w1 same); kind_is = kind }

    as_run : (w1 : World) → w1.objects ≡ w.objects
        → run_binding (context t.image.source n does) o number w1 ≡ bind (transfer (context t.image.source n does) o b (opened o number w1)) (λ _ w2. done (closed o number w2))
    as_run w1 same =
        ap (λ x. need x w1 (λ z. need (binding_of (context t.image.source n does) z number) w1 runs)) (there_too w1 same)
        ∙ ap (λ z. need (option_and_then (λ (y : Document). slice_get y.bindings number) (option_and_then (document_of t.image.source) (class_of_kind z))) w1 runs) kind
        ∙ ap (λ z. need (option_and_then (λ (y : Document). slice_get y.bindings number) z) w1 runs) is_d
        ∙ ap (λ z. need z w1 runs) is_b
      where
        runs : Binding → Result (Unit {0})
        runs z = bind (transfer (context t.image.source n does) o z (opened o number w1)) (λ _ w2. done (closed o number w2))

    in_order : (r : Result (Unit {0})) → bind r (λ _ w2. Goes value.Undefined (turns.leave (closed o number w2)))
        ≡ bind (bind (bind r (λ _ w2. done (closed o number w2))) (λ _ w3. Goes value.Undefined w3)) (λ v w4. Goes v (turns.leave w4))
    in_order (Goes v w2) = refl
    in_order (Halts z w2) = refl
    in_order (Ends w2) = refl
    in_order (Stuck w2) = refl

    closes : (j : ℕ) (w2 : World) (x : Unseen) → Meets t.image j w2
        → Sim t.image j (playing_of t (closing ∷ fs) x.order (turns.leave w2)) (Goes value.Undefined (turns.leave (closed o number w2))) ends
    closes j w2 x ok2 =
        sim_from (comes_step t closing fs x.order (turns.leave w2) _ (comes_here t.image _))
        (subst (λ z. Sim t.image j (playing t (record (machine_of t (Frame.Does (starting None ws) ∷ fs) x.order (turns.leave w2)) { heap = z }) w2.records) (Goes value.Undefined (turns.leave (closed o number w2))) ends)
        (heap_changed t.image x.order o unmark (turns.leave w2) unmark_kept)
        (sim_done {v = value.Undefined} {w = turns.leave (closed o number w2)} {k = ends} x (record { turns = ok2.turns; holds = record { fields = (holds_changed t.image o unmark w2 unmark_kept ok2.holds).fields } })))

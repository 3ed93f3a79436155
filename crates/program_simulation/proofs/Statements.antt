-- The machine does what statements mean.
use Rattle.std.proofs.Common.{◌≡◌, refl, sym, ap, ◌∙◌, subst, arith}
use Rattle.std.specs.List.{find}
use Rattle.std.specs.Prelude.{Bool, Err, List, None, Ok, Option, Some, [], codes, false, if◌then◌else◌, is_some, length, map, option_and_then, option_map, slice_get, suc, true, unwrap_or, zero, ℕ, ◌++◌, ◌<◌, ◌==◌, ◌∷◌, ◌≤◌}
use Rattle.std.specs.Prelude.{Result as Computed}
use Rattle.flex_base.specs.Lists.{changed_at}
use Rattle.flex_base.specs.Value.{and_then, to_bool, to_text}
use Rattle.flex_base.specs.declared.outcome.MachineFault.TheVariants as fault
use Rattle.flex_base.specs.declared.outcome.Stop.TheVariants as stop
use Rattle.flex_base.specs.declared.outcome.Stop.{Stop}
use Rattle.flex_base.specs.declared.record.TraceItem.TheVariants as trace
use Rattle.flex_base.specs.declared.value.ObjId.{ObjId}
use Rattle.flex_base.specs.declared.value.Value.TheVariants as value
use Rattle.flex_base.specs.declared.value.Value.{Value}
use Rattle.component_catalog.specs.declared.class.NativeClass.TheVariants as native
use Rattle.flex_world.specs.Classes.{native_descends}
use Rattle.flex_world.specs.declared.kind.Class.{Class}
use Rattle.flex_world.specs.declared.kind.StaticType.{StaticType}
use Rattle.flex_world.specs.Conversions.{constructor_parameters, event_parameters}
use Rattle.flex_world.specs.Operators.{made_text, spaced_text, texts_of}
use Rattle.flex_world.specs.declared.operator.Operator.{Operator}
use Rattle.flex_program.specs.Program.{Block, Expr, Exprs, MoreStmt, NoStmt, Place, Stmt}
use Rattle.flex_meaning.specs.Arrays as arrays
use Rattle.flex_meaning.specs.Conversions as meaning
use Rattle.flex_meaning.specs.Expressions.{Env, eval, eval_all, receiver}
use Rattle.flex_meaning.specs.Making as making
use Rattle.flex_meaning.specs.Objects as objects
use Rattle.flex_meaning.specs.Results.{Ends, Goes, Halts, Result, Stuck, bind, choose, given, guarded, need}
use Rattle.flex_meaning.specs.Results.{done}
use Rattle.flex_meaning.specs.Statements as source
use Rattle.flex_meaning.specs.Statements.{Breaks, Continues, Falls, Flow, Returns, again, exec, exec_all, flow_on, loop}
use Rattle.flex_meaning.specs.Turns as turns
use Rattle.flex_meaning.specs.World.{World, note}
use Rattle.flex_meaning.specs.Writes.{assign}
use Rattle.program_code.specs.Code.{Cleared, Doubled, Converts, Exits, IsUpdateCode, IsBlockCode, IsExprCode, IsReturnCode, IsStmtCode, count_of, in_loop}
use Rattle.program_code.specs.Code.{IsSuperCode}
use Rattle.program_code.specs.Names.{member_name}
use Rattle.program_code.specs.Shapes.{Goes_to, One, Then}
use Rattle.program_code.specs.Shapes.{Repeated}
use Rattle.program_simulation.proofs.Assigning.{assign_sim}
use Rattle.program_simulation.proofs.Bodies.{SuperAt, Has, Here, Sees, acted_at, at, branches_false, code_frame, ctx, heap, image, gets, jumps, labels, moves_on, pushed, raw, sets, see_one, see_then, sim_at, stacked, unseen_of, valued, work}
use Rattle.program_simulation.proofs.Elements.{element_alike, write_alike}
use Rattle.program_simulation.proofs.Equations.{read_alike, result_alike}
use Rattle.program_simulation.proofs.Expressions.{some_there, constructor_prepared, all_sim, all_taken, counted_all, converts_sim, eval_sim, operator_sim, push_all, there}
use Rattle.program_simulation.proofs.Flows.{Fits, FlowFits, block_fits, exec_fits}
use Rattle.program_simulation.proofs.Follows.{EveryValue, Onward, alike_map, comes_here, comes_on, sim_bind, sim_bind_with, sim_done, sim_extend, sim_from, sim_halts, sim_more, sim_need, sim_stuck}
use Rattle.program_simulation.proofs.Making.{no_document_there}
use Rattle.program_simulation.proofs.Moving.{acts, sim_tick}
use Rattle.program_simulation.proofs.Place.{lies_after, lies_either, lies_endless, lies_goes, lies_nothing, lies_rounds}
use Rattle.program_simulation.specs.Following.{Comes, Meets, Sim, Unseen}
use Rattle.program_simulation.specs.Image.{IsImage}
use Rattle.program_simulation.specs.Laws.{IsConstructible}
use Rattle.program_simulation.specs.Laws.{IsPlain, IsPlainBlock, IsPlainStmt}
use Rattle.program_simulation.specs.Stands.{Image, heap_of, locals_of, machine_of, playing, playing_of}
use Rattle.avm2_program.specs.Names.{public_name}
use Rattle.avm2_program.specs.Naming.{Naming}
use Rattle.avm2_program.specs.declared.method.Method as FileMethod
use Rattle.avm2_program.specs.declared.file.Script as FileScript
use Rattle.avm2_program.specs.declared.operation.Operation.{Operation}
use Rattle.avm2_program.specs.declared.names.Name.{Name}
use Rattle.avm2_code.specs.declared.parts.Branch.TheVariants as branch
use Rattle.avm2_meaning.specs.Act.{act}
use Rattle.avm2_meaning.specs.Apply.{enter}
use Rattle.avm2_meaning.specs.Apply.{give_if}
use Rattle.avm2_meaning.specs.Calls.{call_of}
use Rattle.avm2_meaning.specs.Classes.{owner_of}
use Rattle.avm2_meaning.specs.Conversions as conversions
use Rattle.avm2_meaning.specs.Effects.{Acted, acted, goes_on, pushes, silent}
use Rattle.avm2_meaning.specs.declared.effect.Next.{Next}
use Rattle.avm2_meaning.specs.Effects.{recorded}
use Rattle.avm2_meaning.specs.declared.frame.Frame.{Frame}
use Rattle.avm2_meaning.specs.declared.work.Work.{Work}
use Rattle.avm2_meaning.specs.Heap.{made_class}
use Rattle.avm2_meaning.specs.declared.heap.Heap.{Heap}
use Rattle.avm2_meaning.specs.declared.heap.MadeClass.{MadeClass}
use Rattle.avm2_meaning.specs.Invoking.{begin_base_event, call_written, construct_base, construct_native_base, construct_super}
use Rattle.avm2_meaning.specs.Making as machine_making
use Rattle.avm2_meaning.specs.Members.{all_scripts, class_scopes, look_up, member, member_among, script_member, scripts_and_native}
use Rattle.avm2_meaning.specs.Natives.{call_trace, texts_of_operands}
use Rattle.avm2_meaning.specs.Operands.{ref, undefined}
use Rattle.avm2_meaning.specs.declared.operand.Operand.{Operand}
use Rattle.avm2_meaning.specs.declared.operand.Operand.TheVariants.{Natives, Plain, ScriptValue}
use Rattle.avm2_meaning.specs.Replies.{finish, reply}
use Rattle.avm2_meaning.specs.declared.reply.Reply.{Reply}
use Rattle.avm2_meaning.specs.Results as machine
use Rattle.avm2_meaning.specs.Results.{mapped}

put_there : (ls : List Value) (rest : List Operand) (n : ℕ) (u v : Value) → slice_get ls n ≡ Some u → changed_at (λ _. Plain v) (map Plain ls ++ rest) n ≡ map Plain (changed_at (λ _. v) ls n) ++ rest
put_there [] rest zero u v e = absurd (cc)
put_there [] rest (suc n) u v e = absurd (cc)
put_there (x ∷ ls) rest zero u v e = refl
put_there (x ∷ ls) rest (suc n) u v e = ap (λ l. Plain x ∷ l) (put_there ls rest n u v e)

pub bind_later : {A B C : Type 0} (r : Result A) (g : A → World → Result B) (l : B → World → Result C) → bind (bind r g) l ≡ bind r (λ v w. bind (g v w) l)
bind_later (Goes v w) g l = refl
bind_later (Halts o w) g l = refl
bind_later (Ends w) g l = refl
bind_later (Stuck w) g l = refl

-- the texts of operands are those of their values
texts_are : (vs : List Value) (h : Heap) → texts_of_operands (map Plain vs) h ≡ machine.given (texts_of vs) h
texts_are [] h = refl
texts_are (v ∷ vs) h = by (to_text v) (texts_of vs) (λ h1. texts_are vs h1)
  where
    by : (x : Computed (List ℕ) Stop) (y : Computed (List (List ℕ)) Stop) → ((h1 : Heap) → texts_of_operands (map Plain vs) h1 ≡ machine.given y h1)
        → machine.bind (machine.given x h) (λ text h2. machine.bind (texts_of_operands (map Plain vs) h2) (λ texts h3. machine.Goes (text ∷ texts) h3)) ≡ machine.given (and_then x (λ text. and_then y (λ texts. Ok (text ∷ texts)))) h
    by (Ok text) (Ok texts) e = ap (λ z. machine.bind z (λ texts1 h3. machine.Goes (text ∷ texts1) h3)) (e h)
    by (Ok text) (Err cause) e = ap (λ z. machine.bind z (λ texts1 h3. machine.Goes (text ∷ texts1) h3)) (e h)
    by (Err cause) y e = refl

-- a name that no script has and the player has is looked up at the player
pub natives_there : {q : Image} {g : Naming} (is : IsImage g q) (n : Name) → ((k : ℕ) (script : FileScript.Script) → slice_get q.program.scripts k ≡ Some script → member_among n script.members ≡ None)
    → is_some (script_member n) ≡ true → (order : List ObjId) (w : World) (wk : Work) → wk.scopes ≡ [] → look_up q.program wk n (heap_of q order w) ≡ machine.Goes Natives (heap_of q order w)
natives_there {q} is n none has order w wk scopeless =
    ap (λ l. machine.or_fault fault.NoName (find (λ v. is_some (member q.program v n (heap_of q order w))) (l ++ class_scopes q.program wk.method (heap_of q order w) ++ all_scripts q.program)) (heap_of q order w) (λ v. machine.Goes v (heap_of q order w))) scopeless
    ∙ ap (λ l. machine.or_fault fault.NoName (find (λ v. is_some (member q.program v n (heap_of q order w))) (l ++ all_scripts q.program)) (heap_of q order w) (λ v. machine.Goes v (heap_of q order w))) (unscoped (owner_of q.program wk.method))
    ∙ ap (λ x. machine.or_fault fault.NoName x (heap_of q order w) (λ v. machine.Goes v (heap_of q order w))) (from 0 (length q.program.scripts))
  where
    of_class : (x : Option (Option MadeClass)) → ((made : MadeClass) → x ≡ Some (Some made) → made.scopes ≡ []) → unwrap_or (option_map (λ (made : MadeClass). made.scopes) (option_and_then (λ m. m) x)) [] ≡ []
    of_class None e = refl
    of_class (Some None) e = refl
    of_class (Some (Some made)) e = e made refl

    unscoped : (owner : Option ℕ) → unwrap_or (option_map (λ (made : MadeClass). made.scopes) (option_and_then (λ k. made_class k (heap_of q order w)) owner)) [] ≡ []
    unscoped None = refl
    unscoped (Some k) = of_class (slice_get q.classes k) (is.unscoped k)

    not_there : (k : ℕ) (x : Option FileScript.Script) → slice_get q.program.scripts k ≡ x → is_some (option_and_then (λ (script : FileScript.Script). member_among n script.members) x) ≡ false
    not_there k None e = refl
    not_there k (Some script) e = ap is_some (none k script e)

    from : (k left : ℕ) → find (λ v. is_some (member q.program v n (heap_of q order w))) (scripts_and_native q.program k left) ≡ Some Natives
    from k zero = ap (λ b. if b then Some Natives else None) has
    from k (suc left) =
        ap (λ b. if b then Some (ScriptValue k) else find (λ v. is_some (member q.program v n (heap_of q order w))) (scripts_and_native q.program (suc k) left)) (not_there k (slice_get q.program.scripts k) refl)
        ∙ from (suc k) left

-- values on the stack are operands in front of it
pushed_list : (vs : List Value) (st : List Operand) → (xs : List Operand) × (push_all vs st ≡ xs ++ st) × (length xs ≡ length vs)
pushed_list [] st = ([], refl, refl)
pushed_list (v ∷ vs) st =
    let r = pushed_list vs (Plain v ∷ st) in
    (r.0 ++ Plain v ∷ [], r.1 ∙ regrouped r.0, (let e = more r.0 in let e2 = r.2 in omega (arith, e, e2)))
  where
    regrouped : (xs : List Operand) → xs ++ (Plain v ∷ st) ≡ (xs ++ Plain v ∷ []) ++ st
    regrouped [] = refl
    regrouped (x ∷ xs) = ap (λ l. x ∷ l) (regrouped xs)

    more : (xs : List Operand) → length (xs ++ Plain v ∷ []) ≡ suc (length xs)
    more [] = refl
    more (x ∷ xs) = ap suc (more xs)

-- the places to which a break, a continue and, where code stands behind the statements, a return go
pub record Targets : Type 0 where
  pub out : ℕ
  pub again : ℕ
  pub over : Option ℕ

module _ (h : Here) where
  -- a body that returned: its frame is closed, or it goes on at a place, with whatever variables
  abbrev pub returns : Option ℕ → List Operand → Onward Value
  returns None st v w x = playing h.setting (give_if h.keeps (Some (Plain v)) (machine_of h.setting h.frames x.order (turns.leave w))) w.records
  returns (Some place) st v w x =
      playing_of h.setting (Frame.Code (record { place = place; work = record { method = h.method; stack = st; scopes = []; locals = Plain (value.Ref h.this) ∷ x.locals }; is_activity = true; keeps = h.keeps }) ∷ h.frames) x.order w

  -- where a body goes on behind a statement
  abbrev pub lands : ℕ → Targets → List Operand → Onward Flow
  lands b o st (Falls env) w x = at h b st env x.order w
  lands b o st (Breaks env) w x = at h o.out st env x.order w
  lands b o st (Continues env) w x = at h o.again st env x.order w
  lands b o st (Returns v) w x = returns o.over st v w x

  pub record Reaches (o : Targets) (x : Exits) : Type 0 where
    pub out : h.marks x.out ≡ o.out
    pub again : h.marks x.again ≡ o.again
    pub over : option_map h.marks x.over ≡ o.over
    -- only a constructor, which has no result, has code behind its statements
    pub no_result : is_some x.over ≡ true → h.result ≡ None

  -- the result of a body is given back
  pub gives_back : (n a b : ℕ) (op : Operation) (top : List Operand) (v : Value) (env : Env) (order : List ObjId) (w : World) (o : Targets) (st : List Operand) (wk : Work)
      → act (image h).program op (work h top env) (heap h order w) ≡ machine.need (slice_get (image h).program.methods h.method) (heap h order w) (λ (x : FileMethod.Method). machine.bind (conversions.convert (image h).program x.result (Plain v) (heap h order w)) (λ r s1. machine.Goes (acted (silent (Next.Close (Some r))) wk) s1))
      → o.over ≡ None → Has h (One op) a b → Meets (image h) n w
      → Sim (image h) n (at h a top env order w) (bind (meaning.convert_result (image h).source h.result v w) (λ v1 w2. Goes (Returns v1) w2)) (lands b o st)
  gives_back n a b op top v env order w o st wk e closes has ok =
      let s = see_one h op a b has in
      sim_at h n a b op top env order w (lands b o st) s
      (subst (λ y. Sim (image h) n (acted_at h a top env op y order w) (bind (meaning.convert_result (image h).source h.result v w) (λ v1 w2. Goes (Returns v1) w2)) (lands b o st))
      (sym (e ∙ ap (λ y. machine.need y (heap h order w) closes_with) h.own_there ∙ ap (λ y. machine.bind (conversions.convert (image h).program y (Plain v) (heap h order w)) (λ r s1. machine.Goes (acted (silent (Next.Close (Some r))) wk) s1)) h.result_is))
      (sim_bind {k = λ v1 w1 x. playing h.setting (give_if h.keeps (Some (Plain v1)) (machine_of h.setting h.frames x.order (turns.leave w1))) w1.records}
      (acts h.setting n h.frames (code_frame h a top env) op order w (λ v1. acted (silent (Next.Close (Some (Plain v1)))) wk) _ (unseen_of h order)
      (alike_map (λ v1. acted (silent (Next.Close (Some (Plain v1)))) wk) (λ r s1. machine.Goes (acted (silent (Next.Close (Some r))) wk) s1) (result_alike h.is h.result v w) (λ v1 s1. refl))
      (λ v1 w1 rs. refl) (λ v1 w1. refl) ok)
      (λ v1 w1 x ok1. subst (λ z. Sim (image h) n (returns z st v1 w1 x) (Goes (Returns v1) w1) (lands b o st)) closes (sim_done {v = Returns v1} {k = lands b o st} x ok1))))
    where
      closes_with : FileMethod.Method → machine.Result (Acted Work)
      closes_with x = machine.bind (conversions.convert (image h).program x.result (Plain v) (heap h order w)) (λ r s1. machine.Goes (acted (silent (Next.Close (Some r))) wk) s1)

  -- a variable is set
  sets_local : (n a b i : ℕ) (st : List Operand) (v : Value) (env : Env) (order : List ObjId) (w : World) (o : Targets) → Has h (One (Operation.SetLocal (suc i))) a b → Meets (image h) n w
      → Sim (image h) n (at h a (Plain v ∷ st) env order w) (need (slice_get env.locals i) w (λ _. Goes (Falls (record env { locals = changed_at (λ _. v) env.locals i })) w)) (lands b o st)
  sets_local n a b i st v env order w o has ok =
      let s = see_one h (Operation.SetLocal (suc i)) a b has in
      sim_need (slice_get env.locals i) w
      (λ u e. sim_at h n a b (Operation.SetLocal (suc i)) (Plain v ∷ st) env order w (lands b o st) s
      (subst (λ y. Sim (image h) n (acted_at h a (Plain v ∷ st) env (Operation.SetLocal (suc i)) (machine.need y (heap h order w) (λ _. goes_on (record (work h st env) { locals = changed_at (λ _. Plain v) (locals_of env h.rest) (suc i) }) (heap h order w))) order w) (Goes (Falls (record env { locals = changed_at (λ _. v) env.locals i })) w) (lands b o st)) (sym (there env.locals h.rest i u e))
      (subst (λ l. Sim (image h) n (playing_of h.setting (Frame.Code (record { place = suc a; work = record { method = h.method; stack = st; scopes = []; locals = Plain (value.Ref env.this) ∷ l }; is_activity = true; keeps = h.keeps }) ∷ h.frames) order w) (Goes (Falls (record env { locals = changed_at (λ _. v) env.locals i })) w) (lands b o st)) (sym (put_there env.locals h.rest i u v e))
      (subst (λ c. Sim (image h) n (at h c st (record env { locals = changed_at (λ _. v) env.locals i }) order w) (Goes (Falls (record env { locals = changed_at (λ _. v) env.locals i })) w) (lands b o st)) s.next
      (sim_done {v = Falls (record env { locals = changed_at (λ _. v) env.locals i })} {k = lands b o st} (unseen_of h order) ok)))))

  local_sim : (t : StaticType) (n a b i : ℕ) (st : List Operand) (v : Value) (env : Env) (order : List ObjId) (w : World) (o : Targets) → Has h (Then (Converts t) (One (Operation.SetLocal (suc i)))) a b → Meets (image h) n w
      → Sim (image h) n (at h a (Plain v ∷ st) env order w) (source.set_local (ctx h) i t env v w) (lands b o st)
  local_sim t n a b i st v env order w o has ok =
      let p = see_then h _ _ a b has in
      sim_bind (converts_sim h t n a p.mid st v env order w p.front ok) (λ v1 w2 x ok2. sets_local n p.mid b i st v1 env x.order w2 o p.back ok2)

  -- a property is assigned, and an element
  property_sim : (n : ℕ) → n ≤ h.n → (a b : ℕ) (name : List ℕ) (st : List Operand) (u v : Value) (env : Env) (order : List ObjId) (w : World) (o : Targets) → Has h (One (Operation.SetProperty (member_name name))) a b → Meets (image h) n w
      → Sim (image h) n (at h a (Plain v ∷ Plain u ∷ st) env order w) (bind (receiver false u w) (λ o1 w3. source.set_property (ctx h) env o1 name v w3)) (lands b o st)
  property_sim n le a b name st u v env order w o has ok =
      let s = see_one h (Operation.SetProperty (member_name name)) a b has in
      sim_at h n a b (Operation.SetProperty (member_name name)) (Plain v ∷ Plain u ∷ st) env order w (lands b o st) s
      (subst (λ r. Sim (image h) n (acted_at h a (Plain v ∷ Plain u ∷ st) env (Operation.SetProperty (member_name name)) (act (image h).program (Operation.SetProperty (member_name name)) (work h (Plain v ∷ Plain u ∷ st) env) (heap h order w)) order w) r (lands b o st))
      (bind_later (receiver false u w) (λ o1 w3. assign (ctx h) o1 name v w3) (λ _ w4. Goes (Falls env) w4))
      (sim_bind (assign_sim h n le a name (Plain v ∷ Plain u ∷ st) st u v env order w ok)
      (λ u1 w3 x ok3. subst (λ c. Sim (image h) n (at h c st env x.order w3) (Goes (Falls env) w3) (lands b o st)) s.next (sim_done {v = Falls env} {k = lands b o st} x ok3))))

  element_sim : (n a b : ℕ) (st : List Operand) (u i v : Value) (env : Env) (order : List ObjId) (w : World) (o : Targets) → Has h (One Operation.SetElement) a b → Meets (image h) n w
      → Sim (image h) n (at h a (Plain v ∷ Plain i ∷ Plain u ∷ st) env order w) (bind (receiver false u w) (λ o1 w3. source.set_element (ctx h) env o1 i v w3)) (lands b o st)
  element_sim n a b st u i v env order w o has ok =
      let s = see_one h Operation.SetElement a b has in
      sim_at h n a b Operation.SetElement (Plain v ∷ Plain i ∷ Plain u ∷ st) env order w (lands b o st) s
      (subst (λ r. Sim (image h) n (acted_at h a (Plain v ∷ Plain i ∷ Plain u ∷ st) env Operation.SetElement (act (image h).program Operation.SetElement (work h (Plain v ∷ Plain i ∷ Plain u ∷ st) env) (heap h order w)) order w) r (lands b o st))
      (bind_later (receiver false u w) (λ o1 w3. arrays.write_element o1 i v w3) (λ _ w4. Goes (Falls env) w4))
      (sim_bind {k = λ u1 w3 x. at h (suc a) st env x.order w3}
      (acts h.setting n h.frames (code_frame h a (Plain v ∷ Plain i ∷ Plain u ∷ st) env) Operation.SetElement order w (λ u1. acted (silent Next.On) (work h st env)) _ (unseen_of h order)
      (alike_map (λ u1. acted (silent Next.On) (work h st env)) (λ u1 s1. goes_on (work h st env) s1) (write_alike (image h) order u i v w) (λ u1 s1. refl))
      (λ u1 w3 rs. refl) (λ u1 w3. refl) ok)
      (λ u1 w3 x ok3. subst (λ c. Sim (image h) n (at h c st env x.order w3) (Goes (Falls env) w3) (lands b o st)) s.next (sim_done {v = Falls env} {k = lands b o st} x ok3))))

  -- a jump out of a statement
  goes_out : (n a b mark place : ℕ) (st : List Operand) (env : Env) (order : List ObjId) (w : World) (fl : Flow) (o : Targets) (y : Unseen) → Has h (Goes_to branch.Jump mark) a b → h.marks mark ≡ place
      → at h place st env order w ≡ lands b o st fl w y → Meets (image h) n w → Sim (image h) n (at h a st env order w) (Goes fl w) (lands b o st)
  goes_out n a b mark place st env order w fl o y has e is_it ok =
      let s = lies_goes h.naming h.code h.parts h.marks h.by branch.Jump mark a b has in
      sim_from (jumps h a (h.marks mark) b st env order w s)
      (subst (λ c. Sim (image h) n c (Goes fl w) (lands b o st)) (sym (ap (λ pc. at h pc st env order w) e ∙ is_it)) (sim_done {v = fl} {k = lands b o st} y ok))

  -- the first side of a choice ends at a jump past the second
  lands_past : (u v b : ℕ) (o : Targets) (st : List Operand) → Sees h u (Operation.Jump b) v → (fl : Flow) (w : World) (x : Unseen) → (y : Unseen) × Comes (image h) (lands u o st fl w x) (lands b o st fl w y)
  lands_past u v b o st s (Falls env) w x = (x, jumps h u b v st env x.order w s)
  lands_past u v b o st s (Breaks env) w x = (x, comes_here (image h) (at h o.out st env x.order w))
  lands_past u v b o st s (Continues env) w x = (x, comes_here (image h) (at h o.again st env x.order w))
  lands_past u v b o st s (Returns z) w x = (x, comes_here (image h) (lands b o st (Returns z) w x))

  -- what follows a statement
  flow_sim : (n u b : ℕ) (o : Targets) (st : List Operand) (next : Env → World → Result Flow) (fl : Flow) (w : World) (x : Unseen) → Meets (image h) n w → FlowFits h.this h.width fl
      → ((env : Env) → Fits h.this h.width env → Sim (image h) n (at h u st env x.order w) (next env w) (lands b o st)) → Sim (image h) n (lands u o st fl w x) (flow_on next fl w) (lands b o st)
  flow_sim n u b o st next (Falls env) w x ok fits s = s env fits
  flow_sim n u b o st next (Breaks env) w x ok fits s = sim_done {v = Breaks env} {k = lands b o st} x ok
  flow_sim n u b o st next (Continues env) w x ok fits s = sim_done {v = Continues env} {k = lands b o st} x ok
  flow_sim n u b o st next (Returns v) w x ok fits s = sim_done {v = Returns v} {k = lands b o st} x ok

  -- a turn is taken at a label, and then fewer are left
  label_sim : {A : Type 0} (n a start : ℕ) (st : List Operand) (env : Env) (order : List ObjId) (w : World) (g : World → Result A) (k : Onward A) → Sees h a Operation.Label start → Meets (image h) n w
      → ((w1 : World) → Meets (image h) w.turns w1 → Sim (image h) w.turns (at h start st env order w1) (g w1) k) → Sim (image h) n (at h a st env order w) (bind (turns.tick w) (λ _ w1. g w1)) k
  label_sim n a start st env order w g k s ok t =
      sim_at h n a start Operation.Label st env order w k s
      (sim_tick h.setting n h.frames order w (Frame.Code (code_frame h (suc a) st env)) (λ _ w1. g w1) k
      (λ w1 e1 keeps. sim_more (let l = ok.turns in omega (arith, l))
      (subst (λ c. Sim (image h) w.turns (at h c st env order w1) (g w1) k) s.next (t w1 (record { turns = omega (arith, e1); holds = keeps ok.holds })))))

  -- what a part of a loop does with n turns at most
  abbrev PartSim : ℕ → ℕ → Targets → List Operand → (Env → World → Result Flow) → Type 0
  PartSim start end o st part = (n : ℕ) → n ≤ h.n → (env : Env) (order : List ObjId) (w : World) → Fits h.this h.width env → Meets (image h) n w → Sim (image h) n (at h start st env order w) (part env w) (lands end o st)

  abbrev PartFits : (Env → World → Result Flow) → Type 0
  PartFits part = (env : Env) (w : World) → Fits h.this h.width env → EveryValue (FlowFits h.this h.width) (part env w)

  abbrev in_rounds : Targets → ℕ → ℕ → Targets
  in_rounds o b mid = record { out = b; again = mid; over = o.over }

  -- a test, which leads to a body or to the end
  abbrev HeadSim : ℕ → ℕ → ℕ → Targets → List Operand → (Env → World → Result Value) → Type 0
  HeadSim start first b o st test =
      (n : ℕ) → n ≤ h.n → (env : Env) (order : List ObjId) (w : World) → Meets (image h) n w → (g : World → Result Flow)
      → ((w1 : World) (x : Unseen) → Meets (image h) n w1 → Sim (image h) n (at h first st env x.order w1) (g w1) (lands b o st))
      → Sim (image h) n (at h start st env order w) (bind (test env w) (λ v w2. choose (to_bool v) g (Goes (Falls env)) w2)) (lands b o st)

  -- at most so many rounds of a loop, where its parts do as they mean
  loop_sim : (a start first mid last b : ℕ) (st : List Operand) (o : Targets) (test : Env → World → Result Value) (step body : Env → World → Result Flow)
      → Sees h a Operation.Label start → Sees h last (Operation.Jump a) b → HeadSim start first b o st test → PartSim first mid (in_rounds o b mid) st body → PartFits body → PartSim mid last o st step → PartFits step
      → (y n : ℕ) → n ≤ h.n → (env : Env) (order : List ObjId) (w : World) → Fits h.this h.width env → w.turns < y → Meets (image h) n w → Sim (image h) n (at h a st env order w) (loop y test step body env w) (lands b o st)
  loop_sim a start first mid last b st o test step body label back heads bodies body_fits steps step_fits zero n le env order w fits fuel ok = absurd (omega (arith, fuel))
  loop_sim a start first mid last b st o test step body label back heads bodies body_fits steps step_fits (suc y) n le env order w fits fuel ok =
      let few : w.turns ≤ h.n = (let l = ok.turns in omega (arith, l, le)) in
      label_sim n a start st env order w _ (lands b o st) label ok
      (λ w1 ok1. heads w.turns few env order w1 ok1 _
      (λ w2 x ok2. sim_bind_with (FlowFits h.this h.width) (body_fits env w2 fits) (bodies w.turns few env x.order w2 fits ok2)
      (λ fl w3 x3 fits3 ok3. rounds few fl w3 x3 fits3 ok3
      (λ env1 w4 x4 fits4 ok4. loop_sim a start first mid last b st o test step body label back heads bodies body_fits steps step_fits y w.turns few env1 x4.order w4 fits4 (let l = ok4.turns in omega (arith, l, fuel)) ok4))))
    where
      after_step : w.turns ≤ h.n → ((env1 : Env) (w4 : World) (x4 : Unseen) → Fits h.this h.width env1 → Meets (image h) w.turns w4 → Sim (image h) w.turns (at h a st env1 x4.order w4) (loop y test step body env1 w4) (lands b o st))
          → (env1 : Env) (w3 : World) (x3 : Unseen) → Fits h.this h.width env1 → Meets (image h) w.turns w3
          → Sim (image h) w.turns (at h mid st env1 x3.order w3) (bind (step env1 w3) (flow_on (λ env2 w5. loop y test step body env2 w5))) (lands b o st)
      after_step few next env1 w3 x3 fits1 ok3 =
          sim_bind_with (FlowFits h.this h.width) (step_fits env1 w3 fits1) (steps w.turns few env1 x3.order w3 fits1 ok3)
          (λ fl w4 x4 fits4 ok4. flow_sim w.turns last b o st (λ env2 w5. loop y test step body env2 w5) fl w4 x4 ok4 fits4
          (λ env2 fits5. sim_from (jumps h last a b st env2 x4.order w4 back) (next env2 w4 x4 fits5 ok4)))

      rounds : w.turns ≤ h.n → (fl : Flow) (w3 : World) (x3 : Unseen) → FlowFits h.this h.width fl → Meets (image h) w.turns w3
          → ((env1 : Env) (w4 : World) (x4 : Unseen) → Fits h.this h.width env1 → Meets (image h) w.turns w4 → Sim (image h) w.turns (at h a st env1 x4.order w4) (loop y test step body env1 w4) (lands b o st))
          → Sim (image h) w.turns (lands mid (in_rounds o b mid) st fl w3 x3) (again (λ env1 w4. bind (step env1 w4) (flow_on (λ env2 w5. loop y test step body env2 w5))) fl w3) (lands b o st)
      rounds few (Falls env1) w3 x3 fits3 ok3 next = after_step few next env1 w3 x3 fits3 ok3
      rounds few (Continues env1) w3 x3 fits3 ok3 next = after_step few next env1 w3 x3 fits3 ok3
      rounds few (Breaks env1) w3 x3 fits3 ok3 next = sim_done {v = Falls env1} {k = lands b o st} x3 ok3
      rounds few (Returns v) w3 x3 fits3 ok3 next = sim_done {v = Returns v} {k = lands b o st} x3 ok3

  -- a test with a branch
  head_sim : (start at_test first b : ℕ) (o : Targets) (st : List Operand) (z : Expr) → IsPlain (image h).source h.supers z → Has h (IsExprCode (labels h) false z) start at_test → Sees h at_test (Operation.Branch false b) first
      → HeadSim start first b o st (eval (ctx h) false z)
  head_sim start at_test first b o st z plain has jump n le env order w ok g t =
      sim_bind (eval_sim h z plain n le start at_test st env order w has ok)
      (λ v w1 x ok1. branches_false h n at_test first b st v env x.order w1 g (Goes (Falls env)) jump (t w1 x ok1) (sim_done {v = Falls env} {k = lands b o st} x ok1))

  -- a return that goes to a place
  leaves_sim : (v : Value) (n a b mark : ℕ) (o : Targets) (st : List Operand) (env : Env) (order : List ObjId) (w : World) → Fits h.this h.width env → Some (h.marks mark) ≡ o.over → h.result ≡ None
      → Has h (Goes_to branch.Jump mark) a b → Meets (image h) n w → Sim (image h) n (at h a st env order w) (bind (meaning.convert_result (image h).source h.result v w) (λ v1 w1. Goes (Returns v1) w1)) (lands b o st)
  leaves_sim v n a b mark o st env order w fits far none has ok =
      subst (λ r. Sim (image h) n (at h a st env order w) (bind (meaning.convert_result (image h).source r v w) (λ v1 w1. Goes (Returns v1) w1)) (lands b o st)) (sym none)
      (goes_out n a b mark (h.marks mark) st env order w (Returns v) o left has refl
      (ap (λ t. playing_of h.setting (Frame.Code (record { place = h.marks mark; work = record { method = h.method; stack = st; scopes = []; locals = Plain (value.Ref t) ∷ left.locals }; is_activity = true; keeps = h.keeps }) ∷ h.frames) order w) fits.this_is
      ∙ ap (λ z. returns z st v w left) far) ok)
    where
      left : Unseen
      left = record { order = order; locals = map Plain env.locals ++ h.rest }

  -- a return
  return_sim : (e : Option Expr) → IsPlainStmt (image h).source h.supers (Stmt.Return e) → (over : Option ℕ) (n : ℕ) → n ≤ h.n → (a b : ℕ) (o : Targets) (st : List Operand) (env : Env) (order : List ObjId) (w : World) → Fits h.this h.width env
      → option_map h.marks over ≡ o.over → (is_some over ≡ true → h.result ≡ None)
      → Has h (IsReturnCode (labels h) e over) a b → Meets (image h) n w → Sim (image h) n (at h a st env order w) (source.give_back (ctx h) h.result e env w) (lands b o st)
  return_sim None plain None n le a b o st env order w fits far none has ok = gives_back n a b Operation.ReturnVoid st value.Undefined env order w o st (work h st env) refl (sym far) has ok
  return_sim (Some e) plain None n le a b o st env order w fits far none has ok =
      let p1 = see_then h _ _ a b has in
      sim_bind (eval_sim h e plain n le a p1.mid st env order w p1.front ok)
      (λ v w1 x ok1. gives_back n p1.mid b Operation.ReturnValue (Plain v ∷ st) v env x.order w1 o st (work h st env) refl (sym far) p1.back ok1)
  return_sim None plain (Some mark) n le a b o st env order w fits far none has ok = leaves_sim value.Undefined n a b mark o st env order w fits far (none refl) has ok
  return_sim (Some e) plain (Some mark) n le a b o st env order w fits far none has ok =
      let p1 = see_then h _ _ a b has in
      let p2 = see_then h _ _ p1.mid b p1.back in
      sim_bind (eval_sim h e plain n le a p1.mid st env order w p1.front ok)
      (λ v w1 x ok1. stacked h n p1.mid p2.mid Operation.Pop (Plain v ∷ st) st env x.order w1 refl p2.front (leaves_sim v n p2.mid b mark o st env x.order w1 fits far (none refl) p2.back ok1))

  -- what follows the first round of a loop whose test comes after its body
  once : (n b last top : ℕ) (o : Targets) (st : List Operand) (next : Env → World → Result Flow) (fl : Flow) (w : World) (x : Unseen) → FlowFits h.this h.width fl → Meets (image h) n w → Sees h last (Operation.Jump top) b
      → ((env : Env) → Fits h.this h.width env → Sim (image h) n (at h top st env x.order w) (next env w) (lands b o st))
      → Sim (image h) n (lands last (in_rounds o b last) st fl w x) (again next fl w) (lands b o st)
  once n b last top o st next (Falls env) w x fits ok back t = sim_from (jumps h last top b st env x.order w back) (t env fits)
  once n b last top o st next (Continues env) w x fits ok back t = sim_from (jumps h last top b st env x.order w back) (t env fits)
  once n b last top o st next (Breaks env) w x fits ok back t = sim_done {v = Falls env} {k = lands b o st} x ok
  once n b last top o st next (Returns v) w x fits ok back t = sim_done {v = Returns v} {k = lands b o st} x ok

  -- texts are traced
  trace_sim : (n c count : ℕ) (top st : List Operand) (vs : List Value) (env : Env) (order : List ObjId) (w : World) → Meets (image h) n w
      → Sim (image h) n (acted_at h c top env (Operation.CallProperty false (public_name (codes "trace")) count) (machine.mapped (finish false (work h st env)) (call_trace (map Plain vs) (heap h order w))) order w)
      (source.trace vs w) (λ (_ : Unit {0}) w1 x. at h (suc c) st env x.order w1)
  trace_sim n c count top st vs env order w ok =
      subst (λ y. Sim (image h) n (acted_at h c top env (Operation.CallProperty false (public_name (codes "trace")) count) (machine.mapped (finish false (work h st env)) (machine.bind y told)) order w) (source.trace vs w) after_trace)
      (sym (texts_are vs (heap h order w))) (of_texts (texts_of vs))
    where
      after_trace : Onward (Unit {0})
      after_trace u w1 x = at h (suc c) st env x.order w1

      told : List (List ℕ) → Heap → machine.Result Reply
      told texts h1 = machine.bind (machine.given (made_text (spaced_text texts)) h1) (λ text h2. reply value.Undefined (recorded (trace.Traced text)) h2)

      of_text : (x : Computed (List ℕ) Stop) → Sim (image h) n (acted_at h c top env (Operation.CallProperty false (public_name (codes "trace")) count) (machine.mapped (finish false (work h st env)) (machine.bind (machine.given x (heap h order w)) (λ text h2. reply value.Undefined (recorded (trace.Traced text)) h2))) order w)
          (bind (given x w) (λ text w2. done (note (trace.Traced text) w2))) after_trace
      of_text (Ok text) = sim_done {v = tt} {k = after_trace} (unseen_of h order) (record { turns = ok.turns; holds = record { fields = ok.holds.fields } })
      of_text (Err cause) = sim_halts refl refl

      of_texts : (x : Computed (List (List ℕ)) Stop) → Sim (image h) n (acted_at h c top env (Operation.CallProperty false (public_name (codes "trace")) count) (machine.mapped (finish false (work h st env)) (machine.bind (machine.given x (heap h order w)) told)) order w)
          (bind (given x w) (λ texts w1. bind (given (made_text (spaced_text texts)) w1) (λ text w2. done (note (trace.Traced text) w2)))) after_trace
      of_texts (Ok texts) = of_text (made_text (spaced_text texts))
      of_texts (Err cause) = sim_halts refl refl

  -- values are taken off the stack
  pops : (xs : List Operand) (n a b : ℕ) (st : List Operand) (env : Env) (order : List ObjId) (w : World) → length xs ≡ n → Has h (Repeated n (One Operation.Pop)) a b → Comes (image h) (at h a (xs ++ st) env order w) (at h b st env order w)
  pops [] zero a b st env order w e has = subst (λ c. Comes (image h) (at h a st env order w) (at h c st env order w)) (lies_nothing h.naming h.code h.parts h.marks h.by a b has) (comes_here (image h) (at h a st env order w))
  pops [] (suc n) a b st env order w e has = absurd (omega (arith, e))
  pops (x ∷ xs) zero a b st env order w e has = absurd (omega (arith, e))
  pops (x ∷ xs) (suc n) a b st env order w e has =
      let p = see_then h _ _ a b has in
      comes_on (image h) (at h a (x ∷ (xs ++ st)) env order w) (at h p.mid (xs ++ st) env order w) (at h b st env order w)
      (moves_on h a p.mid Operation.Pop (x ∷ (xs ++ st)) (locals_of env h.rest) (xs ++ st) (locals_of env h.rest) order w p.front refl refl)
      (pops xs n p.mid b st env order w (omega (arith, e)) p.back)

  -- `super(..)`: the constructor of the base runs
  base_called : (base : Class) → IsConstructible (image h).source (Some base) → SuperAt (image h).program h.method (Some base) → (n : ℕ) → n ≤ h.n → (c b count : ℕ) (top st : List Operand) (vs : List Value) (env : Env) (order : List ObjId) (w : World)
      → b ≡ suc c → Meets (image h) n w
      → Sim (image h) n (acted_at h c top env (Operation.ConstructSuper count) (construct_super (image h).program (Plain (value.Ref env.this)) (map Plain vs) (work h st env) (heap h order w)) order w)
      (bind (making.prepare (ctx h) base vs w) (λ arguments w1. making.construct (ctx h) base env.this arguments w1)) (λ (_ : Unit {0}) w1 x. at h b st env x.order w1)
  base_called base can there_is n le c b count top st vs env order w next ok =
      subst (λ y. Sim (image h) n (acted_at h c top env (Operation.ConstructSuper count) y order w) (bind (making.prepare (ctx h) base vs w) (λ arguments w1. making.construct (ctx h) base env.this arguments w1)) ends) (sym found_base) (of_base base can)
    where
      ends : Onward (Unit {0})
      ends u w1 x = at h b st env x.order w1

      found_base : construct_super (image h).program (Plain (value.Ref env.this)) (map Plain vs) (work h st env) (heap h order w) ≡ construct_base (image h).program (Some (StaticType.Object base)) (Plain (value.Ref env.this)) (map Plain vs) (work h st env) (heap h order w)
      found_base =
          ap (λ x. machine.bind (machine.or_fault fault.WrongKind x (heap h order w) (λ k. machine.need (slice_get (image h).program.classes k) (heap h order w) (λ class. machine.Goes class (heap h order w)))) (λ class h1. construct_base (image h).program class.base (Plain (value.Ref env.this)) (map Plain vs) (work h st env) h1)) there_is.owner_is
          ∙ ap (λ x. machine.bind (machine.need x (heap h order w) (λ class. machine.Goes class (heap h order w))) (λ class h1. construct_base (image h).program class.base (Plain (value.Ref env.this)) (map Plain vs) (work h st env) h1)) there_is.there
          ∙ ap (λ x. construct_base (image h).program x (Plain (value.Ref env.this)) (map Plain vs) (work h st env) (heap h order w)) there_is.base_is

      of_base : (z : Class) → IsConstructible (image h).source (Some z)
          → Sim (image h) n (acted_at h c top env (Operation.ConstructSuper count) (construct_base (image h).program (Some (StaticType.Object z)) (Plain (value.Ref env.this)) (map Plain vs) (work h st env) (heap h order w)) order w)
          (bind (making.prepare (ctx h) z vs w) (λ arguments w1. making.construct (ctx h) z env.this arguments w1)) ends
      of_base (Class.File k) can1 =
          let cl = some_there (slice_get (image h).source.classes k) can1.0 in
          let code = h.is.code.classes k cl.0 cl.1 in
          subst (λ y. Sim (image h) n (acted_at h c top env (Operation.ConstructSuper count) (machine.need y (heap h order w) (λ class. call_written (image h).program class.constructor (Plain (value.Ref env.this)) (map Plain vs) false (work h st env) (heap h order w))) order w) (bind (making.prepare (ctx h) (Class.File k) vs w) (λ arguments w1. making.construct (ctx h) (Class.File k) env.this arguments w1)) ends)
          (sym code.there)
          (sim_bind {k = λ vs1 w1 x. playing h.setting (enter (image h).program (call_of code.of_file.constructor (ref env.this) (map Plain vs1) false) (machine_of h.setting (Frame.Code (code_frame h (suc c) st env) ∷ h.frames) x.order w1)) w1.records}
          (acts h.setting n h.frames (code_frame h c top env) (Operation.ConstructSuper count) order w (λ vs1. acted (silent (Next.Calls (call_of code.of_file.constructor (ref env.this) (map Plain vs1) false))) (work h st env)) _ (unseen_of h order)
          (alike_map (λ vs1. acted (silent (Next.Calls (call_of code.of_file.constructor (ref env.this) (map Plain vs1) false))) (work h st env)) (λ e1 s1. machine.Goes (acted e1 (work h st env)) s1)
          (alike_map (λ vs1. silent (Next.Calls (call_of code.of_file.constructor (ref env.this) (map Plain vs1) false))) (λ vs1 s1. machine.Goes (silent (Next.Calls (call_of code.of_file.constructor (ref env.this) vs1 false))) s1) (constructor_prepared h.is (ctx h) refl k cl.0 cl.1 vs w) (λ v s1. refl))
          (λ v s1. refl))
          (λ vs1 w1 rs. refl) (λ vs1 w1. refl) ok)
          (λ vs1 w1 x ok1. sim_bind (h.law.constructs k n le code.of_file code.there env.this vs1 (Frame.Code (code_frame h (suc c) st env) ∷ h.frames) x.order w1 (no_document_there (image h).source k env.this w1 can1.1) ok1)
          (λ v w2 y ok2. subst (λ place. Sim (image h) n (at h place st env y.order w2) (done w2) ends) next (sim_done {v = tt} {k = ends} y ok2))))
      of_base (Class.Native class) can1 = no_event vs
        where
          takes_none : constructor_parameters class ≡ []
          takes_none = ap (λ t. if t then event_parameters else []) can1

          no_event : (us : List Value)
              → Sim (image h) n (acted_at h c top env (Operation.ConstructSuper count) (construct_native_base (image h).program class (Plain (value.Ref env.this)) (map Plain us) (work h st env) (heap h order w)) order w)
              (bind (bind (meaning.native_arguments (image h).source (constructor_parameters class) us w) making.with_type) (λ arguments w1. choose (native_descends class native.Event) (making.begin_event env.this arguments) done w1)) ends
          no_event [] =
              subst (λ ps. Sim (image h) n (acted_at h c top env (Operation.ConstructSuper count) (machine.bind (machine.bind (conversions.native_arguments (image h).program ps [] (heap h order w)) (λ us1 h1. machine.choose (machine_making.lacks_type us1) (machine.stops stop.NullReference) (machine.Goes us1) h1)) (λ us1 h1. machine.bind (conversions.object_number (Plain (value.Ref env.this)) h1) (λ o1 h2. begin_base_event (image h).program o1 us1 (work h st env) h2))) order w)
              (bind (bind (meaning.native_arguments (image h).source ps [] w) making.with_type) (λ arguments w1. choose (native_descends class native.Event) (making.begin_event env.this arguments) done w1)) ends)
              (sym takes_none)
              (subst (λ t. Sim (image h) n (at h (suc c) st env order w) (choose t (making.begin_event env.this []) done w) ends) (sym can1)
              (subst (λ place. Sim (image h) n (at h place st env order w) (done w) ends) next (sim_done {v = tt} {k = ends} (unseen_of h order) ok)))
          no_event (u ∷ us) =
              subst (λ ps. Sim (image h) n (acted_at h c top env (Operation.ConstructSuper count) (machine.bind (machine.bind (conversions.native_arguments (image h).program ps (map Plain (u ∷ us)) (heap h order w)) (λ us1 h1. machine.choose (machine_making.lacks_type us1) (machine.stops stop.NullReference) (machine.Goes us1) h1)) (λ us1 h1. machine.bind (conversions.object_number (Plain (value.Ref env.this)) h1) (λ o1 h2. begin_base_event (image h).program o1 us1 (work h st env) h2))) order w)
              (bind (bind (meaning.native_arguments (image h).source ps (u ∷ us) w) making.with_type) (λ arguments w1. choose (native_descends class native.Event) (making.begin_event env.this arguments) done w1)) ends)
              (sym takes_none)
              (too_many (length (u ∷ us) == 0) refl)
            where
              too_many : (t : Bool) → (length (u ∷ us) == 0) ≡ t
                  → Sim (image h) n (acted_at h c top env (Operation.ConstructSuper count) (machine.bind (machine.bind (conversions.native_arguments (image h).program [] (map Plain (u ∷ us)) (heap h order w)) (λ us1 h1. machine.choose (machine_making.lacks_type us1) (machine.stops stop.NullReference) (machine.Goes us1) h1)) (λ us1 h1. machine.bind (conversions.object_number (Plain (value.Ref env.this)) h1) (λ o1 h2. begin_base_event (image h).program o1 us1 (work h st env) h2))) order w)
                  (bind (bind (guarded t (meaning.into_parameters (image h).source [] (u ∷ us)) w) making.with_type) (λ arguments w1. choose (native_descends class native.Event) (making.begin_event env.this arguments) done w1)) ends
              too_many true e = sim_stuck
              too_many false e = sim_stuck

  super_sim : (base : Option Class) (es : Exprs) → IsPlainStmt (image h).source h.supers (Stmt.Super base es) → (n : ℕ) → n ≤ h.n → (a b : ℕ) (o : Targets) (st : List Operand) (env : Env) (order : List ObjId) (w : World)
      → Has h (IsSuperCode (labels h) base es) a b → Meets (image h) n w → Sim (image h) n (at h a st env order w) (exec (ctx h) h.result (Stmt.Super base es) env w) (lands b o st)
  super_sim None es plain n le a b o st env order w has ok =
      let p1 = see_then h _ _ a b has in
      sim_bind_with {k = λ vs w1 y. at h p1.mid (push_all vs st) env y.order w1} (λ vs. length vs ≡ count_of es) (counted_all (ctx h) false es env w)
      (all_sim h es plain.2 n le a p1.mid st env order w p1.front ok)
      (λ vs w1 y count ok1.
      let l = pushed_list vs st in
      sim_from (subst (λ z. Comes (image h) (at h p1.mid z env y.order w1) (at h b st env y.order w1)) (sym l.1) (pops l.0 (count_of es) p1.mid b st env y.order w1 (l.2 ∙ count) p1.back))
      (sim_done {v = Falls env} {k = lands b o st} y ok1))
  super_sim (Some base) es plain n le a b o st env order w has ok =
      let p1 = see_then h _ _ a b has in
      let p2 = see_then h _ _ p1.mid b p1.back in
      let s2 = see_one h (Operation.ConstructSuper (count_of es)) p2.mid b p2.back in
      sim_bind_with {r = Goes (value.Ref env.this) w} {f = λ this w1. bind (eval_all (ctx h) false es env w1) (λ vs w2. source.construct_base (ctx h) (Some base) vs env w2)} (λ this. this ≡ value.Ref env.this) refl
      (pushed h n a p1.mid (Operation.GetLocal 0) st (value.Ref env.this) env order w refl p1.front ok)
      (λ this w0 y0 is ok0. subst (λ z. Sim (image h) n (at h p1.mid (Plain z ∷ st) env y0.order w0) (exec (ctx h) h.result (Stmt.Super (Some base) es) env w0) (lands b o st)) (sym is)
      (sim_bind_with {k = λ vs w1 y. at h p2.mid (push_all vs (Plain (value.Ref env.this) ∷ st)) env y.order w1} (λ vs. length vs ≡ count_of es) (counted_all (ctx h) false es env w0)
      (all_sim h es plain.2 n le p1.mid p2.mid (Plain (value.Ref env.this) ∷ st) env y0.order w0 p2.front ok0)
      (λ vs w1 y count ok1. sim_at h n p2.mid b (Operation.ConstructSuper (count_of es)) (push_all vs (Plain (value.Ref env.this) ∷ st)) env y.order w1 (lands b o st) s2
      (subst (λ z. Sim (image h) n (acted_at h p2.mid (push_all vs (Plain (value.Ref env.this) ∷ st)) env (Operation.ConstructSuper (count_of es)) z y.order w1) (source.construct_base (ctx h) (Some base) vs env w1) (lands b o st))
      (sym (all_taken vs (count_of es) (Plain (value.Ref env.this) ∷ st) (work h (push_all vs (Plain (value.Ref env.this) ∷ st)) env) (heap h y.order w1) _ count))
      (subst (λ r. Sim (image h) n (acted_at h p2.mid (push_all vs (Plain (value.Ref env.this) ∷ st)) env (Operation.ConstructSuper (count_of es)) (construct_super (image h).program (Plain (value.Ref env.this)) (map Plain vs) (work h st env) (heap h y.order w1)) y.order w1) r (lands b o st))
      (bind_later (making.prepare (ctx h) base vs w1) (λ arguments w2. making.construct (ctx h) base env.this arguments w2) (λ _ w3. Goes (Falls env) w3))
      (sim_bind (base_called base plain.1 (h.super_at (Some base) plain.0) n le p2.mid b (count_of es) (push_all vs (Plain (value.Ref env.this) ∷ st)) st vs env y.order w1 s2.next ok1)
      (λ _ w2 x ok2. sim_done {v = Falls env} {k = lands b o st} x ok2)))))))

  -- spare: the first of the two locals behind the variables, which hold nothing
  module _ (hold_nothing : h.rest ≡ undefined ∷ undefined ∷ []) where
    abbrev spare : ℕ
    spare = suc h.width

    clears : (a b n : ℕ) (st locals locals1 : List Operand) (u : Operand) (order : List ObjId) (w : World) → Has h (Cleared (labels h) spare n) a b → slice_get locals n ≡ Some u → changed_at (λ _. undefined) locals n ≡ locals1
        → Comes (image h) (raw h a st locals order w) (raw h b st locals1 order w)
    clears a b n st locals locals1 u order w has e put =
        let p = see_then h _ _ a b has in
        comes_on (image h) (raw h a st locals order w) (raw h p.mid (undefined ∷ st) locals order w) (raw h b st locals1 order w)
        (moves_on h a p.mid (Operation.Push value.Undefined) st locals (undefined ∷ st) locals order w p.front refl refl)
        (sets h p.mid b n st locals locals1 u undefined order w p.back e put)

    first_there : (ls : List Value) (x y : Operand) → slice_get (map Plain ls ++ x ∷ y ∷ []) (length ls) ≡ Some x
    first_there [] x y = refl
    first_there (v ∷ ls) x y = first_there ls x y

    second_there : (ls : List Value) (x y : Operand) → slice_get (map Plain ls ++ x ∷ y ∷ []) (suc (length ls)) ≡ Some y
    second_there [] x y = refl
    second_there (v ∷ ls) x y = second_there ls x y

    first_put : (ls : List Value) (x y z : Operand) → changed_at (λ _. z) (map Plain ls ++ x ∷ y ∷ []) (length ls) ≡ map Plain ls ++ z ∷ y ∷ []
    first_put [] x y z = refl
    first_put (v ∷ ls) x y z = ap (λ l. Plain v ∷ l) (first_put ls x y z)

    second_put : (ls : List Value) (x y z : Operand) → changed_at (λ _. z) (map Plain ls ++ x ∷ y ∷ []) (suc (length ls)) ≡ map Plain ls ++ x ∷ z ∷ []
    second_put [] x y z = refl
    second_put (v ∷ ls) x y z = ap (λ l. Plain v ∷ l) (second_put ls x y z)

    -- two values on the stack, twice
    doubled : (a b : ℕ) (st : List Operand) (u i : Operand) (env : Env) (order : List ObjId) (w : World) → Fits h.this h.width env → Has h (Doubled (labels h) spare) a b
        → Comes (image h) (at h a (i ∷ u ∷ st) env order w) (at h b (i ∷ u ∷ i ∷ u ∷ st) env order w)
    doubled a b st u i env order w fits has =
        let p1 = see_then h _ _ a b has in
        let p2 = see_then h _ _ p1.mid b p1.back in
        let p3 = see_then h _ _ p2.mid b p2.back in
        let p4 = see_then h _ _ p3.mid b p3.back in
        let p5 = see_then h _ _ p4.mid b p4.back in
        let p6 = see_then h _ _ p5.mid b p5.back in
        let p7 = see_then h _ _ p6.mid b p6.back in
        subst (λ r. Comes (image h) (raw h a (i ∷ u ∷ st) (locals_of env r) order w) (raw h b (i ∷ u ∷ i ∷ u ∷ st) (locals_of env r) order w)) (sym hold_nothing)
        (then_to a p1.mid b (i ∷ u ∷ st) (u ∷ st) (i ∷ u ∷ i ∷ u ∷ st) (both undefined undefined) (both undefined i) (both undefined undefined)
        (sets h a p1.mid (suc spare) (u ∷ st) (both undefined undefined) (both undefined i) undefined i order w p1.front (there_second undefined undefined) (put_second undefined undefined i))
        (then_to p1.mid p2.mid b (u ∷ st) st (i ∷ u ∷ i ∷ u ∷ st) (both undefined i) (both u i) (both undefined undefined)
        (sets h p1.mid p2.mid spare st (both undefined i) (both u i) undefined u order w p2.front (there_first undefined i) (put_first undefined i u))
        (then_to p2.mid p3.mid b st (u ∷ st) (i ∷ u ∷ i ∷ u ∷ st) (both u i) (both u i) (both undefined undefined)
        (gets h p2.mid p3.mid spare st (both u i) u order w p3.front (there_first u i))
        (then_to p3.mid p4.mid b (u ∷ st) (i ∷ u ∷ st) (i ∷ u ∷ i ∷ u ∷ st) (both u i) (both u i) (both undefined undefined)
        (gets h p3.mid p4.mid (suc spare) (u ∷ st) (both u i) i order w p4.front (there_second u i))
        (then_to p4.mid p5.mid b (i ∷ u ∷ st) (u ∷ i ∷ u ∷ st) (i ∷ u ∷ i ∷ u ∷ st) (both u i) (both u i) (both undefined undefined)
        (gets h p4.mid p5.mid spare (i ∷ u ∷ st) (both u i) u order w p5.front (there_first u i))
        (then_to p5.mid p6.mid b (u ∷ i ∷ u ∷ st) (i ∷ u ∷ i ∷ u ∷ st) (i ∷ u ∷ i ∷ u ∷ st) (both u i) (both u i) (both undefined undefined)
        (gets h p5.mid p6.mid (suc spare) (u ∷ i ∷ u ∷ st) (both u i) i order w p6.front (there_second u i))
        (then_to p6.mid p7.mid b (i ∷ u ∷ i ∷ u ∷ st) (i ∷ u ∷ i ∷ u ∷ st) (i ∷ u ∷ i ∷ u ∷ st) (both u i) (both undefined i) (both undefined undefined)
        (clears p6.mid p7.mid spare (i ∷ u ∷ i ∷ u ∷ st) (both u i) (both undefined i) u order w p7.front (there_first u i) (put_first u i undefined))
        (clears p7.mid b (suc spare) (i ∷ u ∷ i ∷ u ∷ st) (both undefined i) (both undefined undefined) i order w p7.back (there_second undefined i) (put_second undefined i undefined)))))))))
      where
        both : Operand → Operand → List Operand
        both x y = locals_of env (x ∷ y ∷ [])

        then_to : (c d e : ℕ) (s0 s1 s2 l0 l1 l2 : List Operand) → Comes (image h) (raw h c s0 l0 order w) (raw h d s1 l1 order w) → Comes (image h) (raw h d s1 l1 order w) (raw h e s2 l2 order w) → Comes (image h) (raw h c s0 l0 order w) (raw h e s2 l2 order w)
        then_to c d e s0 s1 s2 l0 l1 l2 x y = comes_on (image h) (raw h c s0 l0 order w) (raw h d s1 l1 order w) (raw h e s2 l2 order w) x y

        there_first : (x y : Operand) → slice_get (both x y) spare ≡ Some x
        there_first x y = subst (λ k. slice_get (both x y) (suc k) ≡ Some x) fits.width_is (first_there env.locals x y)

        there_second : (x y : Operand) → slice_get (both x y) (suc spare) ≡ Some y
        there_second x y = subst (λ k. slice_get (both x y) (suc (suc k)) ≡ Some y) fits.width_is (second_there env.locals x y)

        put_first : (x y z : Operand) → changed_at (λ _. z) (both x y) spare ≡ both z y
        put_first x y z = subst (λ k. changed_at (λ _. z) (both x y) (suc k) ≡ both z y) fits.width_is (ap (λ l. Plain (value.Ref env.this) ∷ l) (first_put env.locals x y z))

        put_second : (x y z : Operand) → changed_at (λ _. z) (both x y) (suc spare) ≡ both x z
        put_second x y z = subst (λ k. changed_at (λ _. z) (both x y) (suc (suc k)) ≡ both x z) fits.width_is (ap (λ l. Plain (value.Ref env.this) ∷ l) (second_put env.locals x y z))

    -- an element that is read and written
    update_element : (x y : Expr) (operator : Operator) (e : Expr) → IsPlain (image h).source h.supers x → IsPlain (image h).source h.supers y → IsPlain (image h).source h.supers e
        → (n : ℕ) → n ≤ h.n → (a b : ℕ) (o : Targets) (st : List Operand) (env : Env) (order : List ObjId) (w : World) → Fits h.this h.width env
        → Has h (IsUpdateCode (labels h) spare (Place.Element_place x y) operator e) a b → Meets (image h) n w
        → Sim (image h) n (at h a st env order w) (source.update (ctx h) (Place.Element_place x y) operator e env w) (lands b o st)
    update_element x y operator e px py pe n le a b o st env order w fits has ok =
        let p1 = see_then h _ _ a b has in
        let p2 = see_then h _ _ p1.mid b p1.back in
        let p3 = see_then h _ _ p2.mid b p2.back in
        let p4 = see_then h _ _ p3.mid b p3.back in
        let p5 = see_then h _ _ p4.mid b p4.back in
        let p6 = see_then h _ _ p5.mid b p5.back in
        sim_bind (eval_sim h x px n le a p1.mid st env order w p1.front ok)
        (λ u w1 x1 ok1. sim_bind (eval_sim h y py n le p1.mid p2.mid (Plain u ∷ st) env x1.order w1 p2.front ok1)
        (λ i w2 x2 ok2. sim_from (doubled p2.mid p3.mid st (Plain u) (Plain i) env x2.order w2 fits p3.front)
        (subst (λ r. Sim (image h) n (at h p3.mid (Plain i ∷ Plain u ∷ Plain i ∷ Plain u ∷ st) env x2.order w2) r (lands b o st)) (again_received u i w2)
        (sim_bind (valued h n p3.mid p4.mid Operation.GetElement (Plain i ∷ Plain u ∷ Plain i ∷ Plain u ∷ st) (Plain i ∷ Plain u ∷ st) env x2.order w2 _ p4.front refl (element_alike (image h) x2.order u i w2) ok2)
        (λ old w3 x3 ok3. sim_bind {k = λ v w5 x5. at h p6.mid (Plain v ∷ Plain i ∷ Plain u ∷ st) env x5.order w5}
        (sim_bind (eval_sim h e pe n le p4.mid p5.mid (Plain old ∷ Plain i ∷ Plain u ∷ st) env x3.order w3 p5.front ok3)
        (λ v w4 x4 ok4. operator_sim h operator n p5.mid p6.mid (Plain i ∷ Plain u ∷ st) old v env x4.order w4 p6.front ok4))
        (λ v w5 x5 ok5. element_sim n p6.mid b st u i v env x5.order w5 o p6.back ok5))))))
      where
        again_received : (u i : Value) (w2 : World)
            → bind (bind (receiver false u w2) (λ a1 w3. arrays.read_element a1 i w3)) (λ old w4. bind (source.combined (ctx h) operator old e env w4) (λ v w5. bind (receiver false u w5) (λ a1 w6. source.set_element (ctx h) env a1 i v w6)))
            ≡ bind (receiver false u w2) (λ a1 w3. bind (arrays.read_element a1 i w3) (λ old w4. bind (source.combined (ctx h) operator old e env w4) (λ v w5. source.set_element (ctx h) env a1 i v w5)))
        again_received (value.Ref a1) i w2 = refl
        again_received value.Null i w2 = refl
        again_received value.Undefined i w2 = refl
        again_received (value.Bool z) i w2 = refl
        again_received (value.Int z) i w2 = refl
        again_received (value.Text z) i w2 = refl
        again_received (value.Listener z z1) i w2 = refl

    update_property : (x : Expr) (name : List ℕ) (operator : Operator) (e : Expr) → IsPlain (image h).source h.supers x → IsPlain (image h).source h.supers e
        → (n : ℕ) → n ≤ h.n → (a b : ℕ) (o : Targets) (st : List Operand) (env : Env) (order : List ObjId) (w : World)
        → Has h (IsUpdateCode (labels h) spare (Place.Property_place x name) operator e) a b → Meets (image h) n w
        → Sim (image h) n (at h a st env order w) (source.update (ctx h) (Place.Property_place x name) operator e env w) (lands b o st)
    update_property x name operator e px pe n le a b o st env order w has ok =
        let p1 = see_then h _ _ a b has in
        let p2 = see_then h _ _ p1.mid b p1.back in
        let p3 = see_then h _ _ p2.mid b p2.back in
        let p4 = see_then h _ _ p3.mid b p3.back in
        let p5 = see_then h _ _ p4.mid b p4.back in
        sim_bind (eval_sim h x px n le a p1.mid st env order w p1.front ok)
        (λ u w1 x1 ok1. stacked h n p1.mid p2.mid Operation.Dup (Plain u ∷ st) (Plain u ∷ Plain u ∷ st) env x1.order w1 refl p2.front
        (subst (λ r. Sim (image h) n (at h p2.mid (Plain u ∷ Plain u ∷ st) env x1.order w1) r (lands b o st)) (again_received u w1)
        (sim_bind (valued h n p2.mid p3.mid (Operation.GetProperty (member_name name)) (Plain u ∷ Plain u ∷ st) (Plain u ∷ st) env x1.order w1 _ p3.front refl (read_alike h.is u name w1 ok1.holds) ok1)
        (λ old w2 x2 ok2. sim_bind {k = λ v w4 x4. at h p5.mid (Plain v ∷ Plain u ∷ st) env x4.order w4}
        (sim_bind (eval_sim h e pe n le p3.mid p4.mid (Plain old ∷ Plain u ∷ st) env x2.order w2 p4.front ok2)
        (λ v w3 x3 ok3. operator_sim h operator n p4.mid p5.mid (Plain u ∷ st) old v env x3.order w3 p5.front ok3))
        (λ v w4 x4 ok4. property_sim n le p5.mid b name st u v env x4.order w4 o p5.back ok4)))))
      where
        again_received : (u : Value) (w1 : World)
            → bind (bind (receiver false u w1) (λ o1 w2. objects.read (image h).source o1 name w2)) (λ old w3. bind (source.combined (ctx h) operator old e env w3) (λ v w4. bind (receiver false u w4) (λ o1 w5. source.set_property (ctx h) env o1 name v w5)))
            ≡ bind (receiver false u w1) (λ o1 w2. bind (objects.read (image h).source o1 name w2) (λ old w3. bind (source.combined (ctx h) operator old e env w3) (λ v w4. source.set_property (ctx h) env o1 name v w4)))
        again_received (value.Ref o1) w1 = refl
        again_received value.Null w1 = refl
        again_received value.Undefined w1 = refl
        again_received (value.Bool z) w1 = refl
        again_received (value.Int z) w1 = refl
        again_received (value.Text z) w1 = refl
        again_received (value.Listener z z1) w1 = refl

    mutual
      pub exec_sim : (s : Stmt) → IsPlainStmt (image h).source h.supers s → (x : Exits) (n : ℕ) → n ≤ h.n → (a b : ℕ) (o : Targets) (st : List Operand) (env : Env) (order : List ObjId) (w : World) → Fits h.this h.width env → Reaches o x
          → Has h (IsStmtCode (labels h) spare s x) a b → Meets (image h) n w → Sim (image h) n (at h a st env order w) (exec (ctx h) h.result s env w) (lands b o st)
      exec_sim (Stmt.Do e) plain x n le a b o st env order w fits far has ok =
          let p1 = see_then h _ _ a b has in
          sim_bind (eval_sim h e plain n le a p1.mid st env order w p1.front ok)
          (λ v w1 y ok1. stacked h n p1.mid b Operation.Pop (Plain v ∷ st) st env y.order w1 refl p1.back (sim_done {v = Falls env} {k = lands b o st} y ok1))
      exec_sim (Stmt.Trace es) plain x n le a b o st env order w fits far has ok =
          let p1 = see_then h _ _ a b has in
          let p2 = see_then h _ _ p1.mid b p1.back in
          let s = see_one h (Operation.FindProperty (public_name (codes "trace"))) a p1.mid p1.front in
          let s2 = see_one h (Operation.CallProperty false (public_name (codes "trace")) (count_of es)) p2.mid b p2.back in
          sim_at h n a p1.mid (Operation.FindProperty (public_name (codes "trace"))) st env order w (lands b o st) s
          (subst (λ y. Sim (image h) n (acted_at h a st env (Operation.FindProperty (public_name (codes "trace"))) (machine.bind y (λ holder h1. pushes holder (work h st env) h1)) order w) (exec (ctx h) h.result (Stmt.Trace es) env w) (lands b o st)) (sym (natives_there h.is (public_name (codes "trace")) h.is.untraced refl order w (work h st env) refl))
          (subst (λ c. Sim (image h) n (at h c (Natives ∷ st) env order w) (exec (ctx h) h.result (Stmt.Trace es) env w) (lands b o st)) s.next
          (sim_bind_with {k = λ vs w1 y. at h p2.mid (push_all vs (Natives ∷ st)) env y.order w1} (λ vs. length vs ≡ count_of es) (counted_all (ctx h) false es env w)
          (all_sim h es plain n le p1.mid p2.mid (Natives ∷ st) env order w p2.front ok)
          (λ vs w1 y count ok1. sim_at h n p2.mid b (Operation.CallProperty false (public_name (codes "trace")) (count_of es)) (push_all vs (Natives ∷ st)) env y.order w1 (lands b o st) s2
          (subst (λ z. Sim (image h) n (acted_at h p2.mid (push_all vs (Natives ∷ st)) env (Operation.CallProperty false (public_name (codes "trace")) (count_of es)) z y.order w1) (bind (source.trace vs w1) (λ _ w2. Goes (Falls env) w2)) (lands b o st))
          (sym (all_taken vs (count_of es) (Natives ∷ st) (work h (push_all vs (Natives ∷ st)) env) (heap h y.order w1) _ count))
          (sim_bind (trace_sim n p2.mid (count_of es) (push_all vs (Natives ∷ st)) st vs env y.order w1 ok1)
          (λ _ w2 z ok2. subst (λ c. Sim (image h) n (at h c st env z.order w2) (Goes (Falls env) w2) (lands b o st)) s2.next (sim_done {v = Falls env} {k = lands b o st} z ok2))))))))
      exec_sim (Stmt.Assign (Place.Local_place i t) e) plain x n le a b o st env order w fits far has ok =
          let p1 = see_then h _ _ a b has in
          sim_bind (eval_sim h e plain.1 n le a p1.mid st env order w p1.front ok)
          (λ v w1 y ok1. local_sim t n p1.mid b i st v env y.order w1 o p1.back ok1)
      exec_sim (Stmt.Assign (Place.Property_place object name) e) plain x n le a b o st env order w fits far has ok =
          let p1 = see_then h _ _ a b has in
          let p2 = see_then h _ _ p1.mid b p1.back in
          sim_bind (eval_sim h object plain.0 n le a p1.mid st env order w p1.front ok)
          (λ u w1 y ok1. sim_bind (eval_sim h e plain.1 n le p1.mid p2.mid (Plain u ∷ st) env y.order w1 p2.front ok1)
          (λ v w2 z ok2. property_sim n le p2.mid b name st u v env z.order w2 o p2.back ok2))
      exec_sim (Stmt.Assign (Place.Element_place array index) e) plain x n le a b o st env order w fits far has ok =
          let p1 = see_then h _ _ a b has in
          let p2 = see_then h _ _ p1.mid b p1.back in
          let p3 = see_then h _ _ p2.mid b p2.back in
          sim_bind (eval_sim h array plain.0.0 n le a p1.mid st env order w p1.front ok)
          (λ u w1 y ok1. sim_bind (eval_sim h index plain.0.1 n le p1.mid p2.mid (Plain u ∷ st) env y.order w1 p2.front ok1)
          (λ i w2 z ok2. sim_bind (eval_sim h e plain.1 n le p2.mid p3.mid (Plain i ∷ Plain u ∷ st) env z.order w2 p3.front ok2)
          (λ v w3 z3 ok3. element_sim n p3.mid b st u i v env z3.order w3 o p3.back ok3)))
      exec_sim (Stmt.Update (Place.Local_place i t) operator e) plain x n le a b o st env order w fits far has ok =
          let p1 = see_then h _ _ a b has in
          let p2 = see_then h _ _ p1.mid b p1.back in
          let p3 = see_then h _ _ p2.mid b p2.back in
          sim_need (slice_get env.locals i) w
          (λ old is. sim_bind {r = Goes old w} {f = λ v w1. bind (source.combined (ctx h) operator v e env w1) (source.set_local (ctx h) i t env)}
          (pushed h n a p1.mid (Operation.GetLocal (suc i)) st old env order w
          (ap (λ z. machine.need z (heap h order w) (λ z1. pushes z1 (work h st env) (heap h order w))) (there env.locals h.rest i old is)) p1.front ok)
          (λ old1 w1 y ok1. sim_bind {k = λ v w3 z. at h p3.mid (Plain v ∷ st) env z.order w3}
          (sim_bind (eval_sim h e plain.1 n le p1.mid p2.mid (Plain old1 ∷ st) env y.order w1 p2.front ok1)
          (λ v w2 z ok2. operator_sim h operator n p2.mid p3.mid st old1 v env z.order w2 p3.front ok2))
          (λ v w3 z ok3. local_sim t n p3.mid b i st v env z.order w3 o p3.back ok3)))
      exec_sim (Stmt.Update (Place.Property_place object name) operator e) plain x n le a b o st env order w fits far has ok = update_property object name operator e plain.0 plain.1 n le a b o st env order w has ok
      exec_sim (Stmt.Update (Place.Element_place array index) operator e) plain x n le a b o st env order w fits far has ok =
          update_element array index operator e plain.0.0 plain.0.1 plain.1 n le a b o st env order w fits has ok
      exec_sim (Stmt.If z y1 y2) plain x n le a b o st env order w fits far has ok =
          let p1 = see_then h _ _ a b has in
          let s = lies_either h.naming h.code h.parts h.marks h.by (IsBlockCode (labels h) spare y1 x) (IsBlockCode (labels h) spare y2 x) p1.mid b p1.back in
          sim_bind (eval_sim h z plain.0 n le a p1.mid st env order w p1.front ok)
          (λ v w1 u ok1. branches_false h n p1.mid s.first s.second st v env u.order w1 _ _ s.jump
          (sim_extend (block_sim y1 plain.1 x n le s.first s.mid o st env u.order w1 fits far s.one ok1) (lands_past s.mid s.second b o st s.over))
          (block_sim y2 plain.2 x n le s.second b o st env u.order w1 fits far s.two ok1))
      exec_sim (Stmt.Loop None step body) plain x n le a b o st env order w fits far has ok =
          let c = lies_endless h.naming h.code h.parts h.marks h.by (IsBlockCode (labels h) spare step x) (λ out again. IsBlockCode (labels h) spare body (in_loop x out again)) a b has in
          loop_sim a c.first c.first c.mid c.last b st o _ _ _ c.label c.back
          (λ n1 le1 env1 order1 w1 ok1 g t. t w1 (unseen_of h order1) ok1)
          (λ n1 le1 env1 order1 w1 fits1 ok1. block_sim body plain.1 (in_loop x c.out c.again) n1 le1 c.first c.mid (in_rounds o b c.mid) st env1 order1 w1 fits1 (record { out = c.out_is; again = c.again_is; over = far.over; no_result = far.no_result }) c.two ok1)
          (λ env1 w1 fits1. block_fits h.this h.width (ctx h) h.result body env1 w1 fits1)
          (λ n1 le1 env1 order1 w1 fits1 ok1. block_sim step plain.0 x n1 le1 c.mid c.last o st env1 order1 w1 fits1 far c.three ok1)
          (λ env1 w1 fits1. block_fits h.this h.width (ctx h) h.result step env1 w1 fits1)
          h.n n le env order w fits (let l = ok.turns in omega (arith, l, le)) ok
      exec_sim (Stmt.Loop (Some z) step body) plain x n le a b o st env order w fits far has ok =
          let c = lies_rounds h.naming h.code h.parts h.marks h.by (IsExprCode (labels h) false z) (IsBlockCode (labels h) spare step x) (λ out again. IsBlockCode (labels h) spare body (in_loop x out again)) a b has in
          loop_sim a c.start c.first c.mid c.last b st o _ _ _ c.label c.back
          (head_sim c.start c.at_test c.first b o st z plain.0 c.one c.jump)
          (λ n1 le1 env1 order1 w1 fits1 ok1. block_sim body plain.2 (in_loop x c.out c.again) n1 le1 c.first c.mid (in_rounds o b c.mid) st env1 order1 w1 fits1 (record { out = c.out_is; again = c.again_is; over = far.over; no_result = far.no_result }) c.two ok1)
          (λ env1 w1 fits1. block_fits h.this h.width (ctx h) h.result body env1 w1 fits1)
          (λ n1 le1 env1 order1 w1 fits1 ok1. block_sim step plain.1 x n1 le1 c.mid c.last o st env1 order1 w1 fits1 far c.three ok1)
          (λ env1 w1 fits1. block_fits h.this h.width (ctx h) h.result step env1 w1 fits1)
          h.n n le env order w fits (let l = ok.turns in omega (arith, l, le)) ok
      exec_sim (Stmt.Do_while body z) plain x n le a b o st env order w fits far has ok =
          let c = lies_after h.naming h.code h.parts h.marks h.by (IsExprCode (labels h) false z) (λ out again. IsBlockCode (labels h) spare body (in_loop x out again)) a b has in
          let reach : Reaches (in_rounds o b c.last) (in_loop x c.out c.again) = record { out = c.out_is; again = c.again_is; over = far.over; no_result = far.no_result } in
          sim_from (jumps h a c.first c.top st env order w c.enter)
          (sim_bind_with (FlowFits h.this h.width) (block_fits h.this h.width (ctx h) h.result body env w fits) (block_sim body plain.0 (in_loop x c.out c.again) n le c.first c.last (in_rounds o b c.last) st env order w fits reach c.two ok)
          (λ fl w1 y fits1 ok1. once n b c.last c.top o st _ fl w1 y fits1 ok1 c.back
          (λ env2 fits2. loop_sim c.top c.start c.first c.last c.last b st o _ _ _ c.label c.back
          (head_sim c.start c.at_test c.first b o st z plain.1 c.one c.jump)
          (λ n1 le1 env1 order1 w2 fits3 ok2. block_sim body plain.0 (in_loop x c.out c.again) n1 le1 c.first c.last (in_rounds o b c.last) st env1 order1 w2 fits3 reach c.two ok2)
          (λ env1 w2 fits3. block_fits h.this h.width (ctx h) h.result body env1 w2 fits3)
          (λ n1 le1 env1 order1 w2 fits3 ok2. sim_done {v = Falls env1} {k = lands c.last o st} (unseen_of h order1) ok2)
          (λ env1 w2 fits3. fits3)
          h.n n le env2 y.order w1 fits2 (let l = ok1.turns in omega (arith, l, le)) ok1)))
      exec_sim Stmt.Break plain x n le a b o st env order w fits far has ok = goes_out n a b x.out o.out st env order w (Breaks env) o (unseen_of h order) has far.out refl ok
      exec_sim Stmt.Continue plain x n le a b o st env order w fits far has ok = goes_out n a b x.again o.again st env order w (Continues env) o (unseen_of h order) has far.again refl ok
      exec_sim (Stmt.Return e) plain x n le a b o st env order w fits far has ok = return_sim e plain x.over n le a b o st env order w fits far.over far.no_result has ok
      exec_sim (Stmt.Super base es) plain x n le a b o st env order w fits far has ok = super_sim base es plain n le a b o st env order w has ok

      pub block_sim : (y : Block) → IsPlainBlock (image h).source h.supers y → (x : Exits) (n : ℕ) → n ≤ h.n → (a b : ℕ) (o : Targets) (st : List Operand) (env : Env) (order : List ObjId) (w : World) → Fits h.this h.width env → Reaches o x
          → Has h (IsBlockCode (labels h) spare y x) a b → Meets (image h) n w → Sim (image h) n (at h a st env order w) (exec_all (ctx h) h.result y env w) (lands b o st)
      block_sim NoStmt plain x n le a b o st env order w fits far has ok =
          subst (λ c. Sim (image h) n (at h a st env order w) (Goes (Falls env) w) (lands c o st)) (lies_nothing h.naming h.code h.parts h.marks h.by a b has) (sim_done {v = Falls env} {k = lands a o st} (unseen_of h order) ok)
      block_sim (MoreStmt s y) plain x n le a b o st env order w fits far has ok =
          let p1 = see_then h _ _ a b has in
          sim_bind_with (FlowFits h.this h.width) (exec_fits h.this h.width (ctx h) h.result s env w fits) (exec_sim s plain.0 x n le a p1.mid o st env order w fits far p1.front ok)
          (λ fl w1 z fits1 ok1. flow_sim n p1.mid b o st _ fl w1 z ok1 fits1 (λ env1 fits2. block_sim y plain.1 x n le p1.mid b o st env1 z.order w1 fits2 far p1.back ok1))

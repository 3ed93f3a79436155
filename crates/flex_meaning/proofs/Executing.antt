-- Statements and bodies keep what holds.
use Rattle.std.proofs.Common.{List, [], ap, arith, refl, subst, suc, sym, true≢false, zero, ℕ, ◌&&◌, ◌++◌, ◌∙◌, ◌∷◌, ◌≡◌}
use Rattle.std.specs.List.{list_all}
use Rattle.std.specs.Prelude.{Bool, Err, None, Ok, Option, Some, false, if◌then◌else◌, is_some, length, map, option_map, slice_get, true, ◌==◌}
use Rattle.std.specs.Prelude.{Result as Computed}
use Rattle.flex_base.specs.Lists.{changed_at}
use Rattle.flex_base.specs.Value.{to_bool}
use Rattle.flex_base.specs.declared.outcome.Stop.{Stop}
use Rattle.flex_base.specs.declared.record.TraceItem.TheVariants.{Traced}
use Rattle.flex_base.specs.declared.value.ObjId.{ObjId}
use Rattle.flex_base.specs.declared.value.Value.{Value}
use Rattle.flex_base.specs.declared.value.Value.TheVariants as value
use Rattle.component_catalog.specs.Classes.{base_of}
use Rattle.component_catalog.specs.declared.class.NativeClass.{NativeClass}
use Rattle.flex_world.specs.Classes.{base_in, same_class}
use Rattle.flex_world.specs.declared.kind.Class.{Class}
use Rattle.flex_world.specs.declared.kind.StaticType.{StaticType}
use Rattle.flex_world.specs.Conversions.{start_of_result}
use Rattle.flex_world.specs.Making.{start_of_type}
use Rattle.flex_world.specs.Objects.{An_array, Object, can_be_written, field_named}
use Rattle.flex_world.specs.Operators.{made_text, operate, spaced_text, texts_of}
use Rattle.flex_world.specs.declared.operator.Operator.{Operator}
use Rattle.flex_program.proofs.ClassLaws.{both_true, fine_class, held, same_class_is, same_type_is}
use Rattle.flex_program.proofs.Facts.{above, base_above, mapped_get, property_of_kept}
use Rattle.flex_program.proofs.Inverted.{All, for_class_is, if_is, map_is, not_is, same_some, some_is, then_is}
use Rattle.flex_program.specs.Classes.{bases, class_name, document_of, fields_of}
use Rattle.flex_program.specs.Fine.{Scope, base_takes, can_make, constructor_accepts, count_of, holds, is_array_type, is_base, is_fine, is_fine_block, is_fine_method, is_fine_place, is_fine_stmt, is_named, is_named_result, is_plain_base, is_whole, kept_type, optional_fine, result_type, same_type, type_of, value_type, written_type}
use Rattle.flex_program.specs.Program.{Block, Document, Expr, Method, MoreStmt, NoStmt, Place, Program, SourceClass, Stmt}
use Rattle.flex_meaning.proofs.Calling.{construct_safe, prepare_safe}
use Rattle.flex_meaning.proofs.Changing.{array_receiver, convert_result_safe, convert_safe, object_receiver, read_element_safe, read_safe, safe_guarded, tick_safe, write_element_safe}
use Rattle.flex_meaning.proofs.Evaluating.{EnvOk, env_later, eval_all_safe, eval_safe, is_array_is, is_whole_is}
use Rattle.flex_meaning.proofs.Holding.{A_bool, An_undefined, AreOf, IsA, Later, OfType, Typed, Valid, kind_at}
use Rattle.flex_meaning.proofs.Keeping.{Good, Safe, isa_later, later_then, safe_bind, safe_choose, safe_done, safe_found, safe_given, safe_map, safe_spent, type_later, valid_later, valid_of}
use Rattle.flex_meaning.proofs.Kept.{Kept}
use Rattle.flex_meaning.proofs.Operations.{all_start, are_append, are_get, are_length, operate_good, start_typed}
use Rattle.flex_meaning.proofs.Writing.{assign_safe}
use Rattle.flex_meaning.specs.Activities.{Context, Does}
use Rattle.flex_meaning.specs.Expressions.{Env, eval}
use Rattle.flex_meaning.specs.Results.{Goes, Result, bind}
use Rattle.flex_meaning.specs.Statements.{Breaks, Continues, Falls, Flow, Returns, again, combined, construct_base, exec, exec_all, falls, first_env, flow_on, give_back, loop, put, returned, run, set_element, set_local, set_property, test_of, trace, update}
use Rattle.flex_meaning.specs.Tasks.{context, register_document}
use Rattle.flex_meaning.specs.World.{World, note}

module _ (p : Program) where
  are_set : (os : List Object) (vs : List Value) (ts : List StaticType) (i : ℕ) (t : StaticType) (u : Value) → AreOf p os vs ts → slice_get ts i ≡ Some t → OfType p os u t → AreOf p os (changed_at (λ _. u) vs i) ts
  are_set os [] [] i t u h e k = absurd (cc)
  are_set os (v ∷ vs) (x ∷ ts) zero t u h e k = (subst (λ y. OfType p os u y) (sym (same_some x t e)) k, h.1)
  are_set os (v ∷ vs) (x ∷ ts) (suc i) t u h e k = (h.0, are_set os vs ts i t u h.1 e k)
  are_set os [] (x ∷ ts) i t u h e k = absurd h
  are_set os (v ∷ vs) [] i t u h e k = absurd h

  named_get : (ts : List StaticType) (i : ℕ) (t : StaticType) → list_all is_named ts ≡ true → slice_get ts i ≡ Some t → is_named t ≡ true
  named_get [] i t e h = absurd (cc)
  named_get (x ∷ ts) zero t e h = subst (λ y. is_named y ≡ true) (same_some x t h) (both_true p (is_named x) (list_all is_named ts) e).0
  named_get (x ∷ ts) (suc i) t e h = named_get ts i t (both_true p (is_named x) (list_all is_named ts) e).1 h

  named_append : (xs ys : List StaticType) → list_all is_named xs ≡ true → list_all is_named ys ≡ true → list_all is_named (xs ++ ys) ≡ true
  named_append [] ys e h = h
  named_append (x ∷ xs) ys e h = let b = both_true p (is_named x) (list_all is_named xs) e in ap (λ y. y && list_all is_named (xs ++ ys)) b.0 ∙ named_append xs ys b.1 h

  -- what may be written is kept
  pub kept_of_written : (a : Class) (name : List ℕ) (t : StaticType) → written_type p a name ≡ Some t → kept_type p a name ≡ Some t
  kept_of_written a name t e =
      let f = then_is (λ f. if can_be_written f then Some f.type else None) (field_named name (fields_of p a)) t e in
      ap (option_map (λ g. g.type)) f.1 ∙ (if_is (can_be_written f.0) (Some f.0.type) t f.2).1

  start_valid : (os : List Object) (t : Option StaticType) → is_named_result t ≡ true → Valid p os (start_of_result t)
  start_valid os None e = An_undefined
  start_valid os (Some t) e = valid_of p (start_typed p os t e)

  -- no class of the sources has a document as its base
  pub base_plain : is_fine p ≡ true → (this base : Class) → base_in (bases p) this ≡ Some base → document_of p base ≡ None
  base_plain fine (Class.Native c) base e = by (base_of c) e
    where
      by : (x : Option NativeClass) → option_map Class.Native x ≡ Some base → document_of p base ≡ None
      by None g = absurd (cc)
      by (Some d) g = subst (λ y. document_of p y ≡ None) (same_some _ _ g) refl
  base_plain fine (Class.File k) base e =
      let b = then_is (λ (y : Option Class). y) (slice_get (bases p) k) base e in
      let class = map_is (λ (y : SourceClass). y.base) (slice_get p.classes k) b.0 (sym (mapped_get p (λ (y : SourceClass). y.base) p.classes k) ∙ b.1) in
      let plain : is_plain_base p class.0.base ≡ true = (both_true p _ _ (both_true p _ _ (both_true p _ _ (fine_class p fine k class.0 class.1)).0).1).0 in
      none_of (document_of p base) (not_is (is_some (document_of p base)) (subst (λ y. is_plain_base p y ≡ true) (class.2 ∙ b.2) plain))
    where
      none_of : (x : Option Document) → is_some x ≡ false → x ≡ None
      none_of None g = refl
      none_of (Some d) g = absurd (true≢false g)

  module _ (fine : is_fine p ≡ true) (n : ℕ) (does : Does) (law : Kept p does) where
    abbrev c : Context
    c = context p n does

    any_good : {A : Type 0} (x : Computed A Stop) → Good p x (λ _. Unit {0})
    any_good (Ok v) = record { holds = tt }
    any_good (Err cause) = record { holds = tt }

    trace_safe : (vs : List Value) (w : World) → Typed p w → Safe p false w.objects (trace vs w) (λ _ _. Unit {0})
    trace_safe vs w ty =
        safe_bind p (safe_given p {P = λ _ _. Unit {0}} (texts_of vs) w (any_good (texts_of vs)) ty)
        (λ texts w1 l _. safe_bind p (safe_given p {P = λ _ _. Unit {0}} (made_text (spaced_text texts)) w1 (any_good (made_text (spaced_text texts))) l.typed)
        (λ text w2 l2 _. safe_done p {w = note (Traced text) w2} l2.typed tt))

    module _ (s : Scope) (result : Option StaticType) (named : is_named_result result ≡ true) (locals : list_all is_named s.locals ≡ true) where
      abbrev EnvFine : List Object → Env → Type 0
      EnvFine os env = EnvOk p fine n does law false s os env

      ok_later : {os os1 : List Object} → Later p os os1 → (env : Env) → EnvFine os env → EnvFine os1 env
      ok_later l env h = env_later p fine n does law false s l env h

      -- how a statement may end, in a loop or not
      abbrev pub FlowOk : Bool → Flow → List Object → Type 0
      FlowOk in_loop (Falls env) os = EnvFine os env
      FlowOk in_loop (Breaks env) os = (in_loop ≡ true) × EnvFine os env
      FlowOk in_loop (Continues env) os = (in_loop ≡ true) × EnvFine os env
      FlowOk in_loop (Returns v) os = OfType p os v (value_type result)

      abbrev pub Runs : Bool → (Env → World → Result Flow) → Type 0
      Runs in_loop f = (env : Env) (w : World) → EnvFine w.objects env → Typed p w → Safe p false w.objects (f env w) (FlowOk in_loop)

      evals : (e : Expr) (t : StaticType) → type_of p s e ≡ Some t → (env : Env) (w : World) → EnvFine w.objects env → Typed p w → Safe p false w.objects (eval c false e env w) (λ v os. OfType p os v t)
      evals e t k env w h ty = eval_safe p fine n does law false s e t k env w h ty

      on_safe : (b : Bool) (next : Env → World → Result Flow) → Runs b next → (f : Flow) (w : World) → FlowOk b f w.objects → Typed p w → Safe p false w.objects (flow_on next f w) (FlowOk b)
      on_safe b next r (Falls env) w h ty = r env w h ty
      on_safe b next r (Breaks env) w h ty = safe_done p {w = w} ty h
      on_safe b next r (Continues env) w h ty = safe_done p {w = w} ty h
      on_safe b next r (Returns v) w h ty = safe_done p {w = w} ty h

      -- a step never leaves the loop
      step_safe : (b : Bool) (next : Env → World → Result Flow) → Runs b next → (f : Flow) (w : World) → FlowOk false f w.objects → Typed p w → Safe p false w.objects (flow_on next f w) (FlowOk b)
      step_safe b next r (Falls env) w h ty = r env w h ty
      step_safe b next r (Breaks env) w h ty = absurd (true≢false (sym h.0))
      step_safe b next r (Continues env) w h ty = absurd (true≢false (sym h.0))
      step_safe b next r (Returns v) w h ty = safe_done p {w = w} ty h

      again_safe : (b : Bool) (next : Env → World → Result Flow) → Runs b next → (f : Flow) (w : World) → FlowOk true f w.objects → Typed p w → Safe p false w.objects (again next f w) (FlowOk b)
      again_safe b next r (Falls env) w h ty = r env w h ty
      again_safe b next r (Breaks env) w h ty = safe_done p {w = w} ty h.1
      again_safe b next r (Continues env) w h ty = r env w h.1 ty
      again_safe b next r (Returns v) w h ty = safe_done p {w = w} ty h

      abbrev Tests : (Env → World → Result Value) → Type 0
      Tests f = (env : Env) (w : World) → EnvFine w.objects env → Typed p w → Safe p false w.objects (f env w) (λ v os. Valid p os v)

      loop_safe : (b : Bool) (m : ℕ) (test : Env → World → Result Value) (step body : Env → World → Result Flow) → Tests test → Runs false step → Runs true body → Runs b (loop m test step body)
      loop_safe b zero test step body t r q env w h ty = safe_spent p
      loop_safe b (suc m) test step body t r q env w h ty =
          safe_bind p (tick_safe p w ty)
          (λ _ w1 l1 _. safe_bind p (t env w1 (ok_later l1.later env h) l1.typed)
          (λ v w2 l2 _. safe_choose p (to_bool v) _ (Goes (Falls env)) w2
          (λ _. safe_bind p (q env w2 (ok_later (later_then p l1.later l2.later) env h) l2.typed)
          (λ f w3 l3 k. again_safe b (λ env1 w4. bind (step env1 w4) (flow_on (λ env2 w5. loop m test step body env2 w5)))
          (λ env1 w4 h1 ty1. safe_bind p (r env1 w4 h1 ty1) (λ g w5 l5 k5. step_safe b (λ env2 w5. loop m test step body env2 w5) (loop_safe b m test step body t r q) g w5 k5 l5.typed)) f w3 k l3.typed))
          (λ _. safe_done p {w = w2} l2.typed (ok_later (later_then p l1.later l2.later) env h))))

      local_safe : (b : Bool) (i : ℕ) (type : StaticType) (env : Env) (v : Value) (w : World) → slice_get s.locals i ≡ Some type → EnvFine w.objects env → Valid p w.objects v → Typed p w → Safe p false w.objects (set_local c i type env v w) (FlowOk b)
      local_safe b i type env v w e h k ty =
          safe_bind p (convert_safe p type v w (named_get s.locals i type locals e) k ty)
          (λ v1 w1 l k1. let h1 = ok_later l.later env h in
          let there = are_get p w1.objects env.locals s.locals i type h1.1 e in
          safe_found p (slice_get env.locals i) w1 _ there.0 there.1 (safe_done p l.typed (h1.0, are_set w1.objects env.locals s.locals i type v1 h1.1 e k1)))

      property_safe : (b : Bool) (env : Env) (o : ObjId) (a : Class) (name : List ℕ) (t : StaticType) (v : Value) (w : World) → IsA p w.objects o a → written_type p a name ≡ Some t → EnvFine w.objects env → Valid p w.objects v → Typed p w → Safe p false w.objects (set_property c env o name v w) (FlowOk b)
      property_safe b env o a name t v w i e h k ty = safe_bind p (assign_safe p fine n does law o a name t v w i e k ty) (λ _ w1 l _. safe_done p l.typed (ok_later l.later env h))

      element_safe : (b : Bool) (env : Env) (o : ObjId) (i v : Value) (w : World) → kind_at w.objects o ≡ Some An_array → OfType p w.objects i StaticType.Int → EnvFine w.objects env → Valid p w.objects v → Typed p w → Safe p false w.objects (set_element c env o i v w) (FlowOk b)
      element_safe b env o i v w at k h u ty = safe_bind p (write_element_safe p o i v w at k u ty) (λ _ w1 l _. safe_done p l.typed (ok_later l.later env h))

      combined_safe : (operator : Operator) (old : Value) (t : StaticType) (e : Expr) (env : Env) (w : World) → OfType p w.objects old t → is_some (type_of p s e) ≡ true → EnvFine w.objects env → Typed p w → Safe p false w.objects (combined c operator old e env w) (λ v os. Valid p os v)
      combined_safe operator old t e env w k g h ty =
          let a = some_is (type_of p s e) g in
          safe_bind p (evals e a.0 a.1 env w h ty)
          (λ v w1 l k1. safe_map p (safe_given p {P = λ u os. OfType p os u (result_type operator t a.0)} (operate operator old v) w1 (operate_good p w1.objects operator (type_later p l.later k) k1) l.typed) (λ u w2 l2 k2. valid_of p k2))

      -- an array and an index
      array_index : (x i : Expr) → (holds is_array_type (type_of p s x) && holds is_whole (type_of p s i)) ≡ true → (type_of p s x ≡ Some StaticType.Array) × (type_of p s i ≡ Some StaticType.Int)
      array_index x i e =
          let b = both_true p (holds is_array_type (type_of p s x)) (holds is_whole (type_of p s i)) e in
          let a = held p is_array_type (type_of p s x) b.0 in
          let d = held p is_whole (type_of p s i) b.1 in
          (a.1 ∙ ap Some (is_array_is a.0 a.2), d.1 ∙ ap Some (is_whole_is d.0 d.2))

      local_of : (i : ℕ) (type : StaticType) → holds (same_type type) (slice_get s.locals i) ≡ true → slice_get s.locals i ≡ Some type
      local_of i type e = let a = held p (same_type type) (slice_get s.locals i) e in a.1 ∙ ap Some (sym (same_type_is p type a.0 a.2))

      put_safe : (b : Bool) (place : Place) (e : Expr) → is_fine_place p s place ≡ true → is_some (type_of p s e) ≡ true → Runs b (put c place e)
      put_safe b (Place.Local_place i type) e f g env w h ty =
          let a = some_is (type_of p s e) g in
          safe_bind p (evals e a.0 a.1 env w h ty) (λ v w1 l k. local_safe b i type env v w1 (local_of i type f) (ok_later l.later env h) (valid_of p k) l.typed)
      put_safe b (Place.Property_place object name) e f g env w h ty =
          let a = some_is (type_of p s e) g in
          let t = some_is _ f in
          let d = for_class_is (type_of p s object) (λ class. written_type p class name) t.0 t.1 in
          safe_bind p (evals object _ d.1 env w h ty)
          (λ base w1 l1 k1. safe_bind p (evals e a.0 a.1 env w1 (ok_later l1.later env h) l1.typed)
          (λ v w2 l2 k2. safe_bind p (object_receiver p false base d.0 w2 (type_later p l2.later k1) l2.typed)
          (λ o w3 l3 i. property_safe b env o d.0 name t.0 v w3 i d.2 (ok_later (later_then p (later_then p l1.later l2.later) l3.later) env h) (valid_later p l3.later (valid_of p k2)) l3.typed)))
      put_safe b (Place.Element_place array index) e f g env w h ty =
          let a = some_is (type_of p s e) g in
          let d = array_index array index f in
          safe_bind p (evals array _ d.0 env w h ty)
          (λ base w1 l1 k1. safe_bind p (evals index _ d.1 env w1 (ok_later l1.later env h) l1.typed)
          (λ i w2 l2 k2. safe_bind p (evals e a.0 a.1 env w2 (ok_later (later_then p l1.later l2.later) env h) l2.typed)
          (λ v w3 l3 k3. safe_bind p (array_receiver p false base w3 (type_later p (later_then p l2.later l3.later) k1) l3.typed)
          (λ o w4 l4 at. element_safe b env o i v w4 at (type_later p (later_then p l3.later l4.later) k2) (ok_later (later_then p (later_then p (later_then p l1.later l2.later) l3.later) l4.later) env h) (valid_later p l4.later (valid_of p k3)) l4.typed))))

      update_safe : (b : Bool) (place : Place) (operator : Operator) (e : Expr) → is_fine_place p s place ≡ true → is_some (type_of p s e) ≡ true → Runs b (update c place operator e)
      update_safe b (Place.Local_place i type) operator e f g env w h ty =
          let old = are_get p w.objects env.locals s.locals i type h.1 (local_of i type f) in
          safe_found p (slice_get env.locals i) w _ old.0 old.1
          (safe_bind p (combined_safe operator old.0 type e env w old.2 g h ty) (λ v w1 l k. local_safe b i type env v w1 (local_of i type f) (ok_later l.later env h) k l.typed))
      update_safe b (Place.Property_place object name) operator e f g env w h ty =
          let t = some_is _ f in
          let d = for_class_is (type_of p s object) (λ class. written_type p class name) t.0 t.1 in
          safe_bind p (evals object _ d.1 env w h ty)
          (λ base w1 l1 k1. safe_bind p (object_receiver p false base d.0 w1 k1 l1.typed)
          (λ o w2 l2 i. safe_bind p (read_safe p fine o d.0 name t.0 w2 i (property_of_kept p name d.0 t.0 (kept_of_written d.0 name t.0 d.2)) l2.typed)
          (λ old w3 l3 k3. safe_bind p (combined_safe operator old t.0 e env w3 k3 g (ok_later (later_then p (later_then p l1.later l2.later) l3.later) env h) l3.typed)
          (λ v w4 l4 k4. property_safe b env o d.0 name t.0 v w4 (isa_later p (later_then p l3.later l4.later) i) d.2 (ok_later (later_then p (later_then p (later_then p l1.later l2.later) l3.later) l4.later) env h) k4 l4.typed))))
      update_safe b (Place.Element_place array index) operator e f g env w h ty =
          let d = array_index array index f in
          safe_bind p (evals array _ d.0 env w h ty)
          (λ base w1 l1 k1. safe_bind p (evals index _ d.1 env w1 (ok_later l1.later env h) l1.typed)
          (λ i w2 l2 k2. safe_bind p (array_receiver p false base w2 (type_later p l2.later k1) l2.typed)
          (λ o w3 l3 at. safe_bind p (read_element_safe p o i w3 at (type_later p l3.later k2) l3.typed)
          (λ old w4 l4 k4. safe_bind p (combined_safe operator old _ e env w4 k4 g (ok_later (later_then p (later_then p (later_then p l1.later l2.later) l3.later) l4.later) env h) l4.typed)
          (λ v w5 l5 k5. let l = later_then p l4.later l5.later in element_safe b env o i v w5 (l.kinds o An_array at) (type_later p (later_then p l3.later l) k2) (ok_later (later_then p (later_then p (later_then p l1.later l2.later) l3.later) l) env h) k5 l5.typed)))))

      test_safe : (e : Option Expr) → optional_fine p s e ≡ true → Tests (test_of c e)
      test_safe None g env w h ty = safe_done p {w = w} ty (A_bool true)
      test_safe (Some e) g env w h ty = let a = some_is (type_of p s e) g in safe_map p (evals e a.0 a.1 env w h ty) (λ v w1 l k. valid_of p k)

      back_safe : (b : Bool) (e : Option Expr) → optional_fine p s e ≡ true → Runs b (give_back c result e)
      back_safe b None g env w h ty = safe_bind p (convert_result_safe p result value.Undefined w named An_undefined ty) (λ v w1 l k. safe_done p l.typed k)
      back_safe b (Some e) g env w h ty = let a = some_is (type_of p s e) g in safe_bind p (evals e a.0 a.1 env w h ty) (λ v w1 l k. safe_bind p (convert_result_safe p result v w1 named (valid_of p k) l.typed) (λ v1 w2 l2 k2. safe_done p l2.typed k2))

      super_safe : (b : Bool) (base : Option Class) (vs : List Value) (k : ℕ) (env : Env) (w : World) → is_base p s base ≡ true → base_takes p base k ≡ true → length vs ≡ k → All (Valid p w.objects) vs → EnvFine w.objects env → Typed p w → Safe p false w.objects (construct_base c base vs env w) (FlowOk b)
      super_safe b None vs k env w f g e a h ty = safe_done p {w = w} ty h
      super_safe b (Some base) vs k env w f g e a h ty =
          let d = held p (same_class base) (base_in (bases p) s.this) f in
          let up : base_in (bases p) s.this ≡ Some base = d.1 ∙ ap Some (sym (same_class_is base d.0 d.2)) in
          let make : can_make p base (length vs) ≡ true = subst (λ j. can_make p base j ≡ true) (sym e) g in
          let isa : IsA p w.objects env.this base = record { class = h.0.class; at = h.0.at; is = above p fine h.0.class s.this base h.0.is (base_above p s.this base up) } in
          safe_bind p (prepare_safe p fine n does law base vs w make a ty)
          (λ us w1 l pre. safe_bind p (construct_safe p fine n does law base env.this us w1 (both_true p (is_some (class_name p base)) (constructor_accepts p base (length vs)) make).0 (isa_later p l.later isa) pre (subst (λ d1. Typed p (register_document d1 env.this w1)) (sym (base_plain fine s.this base up)) l.typed))
          (λ _ w2 l2 _. safe_done p {w = w2} l2.typed (ok_later (later_then p l.later l2.later) env h)))

      mutual
        exec_safe : (b : Bool) (x : Stmt) → is_fine_stmt p s b x ≡ true → Runs b (exec c result x)
        exec_safe b (Stmt.Do e) f env w h ty = let a = some_is (type_of p s e) f in safe_bind p (evals e a.0 a.1 env w h ty) (λ _ w1 l _. safe_done p {w = w1} l.typed (ok_later l.later env h))
        exec_safe b (Stmt.Trace es) f env w h ty =
            let k = some_is (count_of p s es) f in
            safe_bind p (eval_all_safe p fine n does law false s es k.0 k.1 env w h ty)
            (λ vs w1 l _. safe_bind p (trace_safe vs w1 l.typed) (λ _ w2 l2 _. safe_done p {w = w2} l2.typed (ok_later (later_then p l.later l2.later) env h)))
        exec_safe b (Stmt.Assign place e) f env w h ty = let a = both_true p (is_fine_place p s place) (is_some (type_of p s e)) f in put_safe b place e a.0 a.1 env w h ty
        exec_safe b (Stmt.Update place operator e) f env w h ty = let a = both_true p (is_fine_place p s place) (is_some (type_of p s e)) f in update_safe b place operator e a.0 a.1 env w h ty
        exec_safe b (Stmt.If test x y) f env w h ty =
            let a = both_true p (is_some (type_of p s test) && is_fine_block p s b x) (is_fine_block p s b y) f in
            let d = both_true p (is_some (type_of p s test)) (is_fine_block p s b x) a.0 in
            let t = some_is (type_of p s test) d.0 in
            safe_bind p (evals test t.0 t.1 env w h ty)
            (λ v w1 l _. safe_choose p (to_bool v) (exec_all c result x env) (exec_all c result y env) w1 (λ _. exec_all_safe b x d.1 env w1 (ok_later l.later env h) l.typed) (λ _. exec_all_safe b y a.1 env w1 (ok_later l.later env h) l.typed))
        exec_safe b (Stmt.Loop test step body) f env w h ty =
            let a = both_true p (optional_fine p s test && is_fine_block p s false step) (is_fine_block p s true body) f in
            let d = both_true p (optional_fine p s test) (is_fine_block p s false step) a.0 in
            loop_safe b n (test_of c test) (exec_all c result step) (exec_all c result body) (test_safe test d.0) (exec_all_safe false step d.1) (exec_all_safe true body a.1) env w h ty
        exec_safe b (Stmt.Do_while body test) f env w h ty =
            let a = both_true p (is_fine_block p s true body) (is_some (type_of p s test)) f in
            safe_bind p (exec_all_safe true body a.0 env w h ty)
            (λ g w1 l k. again_safe b (loop n (eval c false test) falls (exec_all c result body))
            (loop_safe b n (eval c false test) falls (exec_all c result body) (test_safe (Some test) a.1) (λ env1 w2 h1 ty1. safe_done p {w = w2} ty1 h1) (exec_all_safe true body a.0)) g w1 k l.typed)
        exec_safe b Stmt.Break f env w h ty = safe_done p {w = w} ty (f, h)
        exec_safe b Stmt.Continue f env w h ty = safe_done p {w = w} ty (f, h)
        exec_safe b (Stmt.Return e) f env w h ty = back_safe b e f env w h ty
        exec_safe b (Stmt.Super base es) f env w h ty =
            let a = both_true p (is_base p s base) (holds (base_takes p base) (count_of p s es)) f in
            let k = held p (base_takes p base) (count_of p s es) a.1 in
            safe_bind p (eval_all_safe p fine n does law false s es k.0 k.1 env w h ty)
            (λ vs w1 l a1. super_safe b base vs k.0 env w1 a.0 k.2 a1.1 a1.0 (ok_later l.later env h) l.typed)

        exec_all_safe : (b : Bool) (xs : Block) → is_fine_block p s b xs ≡ true → Runs b (exec_all c result xs)
        exec_all_safe b NoStmt f env w h ty = safe_done p {w = w} ty h
        exec_all_safe b (MoreStmt x xs) f env w h ty =
            let a = both_true p (is_fine_stmt p s b x) (is_fine_block p s b xs) f in
            safe_bind p (exec_safe b x a.0 env w h ty) (λ g w1 l k. on_safe b (exec_all c result xs) (exec_all_safe b xs a.1) g w1 k l.typed)

      returned_safe : (f : Flow) (w : World) → FlowOk false f w.objects → Typed p w → Safe p false w.objects (returned c result f w) (λ v os. OfType p os v (value_type result))
      returned_safe (Returns v) w h ty = safe_done p ty h
      returned_safe (Falls env) w h ty = convert_result_safe p result (start_of_result result) w named (start_valid w.objects result named) ty
      returned_safe (Breaks env) w h ty = absurd (true≢false (sym h.0))
      returned_safe (Continues env) w h ty = absurd (true≢false (sym h.0))

    -- the body of a method on an object of its class
    pub run_safe : (m : Method) (owner : Class) (o : ObjId) (vs : List Value) (w : World) → is_fine_method p owner m ≡ true → IsA p w.objects o owner → AreOf p w.objects vs m.parameters → Typed p w → Safe p false w.objects (run c m o vs w) (λ v os. OfType p os v (value_type m.result))
    run_safe m owner o vs w f i a ty =
        let d3 = both_true p (list_all is_named m.parameters && list_all is_named m.locals && is_named_result m.result) (is_fine_block p scope false m.body) f in
        let d2 = both_true p (list_all is_named m.parameters && list_all is_named m.locals) (is_named_result m.result) d3.0 in
        let d1 = both_true p (list_all is_named m.parameters) (list_all is_named m.locals) d2.0 in
        safe_guarded p (length vs == length m.parameters) _ w (counts (length vs) (length m.parameters) (are_length p w.objects vs m.parameters a))
        (safe_bind p (exec_all_safe scope m.result d2.1 (named_append m.parameters m.locals d1.0 d1.1) false m.body d3.1 (first_env m o vs) w
        (i, are_append p w.objects vs m.parameters (map start_of_type m.locals) m.locals a (all_start p w.objects m.locals d1.1)) ty)
        (λ g w1 l k. returned_safe scope m.result d2.1 (named_append m.parameters m.locals d1.0 d1.1) g w1 k l.typed))
      where
        scope : Scope
        scope = record { this = owner; locals = m.parameters ++ m.locals }

        counts : (x y : ℕ) → x ≡ y → (x == y) ≡ true
        counts x y e = grind arith

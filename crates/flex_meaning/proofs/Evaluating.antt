-- Expressions keep what holds, and give values of their types.
use Rattle.std.proofs.Common.{List, [], ap, arith, not, refl, subst, suc, sym, true≢false, ℕ, ◌&&◌, ◌||◌, ◌∙◌, ◌∷◌, ◌≡◌}
use Rattle.std.specs.Prelude.{Bool, Err, None, Ok, Option, Some, false, is_some, length, option_and_then, option_map, slice_get, true, ◌==◌}
use Rattle.std.specs.Prelude.{Result as Computed}
use Rattle.flex_base.specs.Value.{to_bool, to_text}
use Rattle.flex_base.specs.declared.outcome.Stop.{Stop}
use Rattle.flex_base.specs.declared.value.ObjId.{ObjId}
use Rattle.flex_base.specs.declared.value.Value.{Value}
use Rattle.component_catalog.specs.declared.class.NativeClass.TheVariants as native
use Rattle.component_catalog.specs.declared.method.NativeMethod.{NativeMethod}
use Rattle.flex_world.specs.Classes.{descends}
use Rattle.flex_world.specs.declared.kind.Class.{Class}
use Rattle.flex_world.specs.declared.kind.StaticType.{StaticType}
use Rattle.flex_world.specs.Objects.{Instance_of, Object}
use Rattle.flex_world.specs.Operators.{negated, operate}
use Rattle.flex_program.proofs.ClassLaws.{both_true, held}
use Rattle.flex_program.proofs.Facts.{above, adds, can_run, descends_itself, written_down}
use Rattle.flex_program.proofs.Inverted.{All, for_class_is, if_is, map_is, same_some, some_is, then_is, when_is}
use Rattle.flex_program.specs.Classes.{Callee, bases, callee}
use Rattle.flex_program.specs.Fine.{Scope, call_type, callee_accepts, callee_result, can_listen, can_make, count_of, holds, is_array_type, is_fine, is_named, is_string, is_whole, method_numbered, needs_listener, property_type, result_type, type_of, value_type, when, listens}
use Rattle.flex_program.specs.Laws.{TakesAlike}
use Rattle.flex_program.specs.Program.{Expr, Exprs, Method, MoreExpr, NoExpr, Program}
use Rattle.flex_meaning.proofs.Calling.{Callable, Finds, call_safe, find_safe, first_then, is_first, is_listener, is_listening, make_safe, needs_alike}
use Rattle.flex_meaning.proofs.Changing.{array_length_safe, array_receiver, array_tested, convert_safe, new_array_safe, object_receiver, object_tested, pop_safe, push_safe, read_element_safe, read_safe}
use Rattle.flex_meaning.proofs.Holding.{A_listener, AreOf, IsA, Later, OfType, T_any, T_array, T_bool, T_int, T_no_array, T_no_text, T_object, T_text, Typed, Valid}
use Rattle.flex_meaning.proofs.Keeping.{Good, Safe, all_valid_later, are_later, isa_later, later_then, safe_bind, safe_choose, safe_done, safe_ends, safe_found, safe_given, safe_map, safe_own, safe_stop, type_later, valid_later, valid_of}
use Rattle.flex_meaning.proofs.Kept.{Kept}
use Rattle.flex_meaning.proofs.Operations.{are_get, literal_typed, negated_good, operate_good}
use Rattle.flex_meaning.specs.Activities.{Context, Does}
use Rattle.flex_meaning.specs.Expressions.{Env, eval, eval_all, length_value, method_value}
use Rattle.flex_meaning.specs.Results.{Goes, Result}
use Rattle.flex_meaning.specs.Tasks.{context}
use Rattle.flex_meaning.specs.World.{World}

pub is_array_is : (t : StaticType) → is_array_type t ≡ true → t ≡ StaticType.Array
is_array_is StaticType.Array e = refl
is_array_is _ e = absurd (true≢false (sym e))

pub is_whole_is : (t : StaticType) → is_whole t ≡ true → t ≡ StaticType.Int
is_whole_is StaticType.Int e = refl
is_whole_is _ e = absurd (true≢false (sym e))

-- the first of the arguments is a method taken from an object
abbrev pub starts : Exprs → Bool
starts (MoreExpr (Expr.Method_of object name) es) = true
starts _ = false

listens_is : (e : Expr) (es : Exprs) → listens (MoreExpr e es) ≡ true → starts es ≡ true
listens_is e (MoreExpr (Expr.Method_of object name) es) h = refl
listens_is e _ h = absurd (true≢false (sym h))

pub single : {A : Type 0} (xs : List A) → (length xs == 1) ≡ true → (x : A) × (xs ≡ x ∷ [])
single [] e = absurd (grind arith)
single (x ∷ []) e = (x, refl)
single (x ∷ y ∷ xs) e = absurd (grind arith)

module _ (p : Program) where
  -- what is called: it takes so many arguments, and gives values of the type
  record Called (y : Option Callee) (listening : Bool) (k : ℕ) (t : StaticType) : Type 0 where
    pub callee : Callee
    pub is : y ≡ Some callee
    pub listens : needs_listener p callee ≡ true → listening ≡ true
    pub counts : callee_accepts p callee k ≡ true
    pub result : callee_result p callee ≡ Some t

  called : (y : Option Callee) (listening : Bool) (k : ℕ) (t : StaticType) → call_type p listening y k ≡ Some t → Called y listening k t
  called None listening k t e = absurd (cc)
  called (Some y) listening k t e =
      let h = if_is _ _ t e in
      let b = both_true p (listening || not (needs_listener p y)) (callee_accepts p y k) h.0 in
      record { callee = y; is = refl; listens = either listening (needs_listener p y) b.0; counts = b.1; result = h.1 }
    where
      either : (a b : Bool) → (a || not b) ≡ true → b ≡ true → a ≡ true
      either true b g i = refl
      either false true g i = absurd (true≢false (sym g))
      either false false g i = absurd (true≢false (sym i))

  module _ (fine : is_fine p ≡ true) (n : ℕ) (does : Does) (law : Kept p does) where
    abbrev c : Context
    c = context p n does

    module _ (own : Bool) (s : Scope) where
      -- where an expression is evaluated: this and the locals are of their types
      abbrev pub EnvOk : List Object → Env → Type 0
      EnvOk os env = IsA p os env.this s.this × AreOf p os env.locals s.locals

      pub env_later : {os os1 : List Object} → Later p os os1 → (env : Env) → EnvOk os env → EnvOk os1 env
      env_later l env h = (isa_later p l h.0, are_later p l env.locals s.locals h.1)

      abbrev pub Evals : Expr → StaticType → Type 0
      Evals e t = (env : Env) (w : World) → EnvOk w.objects env → Typed p w → Safe p own w.objects (eval c own e env w) (λ v os. OfType p os v t)

      -- the values of arguments
      abbrev pub Arguments : Exprs → ℕ → List Value → List Object → Type 0
      Arguments es k vs os = All (Valid p os) vs × (length vs ≡ k) × (listens es ≡ true → is_listening vs ≡ true) × (starts es ≡ true → is_first vs ≡ true)

      abbrev pub EvalsAll : Exprs → ℕ → Type 0
      EvalsAll es k = (env : Env) (w : World) → EnvOk w.objects env → Typed p w → Safe p own w.objects (eval_all c own es env w) (Arguments es k)

      as_typed : {os : List Object} {r : Result Value} (t u : StaticType) → t ≡ u → Safe p own os r (λ v os1. OfType p os1 v t) → Safe p own os r (λ v os1. OfType p os1 v u)
      as_typed {os} {r} t u e h = subst (λ x. Safe p own os r (λ v os1. OfType p os1 v x)) e h

      length_safe : (o : Bool) {v : Value} {t : StaticType} (w : World) → OfType p w.objects v t → (is_string t || is_array_type t) ≡ true → Typed p w → Safe p o w.objects (length_value o v w) (λ u os. OfType p os u StaticType.Int)
      length_safe o w (T_text x) e ty = safe_done p ty (T_int _)
      length_safe true w T_no_text e ty = safe_ends p ty
      length_safe false w T_no_text e ty = safe_stop p
      length_safe o w (T_array a at) e ty = array_length_safe p a w at ty
      length_safe true w T_no_array e ty = safe_ends p ty
      length_safe false w T_no_array e ty = safe_stop p
      length_safe o w _ e ty = absurd (true≢false (sym e))

      listener_safe : (o : ObjId) (a : Class) (name : List ℕ) (y x : Callee) (w : World) → Finds p fine n does law w.objects o name y x → IsA p w.objects o a → callee p a name ≡ Some y → can_listen p (Some y) ≡ true → Typed p w
          → Safe p own w.objects (method_value o x w) (λ v os. OfType p os v StaticType.Any × (is_listener v ≡ true))
      listener_safe o a name (Callee.Catalog m) x w f h e can ty = absurd (true≢false (sym can))
      listener_safe o a name (Callee.Written m) x w f h e can ty = by x f.is f.alike
        where
          z : (z : Method) × (method_numbered p m ≡ Some z) × ((length z.parameters == 1) ≡ true)
          z = held p (λ (y : Method). length y.parameters == 1) (method_numbered p m) can

          one_kind : f.class ≡ h.class
          one_kind = class_is _ _ (sym f.at ∙ h.at)
            where
              class_is : (a b : Class) → Some (Instance_of a) ≡ Some (Instance_of b) → a ≡ b
              class_is a b g = cc

          by : (x1 : Callee) → callee p f.class name ≡ Some x1 → TakesAlike p x1 (Callee.Written m) → Safe p own w.objects (method_value o x1 w) (λ v os. OfType p os v StaticType.Any × (is_listener v ≡ true))
          by (Callee.Catalog m1) is alike =
              let r = written_down p fine f.class a name m (subst (λ k. descends (bases p) k a ≡ true) (sym one_kind) h.is) e in
              absurd (differ m1 r.number (sym is ∙ r.is))
            where
              differ : (i : NativeMethod) (j : ℕ) → Some (Callee.Catalog i) ≡ Some (Callee.Written j) → ⊥
              differ i j g = cc
          by (Callee.Written m1) is alike =
              let r = can_run p fine f.class name m1 is in
              let params : r.method.parameters ≡ z.0.parameters = same_some _ _ (sym (ap (option_map (λ (y : Method). y.parameters)) r.here) ∙ alike.types ∙ ap (option_map (λ (y : Method). y.parameters)) z.1) in
              let one = single r.method.parameters (ap (λ (ts : List StaticType). length ts == 1) params ∙ z.2) in
              safe_done p ty (T_any _ (A_listener o m1 (record { class = f.class; at = f.at; run = r; type = one.0; one = one.1 })), refl)

      method_of_safe : (e : Expr) (a : Class) (name : List ℕ) → Evals e (StaticType.Object a) → can_listen p (callee p a name) ≡ true → (env : Env) (w : World) → EnvOk w.objects env → Typed p w
          → Safe p own w.objects (eval c own (Expr.Method_of e name) env w) (λ v os. OfType p os v StaticType.Any × (is_listener v ≡ true))
      method_of_safe e a name ev can env w h ty = by (callee p a name) refl can
        where
          by : (y : Option Callee) → callee p a name ≡ y → can_listen p y ≡ true → Safe p own w.objects (eval c own (Expr.Method_of e name) env w) (λ v os. OfType p os v StaticType.Any × (is_listener v ≡ true))
          by None g i = absurd (true≢false (sym i))
          by (Some y) g i =
              safe_bind p (ev env w h ty)
              (λ v w1 l k. safe_bind p (object_receiver p own v a w1 k l.typed)
              (λ o w2 l2 isa. safe_bind p (safe_own p (find_safe p fine n does law o a name y w2 isa g l2.typed))
              (λ x w3 l3 f. listener_safe o a name y x w3 f (isa_later p l3.later isa) g i l3.typed)))

      callable_found : (os : List Object) (o : ObjId) (name : List ℕ) (a : Class) (listening : Bool) (vs : List Value) (k : ℕ) (t : StaticType) (q : Called (callee p a name) listening k t) (x : Callee) → Finds p fine n does law os o name q.callee x
          → length vs ≡ k → (listening ≡ true → is_listening vs ≡ true) → Callable p fine n does law os o x vs t
      callable_found os o name a listening vs k t q x f e i = record {
        class = f.class;
        at = f.at;
        run = λ m g. can_run p fine f.class name m (f.is ∙ ap Some g);
        adding = λ g. record { class = f.class; at = f.at; is = adds p fine f.class name (f.is ∙ ap Some g) };
        counts = f.alike.counts (length vs) ∙ subst (λ j. callee_accepts p q.callee j ≡ true) (sym e) q.counts;
        result = ap (option_map value_type) f.alike.result ∙ q.result;
        listens = λ g. i (q.listens (sym (needs_alike p x q.callee k f.alike q.counts) ∙ g));
      }

      callable_super : (os : List Object) (o : ObjId) (name : List ℕ) (base : Class) (listening : Bool) (vs : List Value) (k : ℕ) (t : StaticType) (q : Called (callee p base name) listening k t) → IsA p os o base
          → length vs ≡ k → (listening ≡ true → is_listening vs ≡ true) → Callable p fine n does law os o q.callee vs t
      callable_super os o name base listening vs k t q h e i = record {
        class = h.class;
        at = h.at;
        run = λ m g. let r = can_run p fine base name m (q.is ∙ ap Some g) in record { method = r.method; here = r.here; owner = r.owner; fine = r.fine; is = above p fine h.class base r.owner h.is r.is };
        adding = λ g. record { class = h.class; at = h.at; is = above p fine h.class base (Class.Native native.UIComponent) h.is (adds p fine base name (q.is ∙ ap Some g)) };
        counts = subst (λ j. callee_accepts p q.callee j ≡ true) (sym e) q.counts;
        result = q.result;
        listens = λ g. i (q.listens g);
      }

      any_good : {A : Type 0} (x : Computed A Stop) → Good p x (λ _. Unit {0})
      any_good (Ok v) = record { holds = tt }
      any_good (Err cause) = record { holds = tt }

      more_safe : (x : Expr) (es : Exprs) (j k : ℕ) → suc j ≡ k → EvalsAll es j → (env : Env) (w : World) → EnvOk w.objects env → Safe p own w.objects (eval c own x env w) (λ v os. Valid p os v × (starts (MoreExpr x es) ≡ true → is_listener v ≡ true))
          → Safe p own w.objects (eval_all c own (MoreExpr x es) env w) (Arguments (MoreExpr x es) k)
      more_safe x es j k e rest env w h first =
          safe_bind p first
          (λ v w1 l1 k1. safe_bind p (rest env w1 (env_later l1.later env h) l1.typed)
          (λ vs w2 l2 k2. safe_done p l2.typed ((valid_later p l2.later k1.0, k2.0), ap suc k2.1 ∙ e, (λ g. first_then v vs (k2.3 (listens_is x es g))), k1.1)))

      mutual
        pub eval_safe : (e : Expr) (t : StaticType) → type_of p s e ≡ Some t → Evals e t
        eval_safe (Expr.Constant l) t e env w h ty = as_typed _ t (same_some _ _ e) (safe_done p ty (literal_typed p w.objects l))
        eval_safe Expr.This t e env w h ty = as_typed _ t (same_some _ _ e) (safe_done p ty (T_object env.this h.0.class s.this h.0.at h.0.is))
        eval_safe (Expr.Local i) t e env w h ty = let v = are_get p w.objects env.locals s.locals i t h.1 e in safe_found p (slice_get env.locals i) w _ v.0 v.1 (safe_done p ty v.2)
        eval_safe (Expr.Property x name) t e env w h ty =
            let a = for_class_is (type_of p s x) (λ class. property_type p class name) t e in
            safe_bind p (eval_safe x _ a.1 env w h ty)
            (λ v w1 l k. safe_bind p (object_receiver p own v a.0 w1 k l.typed) (λ o w2 l2 i. read_safe p fine o a.0 name t w2 i a.2 l2.typed))
        eval_safe (Expr.Length x) t e env w h ty =
            let g = when_is _ _ t e in
            let a = held p (λ t. is_string t || is_array_type t) (type_of p s x) g.0 in
            as_typed _ t g.1 (safe_bind p (eval_safe x a.0 a.1 env w h ty) (λ v w1 l k. length_safe own w1 k a.2 l.typed))
        eval_safe (Expr.Element x i) t e env w h ty =
            let g = when_is _ _ t e in
            let b = both_true p (holds is_array_type (type_of p s x)) (holds is_whole (type_of p s i)) g.0 in
            let a = held p is_array_type (type_of p s x) b.0 in
            let d = held p is_whole (type_of p s i) b.1 in
            as_typed _ t g.1
            (safe_bind p (eval_safe x StaticType.Array (a.1 ∙ ap Some (is_array_is a.0 a.2)) env w h ty)
            (λ v w1 l1 k1. safe_bind p (array_tested p own v w1 k1 l1.typed)
            (λ _ w2 l2 _. safe_bind p (eval_safe i StaticType.Int (d.1 ∙ ap Some (is_whole_is d.0 d.2)) env w2 (env_later (later_then p l1.later l2.later) env h) l2.typed)
            (λ m w3 l3 k3. safe_bind p (array_receiver p own v w3 (type_later p (later_then p l2.later l3.later) k1) l3.typed)
            (λ o w4 l4 at. read_element_safe p o m w4 at (type_later p l4.later k3) l4.typed)))))
        eval_safe (Expr.Items es) t e env w h ty =
            let g = when_is _ _ t e in
            let k = some_is (count_of p s es) g.0 in
            as_typed _ t g.1 (safe_bind p (eval_all_safe es k.0 k.1 env w h ty) (λ vs w1 l a. safe_bind p (new_array_safe p vs w1 a.0 l.typed) (λ o w2 l2 at. safe_done p l2.typed (T_array o at))))
        eval_safe (Expr.Method_of x name) t e env w h ty =
            let a = for_class_is (type_of p s x) (λ class. when (can_listen p (callee p class name)) StaticType.Any) t e in
            let g = when_is _ _ t a.2 in
            as_typed _ t g.1 (safe_map p (method_of_safe x a.0 name (eval_safe x _ a.1) g.0 env w h ty) (λ v w1 l k. k.0))
        eval_safe (Expr.Call x name es) t e env w h ty =
            let a = for_class_is (type_of p s x) (λ class. option_and_then (call_type p (listens es) (callee p class name)) (count_of p s es)) t e in
            let k = then_is (call_type p (listens es) (callee p a.0 name)) (count_of p s es) t a.2 in
            let q = called (callee p a.0 name) (listens es) k.0 t k.2 in
            safe_bind p (eval_safe x _ a.1 env w h ty)
            (λ v w1 l1 k1. safe_bind p (object_tested p own v a.0 w1 k1 l1.typed)
            (λ _ w2 l2 _. safe_bind p (eval_all_safe es k.0 k.1 env w2 (env_later (later_then p l1.later l2.later) env h) l2.typed)
            (λ vs w3 l3 k3. safe_bind p (object_receiver p own v a.0 w3 (type_later p (later_then p l2.later l3.later) k1) l3.typed)
            (λ o w4 l4 isa. safe_bind p (safe_own p (find_safe p fine n does law o a.0 name q.callee w4 isa q.is l4.typed))
            (λ m w5 l5 f. safe_own p (call_safe p fine n does law m o vs t w5 (callable_found w5.objects o name a.0 (listens es) vs k.0 t q m f k3.1 k3.2) (all_valid_later p (later_then p l4.later l5.later) vs k3.0) l5.typed))))))
        eval_safe (Expr.Call_super base name es) t e env w h ty =
            let g = if_is (descends (bases p) s.this base) _ t e in
            let k = then_is (call_type p (listens es) (callee p base name)) (count_of p s es) t g.1 in
            let q = called (callee p base name) (listens es) k.0 t k.2 in
            safe_bind p (eval_all_safe es k.0 k.1 env w h ty)
            (λ vs w1 l1 k1. safe_found p (callee p base name) w1 _ q.callee q.is
            (safe_own p (call_safe p fine n does law q.callee env.this vs t w1 (callable_super w1.objects env.this name base (listens es) vs k.0 t q (up (isa_later p l1.later h.0) g.0) k1.1 k1.2) k1.0 l1.typed)))
          where
            up : {os : List Object} {o : ObjId} → IsA p os o s.this → descends (bases p) s.this base ≡ true → IsA p os o base
            up i d = record { class = i.class; at = i.at; is = above p fine i.class s.this base i.is d }
        eval_safe (Expr.Push x y) t e env w h ty =
            let g = when_is _ _ t e in
            let b = both_true p (holds is_array_type (type_of p s x)) (is_some (type_of p s y)) g.0 in
            let a = held p is_array_type (type_of p s x) b.0 in
            let d = some_is (type_of p s y) b.1 in
            as_typed _ t g.1
            (safe_bind p (eval_safe x StaticType.Array (a.1 ∙ ap Some (is_array_is a.0 a.2)) env w h ty)
            (λ v w1 l1 k1. safe_bind p (array_tested p own v w1 k1 l1.typed)
            (λ _ w2 l2 _. safe_bind p (eval_safe y d.0 d.1 env w2 (env_later (later_then p l1.later l2.later) env h) l2.typed)
            (λ m w3 l3 k3. safe_bind p (array_receiver p own v w3 (type_later p (later_then p l2.later l3.later) k1) l3.typed)
            (λ o w4 l4 at. push_safe p o m w4 at (valid_later p l4.later (valid_of p k3)) l4.typed)))))
        eval_safe (Expr.Pop x) t e env w h ty =
            let g = when_is _ _ t e in
            let a = held p is_array_type (type_of p s x) g.0 in
            as_typed _ t g.1 (safe_bind p (eval_safe x StaticType.Array (a.1 ∙ ap Some (is_array_is a.0 a.2)) env w h ty) (λ v w1 l k. safe_bind p (array_receiver p own v w1 k l.typed) (λ o w2 l2 at. pop_safe p o w2 at l2.typed)))
        eval_safe (Expr.New class es) t e env w h ty =
            let g = when_is _ _ t e in
            let k = held p (can_make p class) (count_of p s es) g.0 in
            as_typed _ t g.1
            (safe_bind p (eval_all_safe es k.0 k.1 env w h ty)
            (λ vs w1 l a. safe_bind p (safe_own p (make_safe p fine n does law class vs w1 (subst (λ j. can_make p class j ≡ true) (sym a.1) k.2) a.0 l.typed)) (λ o w2 l2 at. safe_done p l2.typed (T_object o class class at (descends_itself p class)))))
        eval_safe (Expr.Convert type x) t e env w h ty =
            let g = when_is _ _ t e in
            let b = both_true p (is_named type) (is_some (type_of p s x)) g.0 in
            let a = some_is (type_of p s x) b.1 in
            as_typed _ t g.1 (safe_bind p (eval_safe x a.0 a.1 env w h ty) (λ v w1 l k. convert_safe p type v w1 b.0 (valid_of p k) l.typed))
        eval_safe (Expr.To_text x) t e env w h ty =
            let g = when_is _ _ t e in
            let a = some_is (type_of p s x) g.0 in
            as_typed _ t g.1 (safe_bind p (eval_safe x a.0 a.1 env w h ty) (λ v w1 l k. safe_bind p (safe_given p {P = λ _ _. Unit {0}} (to_text v) w1 (any_good (to_text v)) l.typed) (λ text w2 l2 _. safe_done p l2.typed (T_text text))))
        eval_safe (Expr.Negate x) t e env w h ty =
            let g = when_is _ _ t e in
            let a = some_is (type_of p s x) g.0 in
            as_typed _ t g.1 (safe_bind p (eval_safe x a.0 a.1 env w h ty) (λ v w1 l k. safe_given p (negated v) w1 (negated_good p w1.objects v) l.typed))
        eval_safe (Expr.Not x) t e env w h ty =
            let g = when_is _ _ t e in
            let a = some_is (type_of p s x) g.0 in
            as_typed _ t g.1 (safe_bind p (eval_safe x a.0 a.1 env w h ty) (λ v w1 l k. safe_done p l.typed (T_bool _)))
        eval_safe (Expr.Apply operator x y) t e env w h ty =
            let a = then_is (λ t. option_map (result_type operator t) (type_of p s y)) (type_of p s x) t e in
            let b = map_is (result_type operator a.0) (type_of p s y) t a.2 in
            as_typed _ t b.2
            (safe_bind p (eval_safe x a.0 a.1 env w h ty)
            (λ v w1 l1 k1. safe_bind p (eval_safe y b.0 b.1 env w1 (env_later l1.later env h) l1.typed)
            (λ u w2 l2 k2. safe_given p (operate operator v u) w2 (operate_good p w2.objects operator (type_later p l2.later k1) k2) l2.typed)))
        eval_safe (Expr.And x y) t e env w h ty =
            let g = when_is _ _ t e in
            let d = both_true p (is_some (type_of p s x)) (is_some (type_of p s y)) g.0 in
            let a = some_is (type_of p s x) d.0 in
            let b = some_is (type_of p s y) d.1 in
            as_typed _ t g.1
            (safe_bind p (eval_safe x a.0 a.1 env w h ty)
            (λ v w1 l1 k1. safe_choose p (to_bool v) (eval c own y env) (Goes v) w1 (λ _. safe_map p (eval_safe y b.0 b.1 env w1 (env_later l1.later env h) l1.typed) (λ u w2 l2 k2. T_any _ (valid_of p k2))) (λ _. safe_done p l1.typed (T_any _ (valid_of p k1)))))
        eval_safe (Expr.Or x y) t e env w h ty =
            let g = when_is _ _ t e in
            let d = both_true p (is_some (type_of p s x)) (is_some (type_of p s y)) g.0 in
            let a = some_is (type_of p s x) d.0 in
            let b = some_is (type_of p s y) d.1 in
            as_typed _ t g.1
            (safe_bind p (eval_safe x a.0 a.1 env w h ty)
            (λ v w1 l1 k1. safe_choose p (to_bool v) (Goes v) (eval c own y env) w1 (λ _. safe_done p l1.typed (T_any _ (valid_of p k1))) (λ _. safe_map p (eval_safe y b.0 b.1 env w1 (env_later l1.later env h) l1.typed) (λ u w2 l2 k2. T_any _ (valid_of p k2)))))
        eval_safe (Expr.Choose test x y type) t e env w h ty =
            let g = when_is _ _ t e in
            let d = both_true p (is_named type && is_some (type_of p s test) && is_some (type_of p s x)) (is_some (type_of p s y)) g.0 in
            let d1 = both_true p (is_named type && is_some (type_of p s test)) (is_some (type_of p s x)) d.0 in
            let d2 = both_true p (is_named type) (is_some (type_of p s test)) d1.0 in
            let z = some_is (type_of p s test) d2.1 in
            let a = some_is (type_of p s x) d1.1 in
            let b = some_is (type_of p s y) d.1 in
            as_typed _ t g.1
            (safe_bind p (eval_safe test z.0 z.1 env w h ty)
            (λ v w1 l1 k1. safe_bind p {P = λ u os. Valid p os u} (safe_choose p (to_bool v) (eval c own x env) (eval c own y env) w1
            (λ _. safe_map p (eval_safe x a.0 a.1 env w1 (env_later l1.later env h) l1.typed) (λ u w2 l2 k2. valid_of p k2))
            (λ _. safe_map p (eval_safe y b.0 b.1 env w1 (env_later l1.later env h) l1.typed) (λ u w2 l2 k2. valid_of p k2)))
            (λ u w2 l2 k2. convert_safe p type u w2 d2.0 k2 l2.typed)))

        pub eval_all_safe : (es : Exprs) (k : ℕ) → count_of p s es ≡ Some k → EvalsAll es k
        eval_all_safe NoExpr k e env w h ty = safe_done p ty (tt, same_some _ _ e, (λ g. absurd (true≢false (sym g))), (λ g. absurd (true≢false (sym g))))
        eval_all_safe (MoreExpr (Expr.Method_of x name) es) k e env w h ty =
            let g = if_is (is_some (type_of p s (Expr.Method_of x name))) _ k e in
            let j = map_is suc (count_of p s es) k g.1 in
            let t = some_is (type_of p s (Expr.Method_of x name)) g.0 in
            let a = for_class_is (type_of p s x) (λ class. when (can_listen p (callee p class name)) StaticType.Any) t.0 t.1 in
            more_safe (Expr.Method_of x name) es j.0 k j.2 (eval_all_safe es j.0 j.1) env w h (safe_map p (method_of_safe x a.0 name (eval_safe x _ a.1) (when_is _ _ t.0 a.2).0 env w h ty) (λ v w1 l k1. (valid_of p k1.0, λ _. k1.1)))
        eval_all_safe (MoreExpr x es) k e env w h ty =
            let g = if_is (is_some (type_of p s x)) _ k e in
            let j = map_is suc (count_of p s es) k g.1 in
            let t = some_is (type_of p s x) g.0 in
            more_safe x es j.0 k j.2 (eval_all_safe es j.0 j.1) env w h (safe_map p (eval_safe x t.0 t.1 env w h ty) (λ v w1 l k1. (valid_of p k1, λ g1. absurd (true≢false (sym g1)))))

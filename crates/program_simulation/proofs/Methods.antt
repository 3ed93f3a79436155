-- A method that is called does what it means.
use Rattle.std.proofs.Common.{◌≡◌, refl, sym, ap, ◌∙◌, subst, arith}
use Rattle.std.specs.Prelude.{Bool, List, None, Option, Some, [], false, if◌then◌else◌, length, map, nat_lt, option_and_then, replicate, slice_get, suc, true, zero, ℕ, ◌++◌, ◌+◌, ◌-◌, ◌==◌, ◌∷◌, ◌≤◌}
use Rattle.flex_base.specs.Lists.{changed_at}
use Rattle.flex_base.specs.declared.outcome.Outcome.TheVariants.{Stopped}
use Rattle.flex_base.specs.declared.outcome.Stop.TheVariants as stop
use Rattle.flex_base.specs.declared.value.ObjId.{ObjId}
use Rattle.flex_base.specs.declared.value.Value.TheVariants as value
use Rattle.flex_base.specs.declared.value.Value.{Value}
use Rattle.flex_world.specs.declared.kind.Class.{Class}
use Rattle.flex_world.specs.declared.kind.StaticType.{StaticType}
use Rattle.flex_world.specs.Conversions.{start_of_result}
use Rattle.flex_world.specs.Objects.{Object}
use Rattle.flex_world.specs.Making.{start_of_type}
use Rattle.flex_program.specs.Program.{Method}
use Rattle.flex_meaning.specs.Activities.{Calls, Does}
use Rattle.flex_meaning.specs.Conversions as meaning
use Rattle.flex_meaning.specs.Expressions.{Env}
use Rattle.flex_meaning.specs.Results.{Ends, Goes, Halts, Result, Stuck, bind, done, guarded, need, stops}
use Rattle.flex_meaning.specs.Statements.{Breaks, Continues, Falls, Flow, Returns, exec_all, first_env, returned, run}
use Rattle.flex_meaning.specs.Tasks.{context, perform, run_method}
use Rattle.flex_meaning.specs.Turns as turns
use Rattle.flex_meaning.specs.World.{World}
use Rattle.program_code.specs.Code.{AreStarts, IsEnd, IsMethodCode}
use Rattle.program_code.specs.Program.{HasMethodCode, IsClassCode}
use Rattle.program_simulation.proofs.Bodies.{Has, Here, SuperAt, at, image, moves_on, pushed, see_then, sets, work}
use Rattle.program_simulation.proofs.Flows.{Fits}
use Rattle.program_simulation.proofs.Follows.{Onward, comes_here, comes_on, sim_bind, sim_done, sim_from, sim_halts, sim_more, sim_stuck}
use Rattle.program_simulation.proofs.Follows.{length_mapped}
use Rattle.program_simulation.proofs.Ordered.{same_number}
use Rattle.program_simulation.proofs.Place.{hold_from, lies_mark, lies_nothing}
use Rattle.program_simulation.proofs.Statements.{Targets, block_sim, gives_back, lands}
use Rattle.program_simulation.specs.Following.{Comes, Meets, Sim, Unseen}
use Rattle.program_simulation.specs.Image.{IsImage}
use Rattle.program_simulation.specs.Laws.{HasPlainMethods, IsDeclared, IsPlainBlock, Law}
use Rattle.program_simulation.specs.Stands.{Image, Setting, locals_of, machine_of, playing, playing_of}
use Rattle.avm2_program.specs.Naming.{Naming}
use Rattle.avm2_program.specs.declared.method.Body as FileBody
use Rattle.avm2_program.specs.declared.method.Method as FileMethod
use Rattle.avm2_program.specs.declared.operation.Operation.TheVariants as Operation
use Rattle.avm2_meaning.specs.Apply.{enter, give_if, open_body, open_call}
use Rattle.avm2_meaning.specs.Calls.{call_of}
use Rattle.avm2_meaning.specs.Classes.{owner_of}
use Rattle.avm2_meaning.specs.declared.effect.Call.{Call}
use Rattle.avm2_meaning.specs.declared.frame.Frame.{Frame}
use Rattle.avm2_meaning.specs.Machine.{over_with, spend, take_turn}
use Rattle.avm2_meaning.specs.Operands.{ref, undefined}
use Rattle.avm2_meaning.specs.declared.operand.Operand.{Operand}
use Rattle.avm2_meaning.specs.declared.operand.Operand.TheVariants.{Plain}
use Rattle.avm2_meaning.specs.Trace.{Playing}

-- locals that hold nothing yet
abbrev pub blanks : ℕ → List Value
blanks zero = []
blanks (suc k) = value.Undefined ∷ blanks k

pub blank_after : (vs : List Value) (k : ℕ) → map Plain (vs ++ blanks k) ++ undefined ∷ undefined ∷ [] ≡ map Plain vs ++ replicate (suc (suc k)) undefined
blank_after [] zero = refl
blank_after [] (suc k) = ap (λ l. undefined ∷ l) (blank_after [] k)
blank_after (v ∷ vs) k = ap (λ l. Plain v ∷ l) (blank_after vs k)

set_behind : (vs : List Value) (u v : Value) (rest : List Value) (tail : List Operand) → changed_at (λ _. Plain v) (map Plain (vs ++ u ∷ rest) ++ tail) (length vs) ≡ map Plain ((vs ++ v ∷ []) ++ rest) ++ tail
set_behind [] u v rest tail = refl
set_behind (x ∷ vs) u v rest tail = ap (λ l. Plain x ∷ l) (set_behind vs u v rest tail)

there_behind : (vs : List Value) (u : Value) (rest : List Value) (tail : List Operand) → slice_get (map Plain (vs ++ u ∷ rest) ++ tail) (length vs) ≡ Some (Plain u)
there_behind [] u rest tail = refl
there_behind (x ∷ vs) u rest tail = there_behind vs u rest tail

join_again : (vs : List Value) (v : Value) (rest : List Value) → (vs ++ v ∷ []) ++ rest ≡ vs ++ v ∷ rest
join_again [] v rest = refl
join_again (x ∷ vs) v rest = ap (λ l. x ∷ l) (join_again vs v rest)

length_more : (vs : List Value) (v : Value) → length (vs ++ v ∷ []) ≡ suc (length vs)
length_more [] v = refl
length_more (x ∷ vs) v = ap suc (length_more vs v)

-- a flow that returns, and its value
un_returns : {q : Image} {n : ℕ} {c : Playing} (r : Result Value) (k : Onward Value) (l : Onward Flow) → ((v : Value) (w : World) (x : Unseen) → l (Returns v) w x ≡ k v w x)
    → Sim q n c (bind r (λ v w. Goes (Returns v) w)) l → Sim q n c r k
un_returns {q} {n} {c} (Goes v w) k l e s = record { comes = (s.comes.0, subst (λ d. Comes q c d) (e v w s.comes.0) s.comes.1); keeps = s.keeps }
un_returns (Halts o w) k l e s = record { comes = s.comes; keeps = tt }
un_returns (Ends w) k l e s = record { comes = s.comes; keeps = s.keeps }
un_returns (Stuck w) k l e s = record { comes = tt; keeps = tt }

-- an activity takes a level and a turn, and gives its level back; before it the machine has changed the objects so
pub activity_sim : (t : Setting) {A : Type 0} (m n : ℕ) → m ≤ suc n → (c : Call) (fs : List Frame) (order : List ObjId) (g : List Object → List Object) (w : World) (body : World → Result A) (k : Onward A) → Meets t.image m w
    → ((j : ℕ) → j ≤ n → (w1 : World) → w1.objects ≡ w.objects → Meets t.image j w1
    → Sim t.image j (playing t (open_call t.image.program true c (machine_of t fs order (record w1 { objects = g w1.objects }))) w1.records) (bind (body w1) (λ v w2. Goes v (turns.leave w2))) k)
    → Sim t.image m (playing t (enter t.image.program c (machine_of t fs order (record w { objects = g w.objects }))) w.records) (turns.activity body w) k
activity_sim t {A} m n le c fs order g w body k ok s = by (nat_lt w.level 256)
  where
    spent : (j : ℕ) → w.turns ≡ j
        → Sim t.image m (playing t (spend j (λ m1. open_call t.image.program true c (record m1 { level = suc m1.level })) (machine_of t fs order (record w { objects = g w.objects }))) w.records)
        (bind (bind (turns.spend j w) (λ _ w1. done (record w1 { level = suc w1.level }))) (λ _ w1. bind (body w1) (λ v w2. Goes v (turns.leave w2)))) k
    spent zero e = sim_halts refl refl
    spent (suc j) e =
        let l = ok.turns in
        sim_more (omega (arith, e, l)) (s (suc j) (omega (arith, e, l, le)) (record w { turns = j; level = suc w.level }) refl (record { turns = omega arith; holds = record { fields = ok.holds.fields } }))

    by : (b : Bool)
        → Sim t.image m (playing t (if b then take_turn (λ m1. open_call t.image.program true c (record m1 { level = suc m1.level })) (machine_of t fs order (record w { objects = g w.objects })) else over_with (Stopped stop.Depth) (machine_of t fs order (record w { objects = g w.objects }))) w.records)
        (bind (if b then bind (turns.tick w) (λ _ w1. done (record w1 { level = suc w1.level })) else stops stop.Depth w) (λ _ w1. bind (body w1) (λ v w2. Goes v (turns.leave w2)))) k
    by true = spent w.turns refl
    by false = sim_halts refl refl

module _ (h : Here) where
  -- the variables of a body begin with the values of their types
  pub starts : (ts : List StaticType) (vs : List Value) (j a b : ℕ) (o : ObjId) (order : List ObjId) (w : World) → j ≡ suc (length vs) → Has h (AreStarts j ts) a b
      → Comes (image h) (at h a [] (record { this = o; locals = vs ++ blanks (length ts) }) order w) (at h b [] (record { this = o; locals = vs ++ map start_of_type ts }) order w)
  starts [] vs j a b o order w e has =
      subst (λ c. Comes (image h) (at h a [] (record { this = o; locals = vs ++ [] }) order w) (at h c [] (record { this = o; locals = vs ++ [] }) order w)) (lies_nothing h.naming h.code h.parts h.marks h.by a b has) (comes_here (image h) _)
  starts (t ∷ ts) vs j a b o order w e has =
      let p1 = see_then h _ _ a b has in
      let p2 = see_then h _ _ a p1.mid p1.front in
      let rest = starts ts (vs ++ start_of_type t ∷ []) (suc j) p1.mid b o order w (ap suc (e ∙ sym (length_more vs (start_of_type t)))) p1.back in
      comes_on (image h) _ _ _
      (moves_on h a p2.mid (Operation.Push (start_of_type t)) [] (before_all) (Plain (start_of_type t) ∷ []) (before_all) order w p2.front refl refl)
      (comes_on (image h) _ _ _
      (sets h p2.mid p1.mid j [] before_all after_all undefined (Plain (start_of_type t)) order w p2.back
      (subst (λ i. slice_get before_all i ≡ Some undefined) (sym e) (there_behind vs value.Undefined (blanks (length ts)) h.rest))
      (subst (λ i. changed_at (λ _. Plain (start_of_type t)) before_all i ≡ after_all) (sym e) (ap (λ l. Plain (value.Ref o) ∷ l) (set_behind vs value.Undefined (start_of_type t) (blanks (length ts)) h.rest))))
      (subst (λ l. Comes (image h) (at h p1.mid [] (record { this = o; locals = (vs ++ start_of_type t ∷ []) ++ blanks (length ts) }) order w) (at h b [] (record { this = o; locals = l }) order w)) (join_again vs (start_of_type t) (map start_of_type ts)) rest))
    where
      before_all : List Operand
      before_all = locals_of (record { this = o; locals = vs ++ value.Undefined ∷ blanks (length ts) }) h.rest

      after_all : List Operand
      after_all = locals_of (record { this = o; locals = (vs ++ start_of_type t ∷ []) ++ blanks (length ts) }) h.rest

  abbrev nowhere : ℕ → Targets
  nowhere place = record { out = place; again = place; over = None }

  abbrev given_back : Onward Value
  given_back v w x = playing h.setting (give_if h.keeps (Some (Plain v)) (machine_of h.setting h.frames x.order (turns.leave w))) w.records

  -- a body that ends without `return`
  ending : (t : Option StaticType) → t ≡ h.result → (n a b place : ℕ) (env : Env) (order : List ObjId) (w : World) → Has h (IsEnd t) a b → Meets (image h) n w
      → Sim (image h) n (at h a [] env order w) (bind (meaning.convert_result (image h).source h.result (start_of_result t) w) (λ v1 w2. Goes (Returns v1) w2)) (lands h b (nowhere place) [])
  ending None e n a b place env order w has ok = gives_back h n a b Operation.ReturnVoid [] value.Undefined env order w (nowhere place) [] (work h [] env) refl refl has ok
  ending (Some t) e n a b place env order w has ok =
      let p1 = see_then h _ _ a b has in
      sim_bind {r = Goes (start_of_type t) w} {f = λ v w1. bind (meaning.convert_result (image h).source h.result v w1) (λ v1 w2. Goes (Returns v1) w2)}
      (pushed h n a p1.mid (Operation.Push (start_of_type t)) [] (start_of_type t) env order w refl p1.front ok)
      (λ v w1 x ok1. gives_back h n p1.mid b Operation.ReturnValue (Plain v ∷ []) v env x.order w1 (nowhere place) [] (work h [] env) refl refl p1.back ok1)

  over_sim : (n a b place : ℕ) → Has h (IsEnd h.result) a b → (fl : Flow) (w : World) (x : Unseen) → Meets (image h) n w
      → Sim (image h) n (lands h a (nowhere place) [] fl w x) (returned (context (image h).source h.n h.does) h.result fl w) given_back
  over_sim n a b place has (Falls env) w x ok = un_returns _ given_back (lands h b (nowhere place) []) (λ v w1 y. refl) (ending h.result refl n a b place env x.order w has ok)
  over_sim n a b place has (Breaks env) w x ok = sim_stuck
  over_sim n a b place has (Continues env) w x ok = sim_stuck
  over_sim n a b place has (Returns v) w x ok = sim_done {k = given_back} x ok

-- of a method that the file has
module _ (t : Setting) {g : Naming} (is : IsImage g t.image) (n : ℕ) (does : Does) (law : Law t n does) (number : ℕ) (declared : IsDeclared t.image.source number) (d : Method) (x : HasMethodCode g t.image.labels t.image.program number d) (keeps : Bool) (fs : List Frame) (o : ObjId) where
  abbrev code : IsClassCode g t.image.labels t.image.source t.image.program declared.class_number declared.class
  code = is.code.classes declared.class_number declared.class declared.class_there

  abbrev its_super : SuperAt t.image.program number declared.class.base
  its_super = record {
    number = declared.class_number;
    class = code.of_file;
    owner_is = subst (λ z. owner_of t.image.program z ≡ Some declared.class_number) declared.is (code.declared declared.place declared.member declared.member_there);
    there = code.there;
    base_is = code.base_is;
  }

  abbrev here : Here
  here = record {
    setting = t;
    naming = g;
    is = is;
    n = n;
    does = does;
    law = law;
    method = number;
    code = x.body.code;
    fetched = λ place. ap (λ y. option_and_then (λ (b : FileBody.Body). slice_get b.code place) (option_and_then (λ (z : FileMethod.Method). z.body) y)) x.there ∙ ap (option_and_then (λ (b : FileBody.Body). slice_get b.code place)) x.has;
    parts = x.code.parts;
    marks = x.code.marks;
    by = x.code.by;
    keeps = keeps;
    frames = fs;
    rest = undefined ∷ undefined ∷ [];
    this = o;
    width = length d.parameters + length d.locals;
    own = x.method;
    own_there = x.there;
    result = d.result;
    result_is = x.result_is;
    supers = Some declared.class.base;
    super_at = λ base e. subst (λ b. SuperAt t.image.program number b) (same_base declared.class.base base e) its_super;
  }
    where
      same_base : (a b : Option Class) → Some a ≡ Some b → a ≡ b
      same_base a b e = cc

  -- its frame, when it is opened
  opened : (order : List ObjId) (vs : List Value) (w : World) → length vs ≡ length d.parameters
      → playing t (open_call t.image.program true (call_of number (ref o) (map Plain vs) keeps) (machine_of t fs order w)) w.records ≡ at here 0 [] (record { this = o; locals = vs ++ blanks (length d.locals) }) order w
  opened order vs w len =
      ap (λ y. playing t (open_body true (call_of number (ref o) (map Plain vs) keeps) (option_and_then (λ (z : FileMethod.Method). z.body) y) (machine_of t fs order w)) w.records) x.there
      ∙ ap (λ y. playing t (open_body true (call_of number (ref o) (map Plain vs) keeps) y (machine_of t fs order w)) w.records) x.has
      ∙ ap (λ l. playing_of t (Frame.Code (record { place = 0; work = record { method = number; stack = []; scopes = []; locals = Plain (value.Ref o) ∷ l }; is_activity = true; keeps = keeps }) ∷ fs) order w)
      (ap (λ k. map Plain vs ++ replicate k undefined) many ∙ sym (blank_after vs (length d.locals)))
    where
      many : x.body.locals - 1 - length (map Plain vs) ≡ suc (suc (length d.locals))
      many = let e = length_mapped Plain vs in omega (arith, x.locals_are, e, len)

  length_joined : (xs ys : List Value) → length (xs ++ ys) ≡ length xs + length ys
  length_joined [] ys = omega arith
  length_joined (y ∷ xs) ys = let e = length_joined xs ys in omega (arith, e)

  -- its body, from the start
  body_sim : (m : ℕ) → m ≤ n → (order : List ObjId) (vs : List Value) (w : World) → IsPlainBlock t.image.source (Some declared.class.base) d.body → length vs ≡ length d.parameters → Meets t.image m w
      → Sim t.image m (at here 0 [] (record { this = o; locals = vs ++ blanks (length d.locals) }) order w)
      (bind (exec_all (context t.image.source n does) d.result d.body (first_env d o vs) w) (returned (context t.image.source n does) d.result)) (given_back here)
  body_sim m le order vs w plain len ok =
      let whole : Has here (IsMethodCode t.image.labels d) 0 (0 + length x.code.parts) = record { these = x.code.parts; code = x.code.code; hold = hold_from g x.body.code x.code.parts x.code.marks x.code.by [] x.code.parts refl; until = refl } in
      let m0 = lies_mark g x.body.code x.code.parts x.code.marks x.code.by _ _ _ whole in
      let p1 = see_then here _ _ _ _ m0.1 in
      let p2 = see_then here _ _ _ _ p1.front in
      let place = x.code.marks m0.0 in
      let fits : Fits o (length d.parameters + length d.locals) (first_env d o vs) =
      record { this_is = refl; width_is = (let e = length_joined vs (map start_of_type d.locals) in let e2 = length_mapped start_of_type d.locals in omega (arith, e, e2, len)) } in
      sim_from (starts here d.locals vs (suc (length d.parameters)) 0 p2.mid o order w (ap suc (sym len)) p2.front)
      (sim_bind
      (block_sim here refl d.body plain (record { out = m0.0; again = m0.0; over = None }) m le p2.mid p1.mid (nowhere here place) [] (first_env d o vs) order w fits
      (record { out = refl; again = refl; over = refl; no_result = λ e. absurd cc }) p2.back ok)
      (λ fl w2 y ok2. over_sim here m p1.mid (0 + length x.code.parts) place p1.back fl w2 y ok2))

  -- the call, once it has its level and its turn
  pub called : (m : ℕ) → m ≤ n → (order : List ObjId) (vs : List Value) (w : World) → IsPlainBlock t.image.source (Some declared.class.base) d.body → Meets t.image m w
      → Sim t.image m (playing t (open_call t.image.program true (call_of number (ref o) (map Plain vs) keeps) (machine_of t fs order w)) w.records)
      (bind (run (context t.image.source n does) d o vs w) (λ v w2. Goes v (turns.leave w2)))
      (λ v w1 y. playing t (give_if keeps (Some (Plain v)) (machine_of t fs y.order w1)) w1.records)
  called m le order vs w plain ok = counts (length vs == length d.parameters) refl
    where
      counts : (b : Bool) → (length vs == length d.parameters) ≡ b
          → Sim t.image m (playing t (open_call t.image.program true (call_of number (ref o) (map Plain vs) keeps) (machine_of t fs order w)) w.records)
          (bind (guarded b (λ w1. bind (exec_all (context t.image.source n does) d.result d.body (first_env d o vs) w1) (returned (context t.image.source n does) d.result)) w) (λ v w2. Goes v (turns.leave w2)))
          (λ v w1 y. playing t (give_if keeps (Some (Plain v)) (machine_of t fs y.order w1)) w1.records)
      counts false e = sim_stuck
      counts true e =
          let len = same_number (length vs) (length d.parameters) e in
          subst (λ c. Sim t.image m c (bind (bind (exec_all (context t.image.source n does) d.result d.body (first_env d o vs) w) (returned (context t.image.source n does) d.result)) (λ v w2. Goes v (turns.leave w2))) (λ v w1 y. playing t (give_if keeps (Some (Plain v)) (machine_of t fs y.order w1)) w1.records))
          (sym (opened order vs w len))
          (sim_bind (body_sim m le order vs w plain len ok)
          (λ v w2 y ok2. sim_done {w = turns.leave w2} {k = λ v1 w3 y1. playing t (give_if keeps (Some (Plain v1)) (machine_of t fs y1.order w3)) w3.records} y
          (record { turns = ok2.turns; holds = record { fields = ok2.holds.fields } })))

-- what methods do with one turn more
pub method_sim : (t : Setting) {g : Naming} (is : IsImage g t.image) (n : ℕ) (does : Does) (law : Law t n does) → HasPlainMethods t.image.source
    → (m : ℕ) → m ≤ suc n → (number : ℕ) → IsDeclared t.image.source number → (o : ObjId) (vs : List Value) (keeps : Bool) (fs : List Frame) (order : List ObjId) (w : World) → Meets t.image m w
    → Sim t.image m (playing t (enter t.image.program (call_of number (ref o) (map Plain vs) keeps) (machine_of t fs order w)) w.records)
    (perform (context t.image.source n does) (Calls number o vs) w)
    (λ v w1 x. playing t (give_if keeps (Some (Plain v)) (machine_of t fs x.order w1)) w1.records)
method_sim t is n does law plain m le number is_declared o vs keeps fs order w ok =
    activity_sim t m n le (call_of number (ref o) (map Plain vs) keeps) fs order (λ l. l) w (run_method (context t.image.source n does) number o vs) _ ok
    (λ j le1 w1 same ok1. at_method j le1 w1 ok1 (slice_get t.image.source.methods number) refl)
  where
    at_method : (j : ℕ) → j ≤ n → (w1 : World) → Meets t.image j w1 → (d : Option Method) → slice_get t.image.source.methods number ≡ d
        → Sim t.image j (playing t (open_call t.image.program true (call_of number (ref o) (map Plain vs) keeps) (machine_of t fs order w1)) w1.records)
        (bind (need d w1 (λ method. run (context t.image.source n does) method o vs w1)) (λ v w2. Goes v (turns.leave w2)))
        (λ v w2 x. playing t (give_if keeps (Some (Plain v)) (machine_of t fs x.order w2)) w2.records)
    at_method j le1 w1 ok1 None e = sim_stuck
    at_method j le1 w1 ok1 (Some d) e = called t is n does law number is_declared d (is.code.methods number d e) keeps fs o j le1 order vs w1 (plain number d e is_declared) ok1

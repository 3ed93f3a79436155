-- The machine does what expressions mean.
use Rattle.std.proofs.Common.{◌≡◌, refl, sym, ap, ◌∙◌, subst, arith}
use Rattle.std.specs.Prelude.{Bool, Err, List, None, Ok, Option, Some, [], codes, false, is_some, length, map, not, option_and_then, option_map, slice_get, suc, true, zero, ℕ, ℤ, ◌++◌, ◌+◌, ◌==◌, ◌∷◌, ◌≤◌}
use Rattle.std.specs.Prelude.{Result as Computed}
use Rattle.flex_base.specs.Value.{to_bool, to_text}
use Rattle.flex_base.specs.declared.outcome.MachineFault.TheVariants as fault
use Rattle.flex_base.specs.declared.outcome.Outcome.TheVariants.{Stopped}
use Rattle.flex_base.specs.declared.outcome.Stop.TheVariants as stop
use Rattle.flex_base.specs.declared.outcome.Stop.{Stop}
use Rattle.flex_base.specs.declared.value.ObjId.{ObjId}
use Rattle.flex_base.specs.declared.value.Value.TheVariants as value
use Rattle.flex_base.specs.declared.value.Value.{Value}
use Rattle.component_catalog.specs.Classes.{or_else}
use Rattle.component_catalog.specs.Methods.{parameters_of}
use Rattle.component_catalog.specs.declared.class.NativeClass.{NativeClass}
use Rattle.component_catalog.specs.declared.method.NativeMethod.{NativeMethod}
use Rattle.flex_world.specs.Arrays.{last_or_undefined, with_last, without_last}
use Rattle.flex_world.specs.declared.kind.Class.{Class}
use Rattle.flex_world.specs.declared.kind.StaticType.{StaticType}
use Rattle.flex_world.specs.Objects.{An_array, Instance_of, Kind, Object, class_of_kind, object_at}
use Rattle.flex_world.specs.Objects.{is_array}
use Rattle.flex_world.specs.Operators.{negated, operate}
use Rattle.flex_world.specs.declared.operator.Operator.{Operator}
use Rattle.flex_program.specs.Classes.{Callee, callee, class_name, constructor_of}
use Rattle.flex_program.specs.Program.{Constructor, Expr, Exprs, Method, MoreExpr, NoExpr, SourceClass}
use Rattle.flex_program.specs.Program.{Program}
use Rattle.flex_meaning.specs.Activities.{Calls, Constructs, Context, carry_out}
use Rattle.flex_meaning.specs.Arrays as arrays
use Rattle.flex_meaning.specs.Conversions as meaning
use Rattle.flex_meaning.specs.Expressions as source
use Rattle.flex_meaning.specs.Expressions.{Env, eval, eval_all, literal_value, receiver}
use Rattle.flex_meaning.specs.Making.{constructor_arguments, make}
use Rattle.flex_meaning.specs.Objects as objects
use Rattle.flex_meaning.specs.Results.{Ends, Goes, Halts, Result, Stuck, bind, choose, dropped, given, guarded, need}
use Rattle.flex_meaning.specs.Results.{done}
use Rattle.flex_meaning.specs.Turns as turns
use Rattle.flex_meaning.specs.World.{World, change_object}
use Rattle.program_code.specs.Code.{AreExprsCode, Converts, IsExprCode, Received, Tested, count_of, result_type}
use Rattle.program_code.specs.Constructors.{method_of}
use Rattle.program_code.specs.Names.{member_name}
use Rattle.program_code.specs.Program.{IsClassCode, constructor_types}
use Rattle.program_code.specs.Shapes.{Meant, One}
use Rattle.program_simulation.proofs.Bodies.{Has, Here, Sees, SuperAt, acted_at, at, branches_false, branches_true, code_frame, ctx, heap, image, jumps, labels, pushed, see_one, see_then, sim_at, stacked, tops, unseen_of, valued, work}
use Rattle.program_simulation.proofs.Catalog.{Answers, arguments_alike, arguments_stay, native_answers}
use Rattle.program_simulation.proofs.Catalog.{stays_bind}
use Rattle.program_simulation.proofs.Declared.{declared}
use Rattle.program_simulation.proofs.Elements.{all_plain_are, array_member_found, array_there, element_alike, elements_there, length_alike, mapped_then, pop_kept, push_alike}
use Rattle.program_simulation.proofs.Equations.{convert_alike, convert_all_alike, found_there, new_array_alike, read_alike}
use Rattle.program_simulation.proofs.Follows.{Alike, EveryValue, Onward, comes_here, sim_any, alike_bind, alike_from, alike_given, alike_goes, alike_guarded, alike_halts, alike_map, alike_step, alike_stuck, sim_bind, sim_bind_end, sim_bind_with, sim_done, sim_extend, sim_halts, sim_need, sim_stuck, unrecorded, length_mapped, alike_mapped}
use Rattle.program_simulation.proofs.Making.{allocate_alike, allocated_new}
use Rattle.program_simulation.proofs.Natives.{made_native_alike}
use Rattle.program_simulation.proofs.Moving.{Stays, convert_stays, part_landed, acts}
use Rattle.program_simulation.proofs.Place.{Two, lies_either, lies_goes, lies_here, lies_mark, lies_nothing, lies_short}
use Rattle.program_simulation.proofs.Standing.{heap_changed, holds_changed}
use Rattle.program_simulation.proofs.Standing.{object_there}
use Rattle.program_simulation.specs.Following.{Ending, Meets, Sim, SimTo, Unseen}
use Rattle.program_simulation.specs.Image.{IsImage, IsShape}
use Rattle.program_simulation.specs.Laws.{ArePlain, IsCallable, IsDeclared, IsNew, IsPlain, IsWritten, gives_at_once}
use Rattle.program_simulation.specs.Stands.{Image, heap_of, machine_of, playing, stage_of}
use Rattle.avm2_program.specs.Names.{public_name}
use Rattle.avm2_program.specs.Naming.{Naming}
use Rattle.avm2_program.specs.declared.class.FileClass as FileClassRecord
use Rattle.avm2_program.specs.declared.method.Method as FileMethod
use Rattle.avm2_program.specs.declared.member.Member as Member_module
use Rattle.avm2_program.specs.declared.member.Member.TheVariants as Member
use Rattle.avm2_program.specs.declared.operation.Operation.{Operation}
use Rattle.avm2_code.specs.declared.parts.Branch.TheVariants as branch
use Rattle.flex_objects.specs.Entities.{Shape}
use Rattle.ui_runtime.specs.Arrays as stage_arrays
use Rattle.ui_runtime.specs.Stage as stage
use Rattle.avm2_meaning.specs.Act.{act, taken_off}
use Rattle.avm2_meaning.specs.Act.{construct_value}
use Rattle.avm2_meaning.specs.Act.{property_at}
use Rattle.avm2_meaning.specs.Apply.{enter, give_if}
use Rattle.avm2_meaning.specs.Arrays as elements
use Rattle.avm2_meaning.specs.Calls.{call_of, prepare}
use Rattle.avm2_meaning.specs.Classes.{file_shape}
use Rattle.avm2_meaning.specs.Conversions as conversions
use Rattle.avm2_meaning.specs.Effects.{Acted, acted, effect, pushes, silent, with_top}
use Rattle.avm2_meaning.specs.declared.effect.Next.{Next}
use Rattle.avm2_meaning.specs.declared.frame.Frame.{Frame}
use Rattle.avm2_meaning.specs.declared.work.Work.{Work}
use Rattle.avm2_meaning.specs.declared.heap.Heap.{Heap}
use Rattle.avm2_meaning.specs.Invoking.{call_base, call_member, call_super}
use Rattle.avm2_meaning.specs.Making as making
use Rattle.avm2_meaning.specs.Members.{base_member, found, kind_member, runtime_member}
use Rattle.avm2_meaning.specs.Moves.{target_or}
use Rattle.avm2_meaning.specs.Natives as natives
use Rattle.avm2_meaning.specs.Natives.{has_method}
use Rattle.avm2_meaning.specs.Operands.{ref, undefined}
use Rattle.avm2_meaning.specs.declared.operand.Operand.{Operand}
use Rattle.avm2_meaning.specs.declared.operand.Operand.TheVariants.{Plain}
use Rattle.avm2_meaning.specs.Properties as properties
use Rattle.avm2_meaning.specs.Replies.{finish, gives}
use Rattle.avm2_meaning.specs.declared.reply.Reply.{Reply}
use Rattle.avm2_meaning.specs.Results as machine
use Rattle.avm2_meaning.specs.Trace.{Playing}

pub there : (ls : List Value) (rest : List Operand) (n : ℕ) (v : Value) → slice_get ls n ≡ Some v → slice_get (map Plain ls ++ rest) n ≡ Some (Plain v)
there [] rest zero v e = absurd (cc)
there [] rest (suc n) v e = absurd (cc)
there (x ∷ ls) rest zero v e = ap (option_map Plain) e
there (x ∷ ls) rest (suc n) v e = there ls rest n v e

-- values on the stack, the last on top
abbrev pub push_all : List Value → List Operand → List Operand
push_all [] st = st
push_all (v ∷ vs) st = push_all vs (Plain v ∷ st)

-- as many come off as were put on
taken : (vs : List Value) (n j : ℕ) (acc st : List Operand) (w : Work) (s : Heap) (k : List Operand → Work → machine.Result (Acted Work)) → n ≡ j + length vs
    → taken_off n acc (push_all vs st) w s k ≡ taken_off j (map Plain vs ++ acc) st w s k
taken [] n j acc st w s k e = let g : n ≡ j = omega (arith, e) in ap (λ m. taken_off m acc st w s k) g
taken (v ∷ vs) n j acc st w s k e = taken vs n (suc j) acc (Plain v ∷ st) w s k (omega (arith, e))

append_nothing : {A : Type 0} (vs : List A) → vs ++ [] ≡ vs
append_nothing [] = refl
append_nothing (v ∷ vs) = ap (λ l. v ∷ l) (append_nothing vs)

pub all_taken : (vs : List Value) (n : ℕ) (st : List Operand) (w : Work) (s : Heap) (k : List Operand → Work → machine.Result (Acted Work)) → length vs ≡ n
    → taken_off n [] (push_all vs st) w s k ≡ k (map Plain vs) (record w { stack = st })
all_taken vs n st w s k e = taken vs n 0 [] st w s k (omega (arith, e)) ∙ ap (λ l. k l (record w { stack = st })) (append_nothing (map Plain vs))

-- arguments are as many as their expressions
pub counted_all : (c : Context) (own : Bool) (es : Exprs) (env : Env) (w : World) → EveryValue (λ vs. length vs ≡ count_of es) (eval_all c own es env w)
counted_all c own NoExpr env w = refl
counted_all c own (MoreExpr e es) env w = first (λ w1. counted_all c own es env w1) (eval c own e env w)
  where
    second : (v : Value) (r : Result (List Value)) → EveryValue (λ vs. length vs ≡ count_of es) r
        → EveryValue (λ vs. length vs ≡ suc (count_of es)) (bind r (λ vs w2. Goes (v ∷ vs) w2))
    second v (Goes vs w2) h = ap suc h
    second v (Halts o w2) h = tt
    second v (Ends w2) h = tt
    second v (Stuck w2) h = tt

    first : ((w1 : World) → EveryValue (λ vs. length vs ≡ count_of es) (eval_all c own es env w1)) → (r : Result Value)
        → EveryValue (λ vs. length vs ≡ suc (count_of es)) (bind r (λ v w1. bind (eval_all c own es env w1) (λ vs w2. Goes (v ∷ vs) w2)))
    first rest (Goes v w1) = second v (eval_all c own es env w1) (rest w1)
    first rest (Halts o w1) = tt
    first rest (Ends w1) = tt
    first rest (Stuck w1) = tt

-- the arguments of a method, converted
pub prepared : {q : Image} {g : Naming} (is : IsImage g q) {order : List ObjId} (number : ℕ) (d : Method) (vs : List Value) (w : World)
    → slice_get q.source.methods number ≡ Some d → (length vs == length d.parameters) ≡ true
    → Alike q order w unrecorded (map Plain) (meaning.convert_all q.source d.parameters vs w) (prepare q.program number (map Plain vs) (heap_of q order w))
prepared {q} is {order} number d vs w e same_count =
    let x = is.code.methods number d e in
    alike_from
    (ap (λ y. machine.need y (heap_of q order w) inner) x.there
    ∙ ap (λ y. machine.or_fault fault.NotHere y (heap_of q order w) (λ _. converts x.method.parameters)) x.has
    ∙ ap converts x.parameters_are
    ∙ ap (λ b. machine.bind (machine.test fault.WrongCount b (heap_of q order w)) (λ _ s1. conversions.convert_all q.program d.parameters (map Plain vs) s1))
    (ap (λ l. l == length d.parameters) (length_mapped Plain vs) ∙ same_count))
    (convert_all_alike is d.parameters vs w)
  where
    converts : List StaticType → machine.Result (List Operand)
    converts ts =
        machine.bind (machine.test fault.WrongCount (length (map Plain vs) == length ts) (heap_of q order w)) (λ _ s1. conversions.convert_all q.program ts (map Plain vs) s1)

    inner : FileMethod.Method → machine.Result (List Operand)
    inner method = machine.or_fault fault.NotHere method.body (heap_of q order w) (λ _. converts method.parameters)

-- the arguments of a constructor, converted
pub constructor_prepared : {q : Image} {g : Naming} (is : IsImage g q) {order : List ObjId} (c : Context) → c.program ≡ q.source → (k : ℕ) (class : SourceClass) (e : slice_get q.source.classes k ≡ Some class) (vs : List Value) (w : World)
    → Alike q order w unrecorded (map Plain) (constructor_arguments c (constructor_of q.source (Class.File k)) vs w) (prepare q.program (is.code.classes k class e).of_file.constructor (map Plain vs) (heap_of q order w))
constructor_prepared {q} {g} is {order} c same k class e vs w =
    subst (λ x. Alike q order w unrecorded (map Plain) (constructor_arguments c x vs w) (prepare q.program code.of_file.constructor (map Plain vs) (heap_of q order w))) (sym (ap (option_and_then (λ (z : SourceClass). z.constructor)) e))
    (of_constructor class.constructor refl)
  where
    code : IsClassCode g q.labels q.source q.program k class
    code = is.code.classes k class e

    converts : List StaticType → machine.Result (List Operand)
    converts ts = machine.bind (machine.test fault.WrongCount (length (map Plain vs) == length ts) (heap_of q order w)) (λ _ s1. conversions.convert_all q.program ts (map Plain vs) s1)

    inner : FileMethod.Method → machine.Result (List Operand)
    inner method = machine.or_fault fault.NotHere method.body (heap_of q order w) (λ _. converts method.parameters)

    takes : prepare q.program code.of_file.constructor (map Plain vs) (heap_of q order w) ≡ converts (constructor_types (method_of q.labels q.source class))
    takes =
        ap (λ y. machine.need y (heap_of q order w) inner) code.constructor.there
        ∙ ap (λ y. machine.or_fault fault.NotHere y (heap_of q order w) (λ _. converts code.constructor.method.parameters)) code.constructor.has
        ∙ ap converts code.constructor.parameters_are

    counted : (ts : List StaticType) → (length vs == length ts) ≡ true → converts ts ≡ conversions.convert_all q.program ts (map Plain vs) (heap_of q order w)
    counted ts e1 = ap (λ b. machine.bind (machine.test fault.WrongCount b (heap_of q order w)) (λ _ s1. conversions.convert_all q.program ts (map Plain vs) s1)) (ap (λ l. l == length ts) (length_mapped Plain vs) ∙ e1)

    no_values : (us : List Value) → (length us == 0) ≡ true → us ≡ []
    no_values [] e1 = refl
    no_values (u ∷ us) e1 = absurd (let e2 = counted_equal (suc (length us)) 0 e1 in omega (arith, e2))
      where
        counted_equal : (a b : ℕ) → (a == b) ≡ true → a ≡ b
        counted_equal a b e2 = grind arith

    of_method : (constructor : Constructor) → class.constructor ≡ Some constructor → (m : Option Method) → slice_get q.source.methods constructor.method ≡ m
        → Alike q order w unrecorded (map Plain) (need m w (λ d. meaning.method_arguments c.program d vs w)) (prepare q.program code.of_file.constructor (map Plain vs) (heap_of q order w))
    of_method constructor has None e1 = alike_stuck
    of_method constructor has (Some d) e1 =
        let same_method : method_of q.labels q.source class ≡ Some d = ap (option_and_then (λ (z : Constructor). slice_get q.source.methods z.method)) has ∙ e1 in
        subst (λ p. Alike q order w unrecorded (map Plain) (meaning.method_arguments p d vs w) (prepare q.program code.of_file.constructor (map Plain vs) (heap_of q order w))) (sym same)
        (alike_guarded (length vs == length d.parameters) _
        (λ e2. alike_from (takes ∙ ap (λ z. converts (constructor_types z)) same_method ∙ counted d.parameters e2) (convert_all_alike is d.parameters vs w)))

    of_constructor : (x : Option Constructor) → class.constructor ≡ x → Alike q order w unrecorded (map Plain) (constructor_arguments c x vs w) (prepare q.program code.of_file.constructor (map Plain vs) (heap_of q order w))
    of_constructor None has =
        let no_method : method_of q.labels q.source class ≡ None = ap (option_and_then (λ (z : Constructor). slice_get q.source.methods z.method)) has in
        alike_guarded (length vs == 0) _
        (λ e2. alike_from (takes ∙ ap (λ z. converts (constructor_types z)) no_method ∙ counted [] e2 ∙ ap (λ us. conversions.convert_all q.program [] (map Plain us) (heap_of q order w)) (no_values vs e2)) (alike_goes (map Plain) [] w))
    of_constructor (Some constructor) has =
        subst (λ p. Alike q order w unrecorded (map Plain) (need (slice_get p.methods constructor.method) w (λ d. meaning.method_arguments c.program d vs w)) (prepare q.program code.of_file.constructor (map Plain vs) (heap_of q order w))) (sym same)
        (of_method constructor has (slice_get q.source.methods constructor.method) refl)

all_stay : (p : Program) (ts : List StaticType) (vs : List Value) (w : World) → Stays w (meaning.convert_all p ts vs w)
all_stay p [] [] w = refl
all_stay p [] (v ∷ vs) w = tt
all_stay p (t ∷ ts) [] w = tt
all_stay p (t ∷ ts) (v ∷ vs) w = stays_bind w (meaning.convert p t v w) _ (convert_stays p t v w) (λ v1. stays_bind w (meaning.convert_all p ts vs w) _ (all_stay p ts vs w) (λ vs1. refl))

abbrev none_given : List Value
none_given = []

-- they leave the world alone
constructor_stays : (c : Context) (x : Option Constructor) (vs : List Value) (w : World) → Stays w (constructor_arguments c x vs w)
constructor_stays c None vs w = by (length vs == 0)
  where
    by : (b : Bool) → Stays w (guarded b (Goes none_given) w)
    by true = refl
    by false = tt
constructor_stays c (Some x) vs w = of_method (slice_get c.program.methods x.method)
  where
    counted : (d : Method) (b : Bool) → Stays w (guarded b (meaning.convert_all c.program d.parameters vs) w)
    counted d true = all_stay c.program d.parameters vs w
    counted d false = tt

    of_method : (m : Option Method) → Stays w (need m w (λ d. meaning.method_arguments c.program d vs w))
    of_method None = tt
    of_method (Some d) = counted d (length vs == length d.parameters)

pub some_there : {A : Type 0} (o : Option A) → is_some o ≡ true → (x : A) × (o ≡ Some x)
some_there None e = absurd cc
some_there (Some x) e = (x, refl)

module _ (h : Here) where
  -- a conversion into the type of a place
  pub converts_sim : (t : StaticType) (n a b : ℕ) (st : List Operand) (u : Value) (env : Env) (order : List ObjId) (w : World) → Has h (Converts t) a b → Meets (image h) n w
      → Sim (image h) n (at h a (Plain u ∷ st) env order w) (meaning.convert (image h).source t u w) (tops h b st env)
  converts_sim StaticType.Any n a b st u env order w has ok =
      valued h n a b Operation.CoerceAny (Plain u ∷ st) st env order w (machine.Goes (Plain u) (heap h order w)) has refl (alike_goes Plain u w) ok
  converts_sim StaticType.Int n a b st u env order w has ok =
      valued h n a b (Operation.Convert StaticType.Int) (Plain u ∷ st) st env order w _ has refl (convert_alike h.is StaticType.Int u w) ok
  converts_sim StaticType.Boolean n a b st u env order w has ok =
      valued h n a b (Operation.Convert StaticType.Boolean) (Plain u ∷ st) st env order w _ has refl (convert_alike h.is StaticType.Boolean u w) ok
  converts_sim StaticType.String n a b st u env order w has ok =
      valued h n a b (Operation.Convert StaticType.String) (Plain u ∷ st) st env order w _ has refl (convert_alike h.is StaticType.String u w) ok
  converts_sim StaticType.Array n a b st u env order w has ok =
      valued h n a b (Operation.Convert StaticType.Array) (Plain u ∷ st) st env order w _ has refl (convert_alike h.is StaticType.Array u w) ok
  converts_sim (StaticType.Object class) n a b st u env order w has ok =
      valued h n a b (Operation.Convert (StaticType.Object class)) (Plain u ∷ st) st env order w _ has refl (convert_alike h.is (StaticType.Object class) u w) ok
  converts_sim StaticType.Unnamed n a b st u env order w has ok =
      valued h n a b (Operation.Convert StaticType.Unnamed) (Plain u ∷ st) st env order w _ has refl (convert_alike h.is StaticType.Unnamed u w) ok

  -- an operator on the two values on top
  pub operator_sim : (o : Operator) (n a b : ℕ) (st : List Operand) (x y : Value) (env : Env) (order : List ObjId) (w : World) → Has h (One (Operation.Apply o)) a b → Meets (image h) n w
      → Sim (image h) n (at h a (Plain y ∷ Plain x ∷ st) env order w) (given (operate o x y) w) (tops h b st env)
  operator_sim o n a b st x y env order w has ok =
      valued h n a b (Operation.Apply o) (Plain y ∷ Plain x ∷ st) st env order w _ has refl (alike_given Plain (operate o x y) w) ok

  -- a call of a written method, whose arguments are on the stack
  call_written : (n : ℕ) → n ≤ h.n → (c b : ℕ) (o : ObjId) (number : ℕ) → IsDeclared (image h).source number → (op : Operation) (top st : List Operand) (vs : List Value) (env : Env) (order : List ObjId) (w : World)
      → b ≡ suc c → (target_or op (suc c) ≡ suc c) → Meets (image h) n w
      → Sim (image h) n (acted_at h c top env op (call_member (image h).program true (Plain (value.Ref o)) (Member.Written number) (map Plain vs) (work h st env) (heap h order w)) order w)
      (source.call (ctx h) (Callee.Written number) o vs w) (tops h b st env)
  call_written n le c b o number called op top st vs env order w next target ok =
      sim_need (slice_get (image h).source.methods number) w
      (λ d e. subst (λ z. Sim (image h) n (acted_at h c top env op (call_member (image h).program true (Plain (value.Ref o)) (Member.Written number) (map Plain vs) (work h st env) (heap h order w)) order w) (bind (meaning.method_arguments (image h).source d vs w) (λ arguments w1. h.does (Calls number o arguments) w1)) (tops h z st env)) (sym next)
      (sim_bind {k = λ vs1 w1 x. playing h.setting (enter (image h).program (call_of number (ref o) (map Plain vs1) true) (machine_of h.setting (Frame.Code (code_frame h (suc c) st env) ∷ h.frames) x.order w1)) w1.records}
      (acts h.setting n h.frames (code_frame h c top env) op order w (λ vs1. acted (silent (Next.Calls (call_of number (ref o) (map Plain vs1) true))) (work h st env)) _ (unseen_of h order)
      (alike_map _ (λ e1 s1. machine.Goes (acted e1 (work h st env)) s1)
      (alike_map (λ vs1. silent (Next.Calls (call_of number (ref o) (map Plain vs1) true))) (λ vs1 s1. machine.Goes (silent (Next.Calls (call_of number (ref o) vs1 true))) s1) (alike_guarded (length vs == length d.parameters) _ (λ same_count. prepared h.is number d vs w e same_count)) (λ v s1. refl))
      (λ v s1. refl))
      (λ v w1 rs. refl) (λ v w1. refl) ok)
      (λ vs1 w1 x ok1. law_of n le number called o vs1 x w1 ok1)))
    where
      law_of : (n : ℕ) → n ≤ h.n → (number : ℕ) → IsDeclared (image h).source number → (o : ObjId) (vs1 : List Value) (x : Unseen) (w1 : World) → Meets (image h) n w1
          → Sim (image h) n (playing h.setting (enter (image h).program (call_of number (ref o) (map Plain vs1) true) (machine_of h.setting (Frame.Code (code_frame h (suc c) st env) ∷ h.frames) x.order w1)) w1.records)
          (h.does (Calls number o vs1) w1) (tops h (suc c) st env)
      law_of n le number is_called o vs1 x w1 ok1 = h.law.methods n le number is_called o vs1 true (Frame.Code (code_frame h (suc c) st env) ∷ h.frames) x.order w1 ok1

  -- a call of a method of the catalog that gives its value at once
  call_catalog : (n c b : ℕ) (o : ObjId) (m : NativeMethod) (z : Object) (op : Operation) (top st : List Operand) (vs : List Value) (env : Env) (order : List ObjId) (w : World)
      → b ≡ suc c → target_or op (suc c) ≡ suc c → object_at w.objects o ≡ Some z → has_method (image h).program m z ≡ true → gives_at_once m ≡ true → Meets (image h) n w
      → Sim (image h) n (acted_at h c top env op (call_member (image h).program true (Plain (value.Ref o)) (Member.Catalog m) (map Plain vs) (work h st env) (heap h order w)) order w)
      (source.call (ctx h) (Callee.Catalog m) o vs w) (tops h b st env)
  call_catalog n c b o m z op top st vs env order w next target there_is able at_once ok =
      subst (λ y. Sim (image h) n (acted_at h c top env op (machine.mapped (finish true (work h st env)) y) order w) (source.call (ctx h) (Callee.Catalog m) o vs w) (tops h b st env))
      (sym (ap (λ y. machine.need y (heap h order w) (λ object. machine.bind (machine.test fault.WrongKind (has_method (image h).program m object) (heap h order w)) (λ _ h2. called h2))) (object_there (image h) order w o ∙ there_is)
      ∙ ap (λ t. machine.bind (machine.test fault.WrongKind t (heap h order w)) (λ _ h2. called h2)) able))
      (part_landed h.setting n h.frames (code_frame h c top env) op order w
      (λ y. machine.mapped (finish true (work h st env)) (machine.bind y (λ vs1 h3. natives.call_native true m o vs1 h3))) _
      (arguments_alike h.is (parameters_of m) vs w) (arguments_stay (image h).source (parameters_of m) vs w) (λ o1. refl)
      (λ vs1. answered_sim (native_answers (ctx h) true m at_once o vs1 w)))
    where
      called : Heap → machine.Result Reply
      called h2 = machine.bind (conversions.native_arguments (image h).program (parameters_of m) (map Plain vs) h2) (λ vs1 h3. natives.call_native true m o vs1 h3)

      answered_sim : {r : Result Value} {x : machine.Result Reply} → Answers (image h) order w r x → Sim (image h) n (acted_at h c top env op (machine.mapped (finish true (work h st env)) x) order w) r (tops h b st env)
      answered_sim {r} {x} a =
          subst (λ place. Sim (image h) n (acted_at h c top env op (machine.mapped (finish true (work h st env)) x) order w) r (tops h place st env)) (sym next)
          (acts h.setting n h.frames (code_frame h c top env) op order w (λ v. acted (effect Next.On a.item) (with_top (Plain v) (work h st env))) (tops h (suc c) st env) (unseen_of h order)
          (alike_mapped (finish true (work h st env)) a.alike)
          (λ v w1 rs. refl) (λ v w1. refl) ok)

  -- the same by the name of the method
  call_named : (n : ℕ) → n ≤ h.n → (c b count : ℕ) (name : List ℕ) (top st : List Operand) (v : Value) (vs : List Value) (env : Env) (order : List ObjId) (w : World)
      → b ≡ suc c → IsCallable (image h).source name → Meets (image h) n w
      → Sim (image h) n (acted_at h c top env (Operation.CallProperty true (member_name name) count) (machine.bind (found (image h).program (Plain v) (member_name name) (heap h order w)) (λ x s1. call_member (image h).program true (Plain v) x (map Plain vs) (work h st env) s1)) order w)
      (bind (receiver false v w) (λ o w4. bind (source.find_method (ctx h) o name w4) (λ x w5. source.call (ctx h) x o vs w5))) (tops h b st env)
  call_named n le c b count name top st (value.Ref o) vs env order w next never ok = seen_at (object_at w.objects o) refl
    where
      by_callee : (z : Object) (class : Class) → object_at w.objects o ≡ Some z → z.kind ≡ Instance_of class → (x : Option Callee) → callee (image h).source class name ≡ x
          → Sim (image h) n (acted_at h c top env (Operation.CallProperty true (member_name name) count) (machine.bind (found (image h).program (Plain (value.Ref o)) (member_name name) (heap h order w)) (λ y s1. call_member (image h).program true (Plain (value.Ref o)) y (map Plain vs) (work h st env) s1)) order w)
          (bind (need x w (λ y. Goes y w)) (λ y w5. source.call (ctx h) y o vs w5)) (tops h b st env)
      by_callee z class there_is kind None e = sim_stuck
      by_callee z class there_is kind (Some (Callee.Catalog x)) e =
          subst (λ y. Sim (image h) n (acted_at h c top env (Operation.CallProperty true (member_name name) count) (machine.bind y (λ x1 s1. call_member (image h).program true (Plain (value.Ref o)) x1 (map Plain vs) (work h st env) s1)) order w) (source.call (ctx h) (Callee.Catalog x) o vs w) (tops h b st env))
          (sym (found_there (image h) order w o z (member_name name) (Member.Catalog x) there_is (ap (λ k. kind_member (image h).program k (member_name name)) kind ∙ h.is.catalog class name x e)))
          (call_catalog n c b o x z (Operation.CallProperty true (member_name name) count) top st vs env order w next refl there_is (h.is.able class name x e z kind) (never class x e) ok)
      by_callee z class there_is kind (Some (Callee.Written number)) e =
          subst (λ y. Sim (image h) n (acted_at h c top env (Operation.CallProperty true (member_name name) count) (machine.bind y (λ x s1. call_member (image h).program true (Plain (value.Ref o)) x (map Plain vs) (work h st env) s1)) order w) (source.call (ctx h) (Callee.Written number) o vs w) (tops h b st env))
          (sym (found_there (image h) order w o z (member_name name) (Member.Written number) there_is (ap (λ k. kind_member (image h).program k (member_name name)) kind ∙ h.is.method class name number e)))
          (call_written n le c b o number (declared (image h).source class name number e) (Operation.CallProperty true (member_name name) count) top st vs env order w next refl ok)

      by_kind : (z : Object) → object_at w.objects o ≡ Some z → (k : Kind) → z.kind ≡ k
          → Sim (image h) n (acted_at h c top env (Operation.CallProperty true (member_name name) count) (machine.bind (found (image h).program (Plain (value.Ref o)) (member_name name) (heap h order w)) (λ y s1. call_member (image h).program true (Plain (value.Ref o)) y (map Plain vs) (work h st env) s1)) order w)
          (bind (need (class_of_kind k) w (λ class. need (callee (image h).source class name) w (λ x. Goes x w))) (λ x w5. source.call (ctx h) x o vs w5)) (tops h b st env)
      by_kind z there_is An_array kind = sim_stuck
      by_kind z there_is (Instance_of class) kind = by_callee z class there_is kind (callee (image h).source class name) refl

      seen_at : (x : Option Object) → object_at w.objects o ≡ x
          → Sim (image h) n (acted_at h c top env (Operation.CallProperty true (member_name name) count) (machine.bind (found (image h).program (Plain (value.Ref o)) (member_name name) (heap h order w)) (λ y s1. call_member (image h).program true (Plain (value.Ref o)) y (map Plain vs) (work h st env) s1)) order w)
          (bind (need x w (λ z. need (class_of_kind z.kind) w (λ class. need (callee (image h).source class name) w (λ y. Goes y w)))) (λ y w5. source.call (ctx h) y o vs w5)) (tops h b st env)
      seen_at None e = sim_stuck
      seen_at (Some z) e = by_kind z e z.kind refl
  call_named n le c b count name top st value.Null vs env order w next never ok = sim_halts refl refl
  call_named n le c b count name top st value.Undefined vs env order w next never ok = sim_halts refl refl
  call_named n le c b count name top st (value.Bool x) vs env order w next never ok = sim_stuck
  call_named n le c b count name top st (value.Int x) vs env order w next never ok = sim_stuck
  call_named n le c b count name top st (value.Text x) vs env order w next never ok = sim_stuck
  call_named n le c b count name top st (value.Listener x y) vs env order w next never ok = sim_stuck

  -- `super.name(..)`: the method that the base names runs on this object
  super_called : (n : ℕ) → n ≤ h.n → (c b count : ℕ) (base : Class) (name : List ℕ) (top st : List Operand) (vs : List Value) (env : Env) (order : List ObjId) (w : World)
      → b ≡ suc c → SuperAt (image h).program h.method (Some base) → IsWritten (image h).source base name → Meets (image h) n w
      → Sim (image h) n (acted_at h c top env (Operation.CallSuper (member_name name) count) (call_super (image h).program (member_name name) (Plain (value.Ref env.this)) (map Plain vs) (work h st env) (heap h order w)) order w)
      (need (callee (image h).source base name) w (λ m. source.call (ctx h) m env.this vs w)) (tops h b st env)
  super_called n le c b count base name top st vs env order w next there_is written ok = sim_need (callee (image h).source base name) w of_callee
    where
      calls : Member_module.Member → machine.Result (Acted Work)
      calls m = call_member (image h).program true (Plain (value.Ref env.this)) m (map Plain vs) (work h st env) (heap h order w)

      base_there : (z : Class) (number : ℕ) → callee (image h).source z name ≡ Some (Callee.Written number) → base_member (image h).program (StaticType.Object z) (member_name name) ≡ Some (Member.Written number)
      base_there (Class.File k) number e = h.is.method (Class.File k) name number e
      base_there (Class.Native z) number e = ap (λ y. or_else y (runtime_member z (member_name name))) (h.is.method (Class.Native z) name number e)

      found_base : (number : ℕ) → callee (image h).source base name ≡ Some (Callee.Written number)
          → call_super (image h).program (member_name name) (Plain (value.Ref env.this)) (map Plain vs) (work h st env) (heap h order w) ≡ calls (Member.Written number)
      found_base number e =
          ap (λ x. machine.bind (machine.or_fault fault.WrongKind x (heap h order w) (λ k. machine.need (slice_get (image h).program.classes k) (heap h order w) (λ class. machine.Goes class (heap h order w)))) (λ class h1. call_base (image h).program class.base (member_name name) (Plain (value.Ref env.this)) (map Plain vs) (work h st env) h1)) there_is.owner_is
          ∙ ap (λ x. machine.bind (machine.need x (heap h order w) (λ class. machine.Goes class (heap h order w))) (λ class h1. call_base (image h).program class.base (member_name name) (Plain (value.Ref env.this)) (map Plain vs) (work h st env) h1)) there_is.there
          ∙ ap (λ x. call_base (image h).program x (member_name name) (Plain (value.Ref env.this)) (map Plain vs) (work h st env) (heap h order w)) there_is.base_is
          ∙ ap (λ y. machine.or_fault fault.NoName y (heap h order w) calls) (base_there base number e)

      of_callee : (x : Callee) → callee (image h).source base name ≡ Some x
          → Sim (image h) n (acted_at h c top env (Operation.CallSuper (member_name name) count) (call_super (image h).program (member_name name) (Plain (value.Ref env.this)) (map Plain vs) (work h st env) (heap h order w)) order w)
          (source.call (ctx h) x env.this vs w) (tops h b st env)
      of_callee (Callee.Catalog m) e = absurd (written m e)
      of_callee (Callee.Written number) e =
          subst (λ y. Sim (image h) n (acted_at h c top env (Operation.CallSuper (member_name name) count) y order w) (source.call (ctx h) (Callee.Written number) env.this vs w) (tops h b st env)) (sym (found_base number e))
          (call_written n le c b env.this number (declared (image h).source base name number e) (Operation.CallSuper (member_name name) count) top st vs env order w next refl ok)

  -- a value that a call of the catalog gives at once
  replied : (n c b : ℕ) (op : Operation) (top st : List Operand) (env : Env) (order : List ObjId) (w : World) {r : Result Value} {x : machine.Result (Acted Work)} → b ≡ suc c → target_or op (suc c) ≡ suc c
      → Alike (image h) order w unrecorded (λ v. acted (silent Next.On) (with_top (Plain v) (work h st env))) r x → Meets (image h) n w
      → Sim (image h) n (acted_at h c top env op x order w) r (tops h b st env)
  replied n c b op top st env order w {r} {x} next target al ok =
      subst (λ z. Sim (image h) n (acted_at h c top env op x order w) r (tops h z st env)) (sym next)
      (acts h.setting n h.frames (code_frame h c top env) op order w (λ v. acted (silent Next.On) (with_top (Plain v) (work h st env))) (tops h (suc c) st env) (unseen_of h order) al
      (λ v w1 rs. refl) (λ v w1. refl) ok)

  -- an array's `push`, and its `pop`
  pushed_alike : (u v : Value) (st : List Operand) (env : Env) (order : List ObjId) (w : World)
      → Alike (image h) order w unrecorded (λ r. acted (silent Next.On) (with_top (Plain r) (work h st env))) (bind (receiver false u w) (λ a w1. arrays.push a v w1))
      (machine.bind (found (image h).program (Plain u) (public_name (codes "push")) (heap h order w)) (λ m s1. call_member (image h).program true (Plain u) m (Plain v ∷ []) (work h st env) s1))
  pushed_alike (value.Ref a) v st env order w = seen_at (object_at w.objects a) refl
    where
      finished : (y : machine.Result ℤ)
          → machine.mapped (finish true (work h st env)) (machine.bind y (λ i s2. gives (value.Int i) s2))
          ≡ machine.bind (machine.bind y (λ i s. machine.Goes (value.Int i) s)) (λ r s. machine.Goes (acted (silent Next.On) (with_top (Plain r) (work h st env))) s)
      finished (machine.Goes i s) = refl
      finished (machine.Halts o) = refl

      seen_at : (x : Option Object) → object_at w.objects a ≡ x
          → Alike (image h) order w unrecorded (λ r. acted (silent Next.On) (with_top (Plain r) (work h st env))) (arrays.push a v w)
          (machine.bind (found (image h).program (Plain (value.Ref a)) (public_name (codes "push")) (heap h order w)) (λ m s1. call_member (image h).program true (Plain (value.Ref a)) m (Plain v ∷ []) (work h st env) s1))
      seen_at None e =
          subst (λ y. Alike (image h) order w unrecorded (λ r. acted (silent Next.On) (with_top (Plain r) (work h st env))) (bind (need y w (λ d. guarded (is_array d) (λ w1. bind (arrays.room d w1) (λ _ w2. done (change_object a (with_last v) w2))) w)) (λ _ w1. arrays.array_length a w1))
          (machine.bind (found (image h).program (Plain (value.Ref a)) (public_name (codes "push")) (heap h order w)) (λ m s1. call_member (image h).program true (Plain (value.Ref a)) m (Plain v ∷ []) (work h st env) s1)))
          (sym e) alike_stuck
      seen_at (Some c) e = by (is_array c) refl
        where
          by : (b : Bool) → is_array c ≡ b
              → Alike (image h) order w unrecorded (λ r. acted (silent Next.On) (with_top (Plain r) (work h st env))) (arrays.push a v w)
              (machine.bind (found (image h).program (Plain (value.Ref a)) (public_name (codes "push")) (heap h order w)) (λ m s1. call_member (image h).program true (Plain (value.Ref a)) m (Plain v ∷ []) (work h st env) s1))
          by false is =
              subst (λ y. Alike (image h) order w unrecorded (λ r. acted (silent Next.On) (with_top (Plain r) (work h st env))) (bind (need y w (λ d. guarded (is_array d) (λ w1. bind (arrays.room d w1) (λ _ w2. done (change_object a (with_last v) w2))) w)) (λ _ w1. arrays.array_length a w1))
              (machine.bind (found (image h).program (Plain (value.Ref a)) (public_name (codes "push")) (heap h order w)) (λ m s1. call_member (image h).program true (Plain (value.Ref a)) m (Plain v ∷ []) (work h st env) s1)))
              (sym e)
              (subst (λ t. Alike (image h) order w unrecorded (λ r. acted (silent Next.On) (with_top (Plain r) (work h st env))) (bind (guarded t (λ w1. bind (arrays.room c w1) (λ _ w2. done (change_object a (with_last v) w2))) w) (λ _ w1. arrays.array_length a w1))
              (machine.bind (found (image h).program (Plain (value.Ref a)) (public_name (codes "push")) (heap h order w)) (λ m s1. call_member (image h).program true (Plain (value.Ref a)) m (Plain v ∷ []) (work h st env) s1)))
              (sym is) alike_stuck)
          by true is =
              alike_from
              (ap (λ y. machine.bind y (λ m s1. call_member (image h).program true (Plain (value.Ref a)) m (Plain v ∷ []) (work h st env) s1)) (array_member_found (image h) order w a c (public_name (codes "push")) Member.Push e is refl)
              ∙ ap (λ y. machine.mapped (finish true (work h st env)) (machine.bind y (λ _ s2. elements.push_one a (Plain v ∷ []) s2))) (array_there (image h) order w a c e is)
              ∙ finished (machine.staged (heap h order w) (stage_arrays.pushes a v (stage_of (image h) order w))))
              (alike_map (λ r. acted (silent Next.On) (with_top (Plain r) (work h st env))) (λ r s. machine.Goes (acted (silent Next.On) (with_top (Plain r) (work h st env))) s)
              (push_alike (image h) order a v w c e) (λ r s. refl))
  pushed_alike value.Null v st env order w = alike_halts (Stopped stop.NullReference) w
  pushed_alike value.Undefined v st env order w = alike_halts (Stopped stop.NullReference) w
  pushed_alike (value.Bool b) v st env order w = alike_stuck
  pushed_alike (value.Int n) v st env order w = alike_stuck
  pushed_alike (value.Text x) v st env order w = alike_stuck
  pushed_alike (value.Listener o k) v st env order w = alike_stuck

  popped_alike : (u : Value) (st : List Operand) (env : Env) (order : List ObjId) (w : World)
      → Alike (image h) order w unrecorded (λ r. acted (silent Next.On) (with_top (Plain r) (work h st env))) (bind (receiver false u w) (λ a w1. arrays.pop a w1))
      (machine.bind (found (image h).program (Plain u) (public_name (codes "pop")) (heap h order w)) (λ m s1. call_member (image h).program true (Plain u) m [] (work h st env) s1))
  popped_alike (value.Ref a) st env order w = seen_at (object_at w.objects a) refl
    where
      seen_at : (x : Option Object) → object_at w.objects a ≡ x
          → Alike (image h) order w unrecorded (λ r. acted (silent Next.On) (with_top (Plain r) (work h st env))) (need x w (λ d. guarded (is_array d) (λ w1. Goes (last_or_undefined d.elements) (change_object a without_last w1)) w))
          (machine.bind (found (image h).program (Plain (value.Ref a)) (public_name (codes "pop")) (heap h order w)) (λ m s1. call_member (image h).program true (Plain (value.Ref a)) m [] (work h st env) s1))
      seen_at None e = alike_stuck
      seen_at (Some c) e =
          alike_guarded (is_array c) _
          (λ is. alike_from
          (ap (λ y. machine.bind y (λ m s1. call_member (image h).program true (Plain (value.Ref a)) m [] (work h st env) s1)) (array_member_found (image h) order w a c (public_name (codes "pop")) Member.Pop e is refl)
          ∙ ap (λ y. machine.mapped (finish true (work h st env)) (machine.bind y (λ _ s2. elements.pop_one a [] s2))) (array_there (image h) order w a c e is))
          (alike_step (λ r. acted (silent Next.On) (with_top (Plain r) (work h st env))) (last_or_undefined c.elements) w (change_object a without_last w) _
          (ap (λ l. machine.Goes (acted (silent Next.On) (with_top (Plain (last_or_undefined l)) (work h st env))) (record (heap h order w) { stage = stage.change a without_last (stage_of (image h) order w) })) (elements_there (image h) order w a c e)
          ∙ ap (λ s. machine.Goes (acted (silent Next.On) (with_top (Plain (last_or_undefined c.elements)) (work h st env))) s) (sym (heap_changed (image h) order a without_last w pop_kept)))
          (record { level = refl; turns = refl; records = refl; holds = holds_changed (image h) a without_last w pop_kept })))
  popped_alike value.Null st env order w = alike_halts (Stopped stop.NullReference) w
  popped_alike value.Undefined st env order w = alike_halts (Stopped stop.NullReference) w
  popped_alike (value.Bool b) st env order w = alike_stuck
  popped_alike (value.Int n) st env order w = alike_stuck
  popped_alike (value.Text x) st env order w = alike_stuck
  popped_alike (value.Listener o k) st env order w = alike_stuck

  -- a method that is taken from an object
  method_alike : (name : List ℕ) (v : Value) (order : List ObjId) (w : World)
      → Alike (image h) order w unrecorded Plain (bind (receiver false v w) (λ o w1. bind (source.find_method (ctx h) o name w1) (λ m w2. source.method_value o m w2)))
      (property_at (image h).program (member_name name) (Plain v) (heap h order w))
  method_alike name (value.Ref o) order w = seen_at (object_at w.objects o) refl
    where
      by_callee : (z : Object) (class : Class) → object_at w.objects o ≡ Some z → z.kind ≡ Instance_of class → (x : Option Callee) → callee (image h).source class name ≡ x
          → Alike (image h) order w unrecorded Plain (bind (need x w (λ y. Goes y w)) (λ m w2. source.method_value o m w2)) (property_at (image h).program (member_name name) (Plain (value.Ref o)) (heap h order w))
      by_callee z class there_is kind None e = alike_stuck
      by_callee z class there_is kind (Some (Callee.Catalog x)) e = alike_stuck
      by_callee z class there_is kind (Some (Callee.Written number)) e =
          alike_from
          (ap (λ y. machine.bind y (λ x s1. properties.read (Plain (value.Ref o)) x s1))
          (found_there (image h) order w o z (member_name name) (Member.Written number) there_is (ap (λ k. kind_member (image h).program k (member_name name)) kind ∙ h.is.method class name number e)))
          (alike_goes Plain (value.Listener o number) w)

      by_kind : (z : Object) → object_at w.objects o ≡ Some z → (k : Kind) → z.kind ≡ k
          → Alike (image h) order w unrecorded Plain (bind (need (class_of_kind k) w (λ class. need (callee (image h).source class name) w (λ x. Goes x w))) (λ m w2. source.method_value o m w2)) (property_at (image h).program (member_name name) (Plain (value.Ref o)) (heap h order w))
      by_kind z there_is An_array kind = alike_stuck
      by_kind z there_is (Instance_of class) kind = by_callee z class there_is kind (callee (image h).source class name) refl

      seen_at : (x : Option Object) → object_at w.objects o ≡ x
          → Alike (image h) order w unrecorded Plain (bind (need x w (λ z. need (class_of_kind z.kind) w (λ class. need (callee (image h).source class name) w (λ y. Goes y w)))) (λ m w2. source.method_value o m w2)) (property_at (image h).program (member_name name) (Plain (value.Ref o)) (heap h order w))
      seen_at None e = alike_stuck
      seen_at (Some z) e = by_kind z e z.kind refl
  method_alike name value.Null order w = alike_halts (Stopped stop.NullReference) w
  method_alike name value.Undefined order w = alike_halts (Stopped stop.NullReference) w
  method_alike name (value.Bool b) order w = alike_stuck
  method_alike name (value.Int n) order w = alike_stuck
  method_alike name (value.Text x) order w = alike_stuck
  method_alike name (value.Listener o k) order w = alike_stuck

  -- an object of a class of the source is made
  made_sim : (n : ℕ) → n ≤ h.n → (c b k : ℕ) (op : Operation) (top st : List Operand) (vs : List Value) (env : Env) (order : List ObjId) (w : World) (class : SourceClass)
      → slice_get (image h).source.classes k ≡ Some class → b ≡ suc c → target_or op (suc c) ≡ suc c → Meets (image h) n w
      → Sim (image h) n (acted_at h c top env op (making.construct (image h).program (StaticType.Object (Class.File k)) (map Plain vs) (work h st env) (heap h order w)) order w)
      (bind (make (ctx h) (Class.File k) vs w) (λ o w2. Goes (value.Ref o) w2)) (tops h b st env)
  made_sim n le c b k op top st vs env order w class e next target ok =
      subst (λ y. Sim (image h) n (acted_at h c top env op (machine.mapped (making.with_made_object (image h).program (work h st env)) y) order w) (bind (make (ctx h) (Class.File k) vs w) (λ o w2. Goes (value.Ref o) w2)) (tops h b st env))
      (sym (ap (λ y. machine.need y (heap h order w) constructs) code.there))
      (subst (λ r. Sim (image h) n (acted_at h c top env op (machine.mapped (making.with_made_object (image h).program (work h st env)) (constructs code.of_file)) order w) r (tops h b st env)) in_steps
      (part_landed h.setting n h.frames (code_frame h c top env) op order w
      (λ y. machine.mapped (making.with_made_object (image h).program (work h st env)) (machine.bind y allocated)) _
      (constructor_prepared h.is (ctx h) refl k class e vs w) (constructor_stays (ctx h) (constructor_of (image h).source (Class.File k)) vs w) (λ o1. refl)
      (λ vs1. subst (λ place. Sim (image h) n (acted_at h c top env op (machine.mapped (making.with_made_object (image h).program (work h st env)) (allocated (map Plain vs1) (heap h order w))) order w)
      (bind (objects.allocate (image h).source (Class.File k) w) (λ o w2. bind (carry_out (ctx h) (Constructs k o vs1) w2) (λ _ w3. Goes (value.Ref o) w3))) (tops h place st env)) (sym next)
      (sim_bind_end {k = λ o w1 x. playing h.setting (enter (image h).program (call_of code.of_file.constructor (ref o) (map Plain vs1) false) (machine_of h.setting (Frame.Code (code_frame h (suc c) (ref o ∷ st) env) ∷ h.frames) x.order w1)) w1.records}
      (λ o w1. IsNew k o w1) (allocated_new (image h).source k w)
      (acts h.setting n h.frames (code_frame h c top env) op order w (λ o. acted (making.constructs (image h).program k code.of_file (map Plain vs1) o) (with_top (ref o) (work h st env))) _ (unseen_of h order)
      (alike_mapped (making.with_made_object (image h).program (work h st env)) (alike_map (λ o. acted (making.constructs (image h).program k code.of_file (map Plain vs1) o) o) (λ o h2. machine.Goes (acted (making.constructs (image h).program k code.of_file (map Plain vs1) o) o) h2) (allocate_alike h.is (Class.File k) (file_shape (image h).program k code.of_file) w shape) (λ o h2. refl)))
      (λ o w1 rs. refl) (λ o w1. refl) ok)
      (λ o w1 x new ok1. subst (λ r. Sim (image h) n (playing h.setting (enter (image h).program (call_of code.of_file.constructor (ref o) (map Plain vs1) false) (machine_of h.setting (Frame.Code (code_frame h (suc c) (ref o ∷ st) env) ∷ h.frames) x.order w1)) w1.records) r (tops h (suc c) st env)) (after_constructor o vs1 w1)
      (sim_bind (h.law.constructs k n le code.of_file code.there o vs1 (Frame.Code (code_frame h (suc c) (ref o ∷ st) env) ∷ h.frames) x.order w1 (λ _. new) ok1)
      (λ v w2 y ok2. sim_done {v = value.Ref o} {k = tops h (suc c) st env} y ok2)))))))
    where
      code : IsClassCode h.naming (labels h) (image h).source (image h).program k class
      code = h.is.code.classes k class e

      named : class_name (image h).source (Class.File k) ≡ Some class.name
      named = ap (option_map (λ (z : SourceClass). z.name)) e

      allocated : List Operand → Heap → machine.Result (Acted ObjId)
      allocated converted h1 = machine.bind (making.allocate_as (file_shape (image h).program k code.of_file) h1) (λ o h2. machine.Goes (acted (making.constructs (image h).program k code.of_file converted o) o) h2)

      constructs : FileClassRecord.FileClass → machine.Result (Acted ObjId)
      constructs f = machine.bind (prepare (image h).program f.constructor (map Plain vs) (heap h order w)) (λ converted h1. machine.bind (making.allocate_as (file_shape (image h).program k f) h1) (λ o h2. machine.Goes (acted (making.constructs (image h).program k f converted o) o) h2))

      shape : IsShape (image h) (Class.File k) (file_shape (image h).program k code.of_file)
      shape =
          let s = h.is.shapes (Class.File k) class.name named in
          subst (λ z. IsShape (image h) (Class.File k) z) (some_shape s.0 (file_shape (image h).program k code.of_file) (sym s.1.there ∙ ap (option_map (file_shape (image h).program k)) code.there)) s.1
        where
          some_shape : (x y : Shape) → Some x ≡ Some y → x ≡ y
          some_shape x y is = cc

      after_constructor : (o : ObjId) (vs1 : List Value) (w1 : World) → bind (h.does (Constructs k o vs1) w1) (λ v w3. Goes (value.Ref o) w3) ≡ bind (carry_out (ctx h) (Constructs k o vs1) w1) (λ _ w3. Goes (value.Ref o) w3)
      after_constructor o vs1 w1 = by (h.does (Constructs k o vs1) w1)
        where
          by : (r : Result Value) → bind r (λ v w3. Goes (value.Ref o) w3) ≡ bind (dropped r) (λ _ w3. Goes (value.Ref o) w3)
          by (Goes v w3) = refl
          by (Halts z w3) = refl
          by (Ends w3) = refl
          by (Stuck w3) = refl

      in_steps : bind (constructor_arguments (ctx h) (constructor_of (image h).source (Class.File k)) vs w) (λ vs1 w1. bind (objects.allocate (image h).source (Class.File k) w1) (λ o w2. bind (carry_out (ctx h) (Constructs k o vs1) w2) (λ _ w3. Goes (value.Ref o) w3)))
          ≡ bind (make (ctx h) (Class.File k) vs w) (λ o w2. Goes (value.Ref o) w2)
      in_steps = first (constructor_arguments (ctx h) (constructor_of (image h).source (Class.File k)) vs w)
        where
          third : (r : Result (Unit {0})) (o : ObjId) → bind r (λ _ w3. Goes (value.Ref o) w3) ≡ bind (bind r (λ _ w3. Goes o w3)) (λ o1 w4. Goes (value.Ref o1) w4)
          third (Goes v w3) o = refl
          third (Halts z w3) o = refl
          third (Ends w3) o = refl
          third (Stuck w3) o = refl

          second : (r : Result ObjId) (vs1 : List Value) → bind r (λ o w2. bind (carry_out (ctx h) (Constructs k o vs1) w2) (λ _ w3. Goes (value.Ref o) w3)) ≡ bind (bind r (λ o w2. bind (carry_out (ctx h) (Constructs k o vs1) w2) (λ _ w3. Goes o w3))) (λ o1 w4. Goes (value.Ref o1) w4)
          second (Goes o w2) vs1 = third (carry_out (ctx h) (Constructs k o vs1) w2) o
          second (Halts z w2) vs1 = refl
          second (Ends w2) vs1 = refl
          second (Stuck w2) vs1 = refl

          first : (r : Result (List Value)) → bind r (λ vs1 w1. bind (objects.allocate (image h).source (Class.File k) w1) (λ o w2. bind (carry_out (ctx h) (Constructs k o vs1) w2) (λ _ w3. Goes (value.Ref o) w3)))
              ≡ bind (bind r (λ vs1 w1. bind (objects.allocate (image h).source (Class.File k) w1) (λ o w2. bind (carry_out (ctx h) (Constructs k o vs1) w2) (λ _ w3. Goes o w3)))) (λ o w2. Goes (value.Ref o) w2)
          first (Goes vs1 w1) = second (objects.allocate (image h).source (Class.File k) w1) vs1
          first (Halts z w1) = refl
          first (Ends w1) = refl
          first (Stuck w1) = refl

  -- an object of a class of the catalog is made
  made_native_sim : (n c b : ℕ) (class : NativeClass) (op : Operation) (top st : List Operand) (vs : List Value) (env : Env) (order : List ObjId) (w : World)
      → b ≡ suc c → target_or op (suc c) ≡ suc c → Meets (image h) n w
      → Sim (image h) n (acted_at h c top env op (making.construct (image h).program (StaticType.Object (Class.Native class)) (map Plain vs) (work h st env) (heap h order w)) order w)
      (bind (make (ctx h) (Class.Native class) vs w) (λ o w2. Goes (value.Ref o) w2)) (tops h b st env)
  made_native_sim n c b class op top st vs env order w next target ok =
      sim_bind {k = λ o w1 x. at h (suc c) (Plain (value.Ref o) ∷ st) env x.order w1}
      (acts h.setting n h.frames (code_frame h c top env) op order w (λ o. acted (effect Next.On (making.made_item (image h).program (Class.Native class) o)) (with_top (ref o) (work h st env))) _ (unseen_of h order)
      (made_native_alike h.is (ctx h) refl class vs (work h st env) w) (λ o w1 rs. refl) (λ o w1. refl) ok)
      (λ o w1 x ok1. subst (λ place. Sim (image h) n (at h place (Plain (value.Ref o) ∷ st) env x.order w1) (Goes (value.Ref o) w1) (tops h b st env)) next (sim_done {v = value.Ref o} {k = tops h b st env} x ok1))

  -- the run of a binding ends: its method returns
  abbrev pub ending : Bool → Ending
  ending false = None
  ending true = Some (λ w x. playing h.setting (give_if h.keeps (Some undefined) (machine_of h.setting h.frames x.order (turns.leave w))) w.records)

  -- the method of a binding gives no value
  abbrev pub IsVoid : Bool → Type 0
  IsVoid own = own ≡ true → h.result ≡ None

  abbrev IsRef : Value → Type 0
  IsRef v = (o : ObjId) × (v ≡ value.Ref o)

  -- the method returns
  pub returns_sim : (n a b : ℕ) (st : List Operand) (env : Env) (order : List ObjId) (w : World) {A : Type 0} {k : Onward A} → h.result ≡ None → Has h (One Operation.ReturnVoid) a b → Meets (image h) n w
      → SimTo (image h) (ending true) n (at h a st env order w) (Ends w) k
  returns_sim n a b st env order w {A} {k} no_result has ok =
      let s = see_one h Operation.ReturnVoid a b has in
      sim_at h n a b Operation.ReturnVoid st env order w k s
      (subst (λ x. SimTo (image h) (ending true) n (acted_at h a st env Operation.ReturnVoid x order w) (Ends w) k) (sym returned)
      (record { comes = (unseen_of h order, comes_here (image h) _); keeps = ok }))
    where
      converts : StaticType → machine.Result (Acted Work)
      converts t = machine.bind (conversions.convert (image h).program t undefined (heap h order w)) (λ result h1. machine.Goes (acted (silent (Next.Close (Some result))) (work h st env)) h1)

      returned : act (image h).program Operation.ReturnVoid (work h st env) (heap h order w) ≡ machine.Goes (acted (silent (Next.Close (Some undefined))) (work h st env)) (heap h order w)
      returned =
          ap (λ x. machine.need x (heap h order w) (λ (method : FileMethod.Method). converts method.result)) h.own_there
          ∙ ap converts (h.result_is ∙ ap result_type no_result)

  -- a value is tested for null
  pub tested_sim : {A : Type 0} {e : Ending} (n a b : ℕ) (st : List Operand) (v : Value) (env : Env) (order : List ObjId) (w : World) {r : Result A} {k : Onward A} (t : Bool)
      → operate Operator.Equal v value.Null ≡ Ok (value.Bool t) → Has h Tested a b
      → ((c d : ℕ) → t ≡ true → Has h (One Operation.ReturnVoid) c d → SimTo (image h) e n (at h c (Plain v ∷ st) env order w) r k)
      → (t ≡ false → SimTo (image h) e n (at h b (Plain v ∷ st) env order w) r k)
      → SimTo (image h) e n (at h a (Plain v ∷ st) env order w) r k
  tested_sim {A} {e} n a b st v env order w {r} {k} t compares has stops on =
      let m0 = lies_mark h.naming h.code h.parts h.marks h.by _ a b has in
      let p1 = see_then h _ _ a b m0.1 in
      let p2 = see_then h _ _ p1.mid b p1.back in
      let p3 = see_then h _ _ p2.mid b p2.back in
      let p4 = see_then h _ _ p3.mid b p3.back in
      let p5 = see_then h _ _ p4.mid b p4.back in
      let here = lies_here h.naming h.code h.parts h.marks h.by m0.0 p5.mid b p5.back in
      let jump = subst (λ z. Sees h p3.mid (Operation.Branch false z) p4.mid) (here.1 ∙ here.0) (lies_goes h.naming h.code h.parts h.marks h.by branch.IfFalse m0.0 p3.mid p4.mid p4.front) in
      stacked h n a p1.mid Operation.Dup (Plain v ∷ st) (Plain v ∷ Plain v ∷ st) env order w refl p1.front
      (stacked h n p1.mid p2.mid (Operation.Push value.Null) (Plain v ∷ Plain v ∷ st) (Plain value.Null ∷ Plain v ∷ Plain v ∷ st) env order w refl p2.front
      (stacked h n p2.mid p3.mid (Operation.Apply Operator.Equal) (Plain value.Null ∷ Plain v ∷ Plain v ∷ st) (Plain (value.Bool t) ∷ Plain v ∷ st) env order w
      (ap (λ x. machine.bind (machine.bind (machine.given x (heap h order w)) (λ result h3. machine.Goes (Plain result) h3)) (λ result h1. pushes result (work h (Plain v ∷ st) env) h1)) compares) p3.front
      (by t p3.mid p4.mid jump (λ is. stops p4.mid p5.mid is p5.front) on)))
    where
      by : (t1 : Bool) (at_branch at_return : ℕ) → Sees h at_branch (Operation.Branch false b) at_return → (t1 ≡ true → SimTo (image h) e n (at h at_return (Plain v ∷ st) env order w) r k)
          → (t1 ≡ false → SimTo (image h) e n (at h b (Plain v ∷ st) env order w) r k) → SimTo (image h) e n (at h at_branch (Plain (value.Bool t1) ∷ Plain v ∷ st) env order w) r k
      by true at_branch at_return jump stops1 on1 = branches_false h n at_branch at_return b (Plain v ∷ st) (value.Bool true) env order w (λ w1. r) (λ w1. Stuck w1) jump (stops1 refl) sim_stuck
      by false at_branch at_return jump stops1 on1 = branches_false h n at_branch at_return b (Plain v ∷ st) (value.Bool false) env order w (λ w1. Stuck w1) (λ w1. r) jump sim_stuck (on1 refl)

  -- where an object lies whose part is used, and how its part is used
  record Reception (own : Bool) (P : Meant) (a b : ℕ) : Type 1 where
    mid : ℕ
    has : Has h P a mid
    passes :
        {A : Type 0} (n : ℕ) (st : List Operand) (v : Value) (env : Env) (order : List ObjId) (w : World) (f : ObjId → World → Result A) {k : Onward A} → Meets (image h) n w
        → Sim (image h) n (at h b (Plain v ∷ st) env order w) (bind (receiver false v w) f) k → SimTo (image h) (ending own) n (at h mid (Plain v ∷ st) env order w) (bind (receiver own v w) f) k
    tests :
        {A : Type 0} (n : ℕ) (st : List Operand) (v : Value) (env : Env) (order : List ObjId) (w : World) (g : World → Result A) {k : Onward A} → Meets (image h) n w
        → ((own ≡ true → IsRef v) → SimTo (image h) (ending own) n (at h b (Plain v ∷ st) env order w) (g w) k)
        → SimTo (image h) (ending own) n (at h mid (Plain v ∷ st) env order w) (bind (source.tested own v w) (λ _ w2. g w2)) k
    measures :
        (n : ℕ) (st : List Operand) (v : Value) (env : Env) (order : List ObjId) (w : World) {k : Onward Value} → Meets (image h) n w
        → Sim (image h) n (at h b (Plain v ∷ st) env order w) (source.length_value false v w) k → SimTo (image h) (ending own) n (at h mid (Plain v ∷ st) env order w) (source.length_value own v w) k

  received : (own : Bool) → IsVoid own → (P : Meant) (a b : ℕ) → Has h (Received own P) a b → Reception own P a b
  received false void P a b has =
      record {
        mid = b;
        has = has;
        passes = λ n st v env order w f ok s. s;
        tests = λ n st v env order w g ok s. s (λ e. absurd cc);
        measures = λ n st v env order w ok s. s;
      }
  received true void P a b has = record { mid = p.mid; has = p.front; passes = passes; tests = tests; measures = measures }
    where
      p : Two h.naming h.code h.parts h.marks h.by P Tested a b
      p = see_then h P Tested a b has

      is_null : {A : Type 0} (n : ℕ) (st : List Operand) (v : Value) (env : Env) (order : List ObjId) (w : World) {k : Onward A} → operate Operator.Equal v value.Null ≡ Ok (value.Bool true) → Meets (image h) n w
          → SimTo (image h) (ending true) n (at h p.mid (Plain v ∷ st) env order w) (Ends w) k
      is_null n st v env order w compares ok = tested_sim n p.mid b st v env order w true compares p.back (λ c d e returns. returns_sim n c d (Plain v ∷ st) env order w (void refl) returns ok) (λ e. absurd cc)

      isnt_null : {A : Type 0} (n : ℕ) (st : List Operand) (v : Value) (env : Env) (order : List ObjId) (w : World) {r : Result A} {k : Onward A} → operate Operator.Equal v value.Null ≡ Ok (value.Bool false) → Meets (image h) n w
          → SimTo (image h) (ending true) n (at h b (Plain v ∷ st) env order w) r k → SimTo (image h) (ending true) n (at h p.mid (Plain v ∷ st) env order w) r k
      isnt_null n st v env order w compares ok s = tested_sim n p.mid b st v env order w false compares p.back (λ c d e returns. absurd cc) (λ e. s)

      passes : {A : Type 0} (n : ℕ) (st : List Operand) (v : Value) (env : Env) (order : List ObjId) (w : World) (f : ObjId → World → Result A) {k : Onward A} → Meets (image h) n w
          → Sim (image h) n (at h b (Plain v ∷ st) env order w) (bind (receiver false v w) f) k → SimTo (image h) (ending true) n (at h p.mid (Plain v ∷ st) env order w) (bind (receiver true v w) f) k
      passes n st (value.Ref o) env order w f ok s = isnt_null n st (value.Ref o) env order w refl ok (sim_any s)
      passes n st value.Null env order w f ok s = is_null n st value.Null env order w refl ok
      passes n st value.Undefined env order w f ok s = is_null n st value.Undefined env order w refl ok
      passes n st (value.Bool x) env order w f ok s = sim_stuck
      passes n st (value.Int x) env order w f ok s = sim_stuck
      passes n st (value.Text x) env order w f ok s = sim_stuck
      passes n st (value.Listener x y) env order w f ok s = sim_stuck

      tests : {A : Type 0} (n : ℕ) (st : List Operand) (v : Value) (env : Env) (order : List ObjId) (w : World) (g : World → Result A) {k : Onward A} → Meets (image h) n w
          → ((true ≡ true → IsRef v) → SimTo (image h) (ending true) n (at h b (Plain v ∷ st) env order w) (g w) k)
          → SimTo (image h) (ending true) n (at h p.mid (Plain v ∷ st) env order w) (bind (source.tested true v w) (λ _ w2. g w2)) k
      tests n st (value.Ref o) env order w g ok s = isnt_null n st (value.Ref o) env order w refl ok (s (λ e. (o, refl)))
      tests n st value.Null env order w g ok s = is_null n st value.Null env order w refl ok
      tests n st value.Undefined env order w g ok s = is_null n st value.Undefined env order w refl ok
      tests n st (value.Bool x) env order w g ok s = sim_stuck
      tests n st (value.Int x) env order w g ok s = sim_stuck
      tests n st (value.Text x) env order w g ok s = sim_stuck
      tests n st (value.Listener x y) env order w g ok s = sim_stuck

      measures : (n : ℕ) (st : List Operand) (v : Value) (env : Env) (order : List ObjId) (w : World) {k : Onward Value} → Meets (image h) n w
          → Sim (image h) n (at h b (Plain v ∷ st) env order w) (source.length_value false v w) k → SimTo (image h) (ending true) n (at h p.mid (Plain v ∷ st) env order w) (source.length_value true v w) k
      measures n st (value.Text x) env order w ok s = isnt_null n st (value.Text x) env order w refl ok (sim_any s)
      measures n st (value.Ref o) env order w ok s = isnt_null n st (value.Ref o) env order w refl ok (sim_any s)
      measures n st value.Null env order w ok s = is_null n st value.Null env order w refl ok
      measures n st value.Undefined env order w ok s = is_null n st value.Undefined env order w refl ok
      measures n st (value.Bool x) env order w ok s = sim_stuck
      measures n st (value.Int x) env order w ok s = sim_stuck
      measures n st (value.Listener x y) env order w ok s = sim_stuck

  -- what was tested is received in either way
  received_same : {A : Type 0} {n : ℕ} {c : Playing} (own : Bool) (v : Value) → (own ≡ true → IsRef v) → (w : World) (f : ObjId → World → Result A) {k : Onward A}
      → SimTo (image h) (ending own) n c (bind (receiver false v w) f) k → SimTo (image h) (ending own) n c (bind (receiver own v w) f) k
  received_same false v ref_there w f s = s
  received_same {A} {n} {c} true v ref_there w f {k} s =
      let r = ref_there refl in
      subst (λ u. SimTo (image h) (ending true) n c (bind (receiver true u w) f) k) (sym r.1) (subst (λ u. SimTo (image h) (ending true) n c (bind (receiver false u w) f) k) r.1 s)

  mutual
    pub value_sim : (own : Bool) → IsVoid own → (e : Expr) → IsPlain (image h).source h.supers e → (n : ℕ) → n ≤ h.n → (a b : ℕ) (st : List Operand) (env : Env) (order : List ObjId) (w : World) → Has h (IsExprCode (labels h) own e) a b
        → Meets (image h) n w → SimTo (image h) (ending own) n (at h a st env order w) (eval (ctx h) own e env w) (tops h b st env)
    value_sim own void (Expr.Constant l) plain n le a b st env order w has ok = sim_any (pushed h n a b (Operation.Push (literal_value l)) st (literal_value l) env order w refl has ok)
    value_sim own void Expr.This plain n le a b st env order w has ok = sim_any (pushed h n a b (Operation.GetLocal 0) st (value.Ref env.this) env order w refl has ok)
    value_sim own void (Expr.Local i) plain n le a b st env order w has ok =
        sim_need (slice_get env.locals i) w
        (λ v e. sim_any (pushed h n a b (Operation.GetLocal (suc i)) st v env order w
        (ap (λ o. machine.need o (heap h order w) (λ x. pushes x (work h st env) (heap h order w))) (there env.locals h.rest i v e)) has ok))
    value_sim own void (Expr.Property e name) plain n le a b st env order w has ok =
        let p1 = see_then h _ _ a b has in
        let t = received own void (IsExprCode (labels h) own e) a p1.mid p1.front in
        sim_bind (value_sim own void e plain n le a t.mid st env order w t.has ok)
        (λ v w1 x ok1. t.passes n st v env x.order w1 _ ok1
        (valued h n p1.mid b (Operation.GetProperty (member_name name)) (Plain v ∷ st) st env x.order w1 _ p1.back refl (read_alike h.is v name w1 ok1.holds) ok1))
    value_sim own void (Expr.Call e name es) plain n le a b st env order w has ok =
        let p1 = see_then h _ _ a b has in
        let p2 = see_then h _ _ p1.mid b p1.back in
        let s = see_one h (Operation.CallProperty true (member_name name) (count_of es)) p2.mid b p2.back in
        let t = received own void (IsExprCode (labels h) own e) a p1.mid p1.front in
        sim_bind (value_sim own void e plain.0 n le a t.mid st env order w t.has ok)
        (λ v w1 x ok1. t.tests n st v env x.order w1 _ ok1
        (λ ref_there. sim_bind_with {k = λ vs w2 y. at h p2.mid (push_all vs (Plain v ∷ st)) env y.order w2} (λ vs. length vs ≡ count_of es) (counted_all (ctx h) own es env w1)
        (values_sim own void es plain.1 n le p1.mid p2.mid (Plain v ∷ st) env x.order w1 p2.front ok1)
        (λ vs w2 y count ok2. received_same own v ref_there w2 _
        (sim_at h n p2.mid b (Operation.CallProperty true (member_name name) (count_of es)) (push_all vs (Plain v ∷ st)) env y.order w2 (tops h b st env) s
        (subst (λ z. SimTo (image h) (ending own) n (acted_at h p2.mid (push_all vs (Plain v ∷ st)) env (Operation.CallProperty true (member_name name) (count_of es)) z y.order w2) (bind (receiver false v w2) (λ o w4. bind (source.find_method (ctx h) o name w4) (λ x w5. source.call (ctx h) x o vs w5))) (tops h b st env))
        (sym (all_taken vs (count_of es) (Plain v ∷ st) (work h (push_all vs (Plain v ∷ st)) env) (heap h y.order w2) _ count))
        (sim_any (call_named n le p2.mid b (count_of es) name (push_all vs (Plain v ∷ st)) st v vs env y.order w2 s.next plain.2 ok2)))))))
    value_sim own void (Expr.Convert t e) plain n le a b st env order w has ok =
        let p1 = see_then h _ _ a b has in
        sim_bind (value_sim own void e plain n le a p1.mid st env order w p1.front ok)
        (λ v w1 x ok1. sim_any (converts_sim t n p1.mid b st v env x.order w1 p1.back ok1))
    value_sim own void (Expr.To_text e) plain n le a b st env order w has ok =
        let p1 = see_then h _ _ a b has in
        sim_bind (value_sim own void e plain n le a p1.mid st env order w p1.front ok)
        (λ v w1 x ok1. sim_any (valued h n p1.mid b Operation.ToText (Plain v ∷ st) st env x.order w1 _ p1.back refl (texted (to_text v) x.order w1) ok1))
      where
        texted : (o : Computed (List ℕ) Stop) (order1 : List ObjId) (w1 : World)
            → Alike (image h) order1 w1 unrecorded Plain (bind (given o w1) (λ text w2. Goes (value.Text text) w2)) (machine.bind (machine.given o (heap h order1 w1)) (λ text s2. machine.Goes (Plain (value.Text text)) s2))
        texted (Ok v) order1 w1 = alike_goes Plain (value.Text v) w1
        texted (Err c) order1 w1 = alike_halts (Stopped c) w1
    value_sim own void (Expr.Negate e) plain n le a b st env order w has ok =
        let p1 = see_then h _ _ a b has in
        sim_bind (value_sim own void e plain n le a p1.mid st env order w p1.front ok)
        (λ v w1 x ok1. sim_any (valued h n p1.mid b Operation.Negate (Plain v ∷ st) st env x.order w1 _ p1.back refl (alike_given Plain (negated v) w1) ok1))
    value_sim own void (Expr.Not e) plain n le a b st env order w has ok =
        let p1 = see_then h _ _ a b has in
        sim_bind (value_sim own void e plain n le a p1.mid st env order w p1.front ok)
        (λ v w1 x ok1. sim_any (valued h n p1.mid b Operation.Not (Plain v ∷ st) st env x.order w1 (machine.Goes (Plain (value.Bool (not (to_bool v)))) (heap h x.order w1)) p1.back refl (alike_goes Plain (value.Bool (not (to_bool v))) w1) ok1))
    value_sim own void (Expr.Apply o x y) plain n le a b st env order w has ok =
        let p1 = see_then h _ _ a b has in
        let p2 = see_then h _ _ p1.mid b p1.back in
        sim_bind (value_sim own void x plain.0 n le a p1.mid st env order w p1.front ok)
        (λ u w1 z ok1. sim_bind (value_sim own void y plain.1 n le p1.mid p2.mid (Plain u ∷ st) env z.order w1 p2.front ok1)
        (λ v w2 z2 ok2. sim_any (operator_sim o n p2.mid b st u v env z2.order w2 p2.back ok2)))
    value_sim own void (Expr.And x y) plain n le a b st env order w has ok =
        let p1 = see_then h _ _ a b has in
        let s = lies_short h.naming h.code h.parts h.marks h.by branch.IfFalse _ p1.mid b p1.back in
        sim_bind (value_sim own void x plain.0 n le a p1.mid st env order w p1.front ok)
        (λ v w1 z ok1. sim_at h n p1.mid s.test Operation.Dup (Plain v ∷ st) env z.order w1 (tops h b st env) s.twice
        (subst (λ c. SimTo (image h) (ending own) n (at h c (Plain v ∷ Plain v ∷ st) env z.order w1) (choose (to_bool v) (eval (ctx h) own y env) (Goes v) w1) (tops h b st env)) s.twice.next
        (branches_false h n s.test s.off b (Plain v ∷ st) v env z.order w1 (eval (ctx h) own y env) (Goes v) s.jump
        (sim_at h n s.off s.start Operation.Pop (Plain v ∷ st) env z.order w1 (tops h b st env) s.drop
        (subst (λ c. SimTo (image h) (ending own) n (at h c st env z.order w1) (eval (ctx h) own y env w1) (tops h b st env)) s.drop.next (value_sim own void y plain.1 n le s.start b st env z.order w1 s.other ok1)))
        (sim_done {k = tops h b st env} z ok1))))
    value_sim own void (Expr.Or x y) plain n le a b st env order w has ok =
        let p1 = see_then h _ _ a b has in
        let s = lies_short h.naming h.code h.parts h.marks h.by branch.IfTrue _ p1.mid b p1.back in
        sim_bind (value_sim own void x plain.0 n le a p1.mid st env order w p1.front ok)
        (λ v w1 z ok1. sim_at h n p1.mid s.test Operation.Dup (Plain v ∷ st) env z.order w1 (tops h b st env) s.twice
        (subst (λ c. SimTo (image h) (ending own) n (at h c (Plain v ∷ Plain v ∷ st) env z.order w1) (choose (to_bool v) (Goes v) (eval (ctx h) own y env) w1) (tops h b st env)) s.twice.next
        (branches_true h n s.test s.off b (Plain v ∷ st) v env z.order w1 (Goes v) (eval (ctx h) own y env) s.jump
        (sim_done {k = tops h b st env} z ok1)
        (sim_at h n s.off s.start Operation.Pop (Plain v ∷ st) env z.order w1 (tops h b st env) s.drop
        (subst (λ c. SimTo (image h) (ending own) n (at h c st env z.order w1) (eval (ctx h) own y env w1) (tops h b st env)) s.drop.next (value_sim own void y plain.1 n le s.start b st env z.order w1 s.other ok1))))))
    value_sim own void (Expr.Choose z x y t) plain n le a b st env order w has ok =
        let p1 = see_then h _ _ a b has in
        let p2 = see_then h _ _ p1.mid b p1.back in
        let s = lies_either h.naming h.code h.parts h.marks h.by _ _ p1.mid p2.mid p2.front in
        sim_bind (value_sim own void z plain.0 n le a p1.mid st env order w p1.front ok)
        (λ v w1 u ok1. sim_bind {k = tops h p2.mid st env}
        (branches_false h n p1.mid s.first s.second st v env u.order w1 (eval (ctx h) own x env) (eval (ctx h) own y env) s.jump
        (sim_extend (value_sim own void x plain.1 n le s.first s.mid st env u.order w1 s.one ok1) (λ u1 w2 y1. (y1, jumps h s.mid p2.mid s.second (Plain u1 ∷ st) env y1.order w2 s.over)))
        (value_sim own void y plain.2 n le s.second p2.mid st env u.order w1 s.two ok1))
        (λ u1 w2 y1 ok2. sim_any (converts_sim t n p2.mid b st u1 env y1.order w2 p2.back ok2)))
    value_sim own void (Expr.Length e) plain n le a b st env order w has ok =
        let p1 = see_then h _ _ a b has in
        let t = received own void (IsExprCode (labels h) own e) a p1.mid p1.front in
        sim_bind (value_sim own void e plain n le a t.mid st env order w t.has ok)
        (λ v w1 x ok1. t.measures n st v env x.order w1 ok1
        (valued h n p1.mid b (Operation.GetProperty (public_name (codes "length"))) (Plain v ∷ st) st env x.order w1 _ p1.back refl (length_alike (image h) x.order v w1) ok1))
    value_sim own void (Expr.Element x y) plain n le a b st env order w has ok =
        let p1 = see_then h _ _ a b has in
        let p2 = see_then h _ _ p1.mid b p1.back in
        let t = received own void (IsExprCode (labels h) own x) a p1.mid p1.front in
        sim_bind (value_sim own void x plain.0 n le a t.mid st env order w t.has ok)
        (λ u w1 z ok1. t.tests n st u env z.order w1 _ ok1
        (λ ref_there. sim_bind (value_sim own void y plain.1 n le p1.mid p2.mid (Plain u ∷ st) env z.order w1 p2.front ok1)
        (λ i w2 z2 ok2. received_same own u ref_there w2 _
        (sim_any (valued h n p2.mid b Operation.GetElement (Plain i ∷ Plain u ∷ st) st env z2.order w2 _ p2.back refl (element_alike (image h) z2.order u i w2) ok2)))))
    value_sim own void (Expr.Items es) plain n le a b st env order w has ok =
        let p1 = see_then h _ _ a b has in
        sim_bind_with {k = λ vs w1 y. at h p1.mid (push_all vs st) env y.order w1} (λ vs. length vs ≡ count_of es) (counted_all (ctx h) own es env w)
        (values_sim own void es plain n le a p1.mid st env order w p1.front ok)
        (λ vs w1 y count ok1. sim_any (valued h n p1.mid b (Operation.NewArray (count_of es)) (push_all vs st) st env y.order w1
        (machine.bind (making.new_array vs (heap h y.order w1)) (λ o s. machine.Goes (ref o) s)) p1.back
        (all_taken vs (count_of es) st (work h (push_all vs st) env) (heap h y.order w1) _ count
        ∙ ap (λ z. machine.bind z (λ elements s1. machine.bind (making.new_array elements s1) (λ o s2. pushes (ref o) (work h st env) s2))) (all_plain_are vs (heap h y.order w1))
        ∙ sym (mapped_then ref (making.new_array vs (heap h y.order w1)) (λ o s2. pushes o (work h st env) s2)))
        (alike_bind (λ o s. machine.Goes (ref o) s) (new_array_alike vs w1) (λ o w2 r. alike_goes Plain (value.Ref o) w2)) ok1))
    value_sim own void (Expr.Method_of e name) plain n le a b st env order w has ok =
        let p1 = see_then h _ _ a b has in
        let t = received own void (IsExprCode (labels h) own e) a p1.mid p1.front in
        sim_bind (value_sim own void e plain n le a t.mid st env order w t.has ok)
        (λ v w1 x ok1. t.passes n st v env x.order w1 _ ok1
        (valued h n p1.mid b (Operation.GetProperty (member_name name)) (Plain v ∷ st) st env x.order w1 _ p1.back refl (method_alike name v x.order w1) ok1))
    value_sim own void (Expr.Push x y) plain n le a b st env order w has ok =
        let p1 = see_then h _ _ a b has in
        let p2 = see_then h _ _ p1.mid b p1.back in
        let s = see_one h (Operation.CallProperty true (public_name (codes "push")) 1) p2.mid b p2.back in
        let t = received own void (IsExprCode (labels h) own x) a p1.mid p1.front in
        sim_bind (value_sim own void x plain.0 n le a t.mid st env order w t.has ok)
        (λ u w1 z ok1. t.tests n st u env z.order w1 _ ok1
        (λ ref_there. sim_bind (value_sim own void y plain.1 n le p1.mid p2.mid (Plain u ∷ st) env z.order w1 p2.front ok1)
        (λ v w2 z2 ok2. received_same own u ref_there w2 _
        (sim_at h n p2.mid b (Operation.CallProperty true (public_name (codes "push")) 1) (Plain v ∷ Plain u ∷ st) env z2.order w2 (tops h b st env) s
        (sim_any (replied n p2.mid b (Operation.CallProperty true (public_name (codes "push")) 1) (Plain v ∷ Plain u ∷ st) st env z2.order w2 s.next refl (pushed_alike u v st env z2.order w2) ok2))))))
    value_sim own void (Expr.Pop x) plain n le a b st env order w has ok =
        let p1 = see_then h _ _ a b has in
        let s = see_one h (Operation.CallProperty true (public_name (codes "pop")) 0) p1.mid b p1.back in
        let t = received own void (IsExprCode (labels h) own x) a p1.mid p1.front in
        sim_bind (value_sim own void x plain n le a t.mid st env order w t.has ok)
        (λ u w1 z ok1. t.passes n st u env z.order w1 _ ok1
        (sim_at h n p1.mid b (Operation.CallProperty true (public_name (codes "pop")) 0) (Plain u ∷ st) env z.order w1 (tops h b st env) s
        (replied n p1.mid b (Operation.CallProperty true (public_name (codes "pop")) 0) (Plain u ∷ st) st env z.order w1 s.next refl (popped_alike u st env z.order w1) ok1)))
    value_sim own void (Expr.Call_super base name es) plain n le a b st env order w has ok =
        let p1 = see_then h _ _ a b has in
        let p2 = see_then h _ _ p1.mid b p1.back in
        let s = see_one h (Operation.CallSuper (member_name name) (count_of es)) p2.mid b p2.back in
        sim_bind_with {r = Goes (value.Ref env.this) w} {f = λ this w1. eval (ctx h) own (Expr.Call_super base name es) env w1} (λ this. this ≡ value.Ref env.this) refl
        (sim_any (pushed h n a p1.mid (Operation.GetLocal 0) st (value.Ref env.this) env order w refl p1.front ok))
        (λ this w0 y0 is ok0. subst (λ z. SimTo (image h) (ending own) n (at h p1.mid (Plain z ∷ st) env y0.order w0) (eval (ctx h) own (Expr.Call_super base name es) env w0) (tops h b st env)) (sym is)
        (sim_bind_with {k = λ vs w1 y. at h p2.mid (push_all vs (Plain (value.Ref env.this) ∷ st)) env y.order w1} (λ vs. length vs ≡ count_of es) (counted_all (ctx h) own es env w0)
        (values_sim own void es plain.2 n le p1.mid p2.mid (Plain (value.Ref env.this) ∷ st) env y0.order w0 p2.front ok0)
        (λ vs w1 y count ok1. sim_at h n p2.mid b (Operation.CallSuper (member_name name) (count_of es)) (push_all vs (Plain (value.Ref env.this) ∷ st)) env y.order w1 (tops h b st env) s
        (subst (λ z. SimTo (image h) (ending own) n (acted_at h p2.mid (push_all vs (Plain (value.Ref env.this) ∷ st)) env (Operation.CallSuper (member_name name) (count_of es)) z y.order w1) (need (callee (image h).source base name) w1 (λ m. source.call (ctx h) m env.this vs w1)) (tops h b st env))
        (sym (all_taken vs (count_of es) (Plain (value.Ref env.this) ∷ st) (work h (push_all vs (Plain (value.Ref env.this) ∷ st)) env) (heap h y.order w1) _ count))
        (sim_any (super_called n le p2.mid b (count_of es) base name (push_all vs (Plain (value.Ref env.this) ∷ st)) st vs env y.order w1 s.next (h.super_at (Some base) plain.0) plain.1 ok1))))))
    value_sim own void (Expr.New (Class.Native class) es) plain n le a b st env order w has ok =
        let p1 = see_then h _ _ a b has in
        let p2 = see_then h _ _ p1.mid b p1.back in
        let s = see_one h (Operation.FindProperty ((labels h).class_name (Class.Native class))) a p1.mid p1.front in
        let s2 = see_one h (Operation.ConstructProperty ((labels h).class_name (Class.Native class)) (count_of es)) p2.mid b p2.back in
        let at_class = h.is.native_at class in
        sim_at h n a p1.mid (Operation.FindProperty ((labels h).class_name (Class.Native class))) st env order w (tops h b st env) s
        (subst (λ y. SimTo (image h) (ending own) n (acted_at h a st env (Operation.FindProperty ((labels h).class_name (Class.Native class))) (machine.bind y (λ holder h1. pushes holder (work h st env) h1)) order w) (eval (ctx h) own (Expr.New (Class.Native class) es) env w) (tops h b st env))
        (sym (at_class.1.looked_up (work h st env) (heap h order w) refl refl refl))
        (subst (λ c. SimTo (image h) (ending own) n (at h c (at_class.0 ∷ st) env order w) (eval (ctx h) own (Expr.New (Class.Native class) es) env w) (tops h b st env)) s.next
        (sim_bind_with {k = λ vs w1 y. at h p2.mid (push_all vs (at_class.0 ∷ st)) env y.order w1} (λ vs. length vs ≡ count_of es) (counted_all (ctx h) own es env w)
        (values_sim own void es plain n le p1.mid p2.mid (at_class.0 ∷ st) env order w p2.front ok)
        (λ vs w1 y count ok1. sim_at h n p2.mid b (Operation.ConstructProperty ((labels h).class_name (Class.Native class)) (count_of es)) (push_all vs (at_class.0 ∷ st)) env y.order w1 (tops h b st env) s2
        (subst (λ z. SimTo (image h) (ending own) n (acted_at h p2.mid (push_all vs (at_class.0 ∷ st)) env (Operation.ConstructProperty ((labels h).class_name (Class.Native class)) (count_of es)) z y.order w1) (bind (make (ctx h) (Class.Native class) vs w1) (λ o w2. Goes (value.Ref o) w2)) (tops h b st env))
        (sym (all_taken vs (count_of es) (at_class.0 ∷ st) (work h (push_all vs (at_class.0 ∷ st)) env) (heap h y.order w1) _ count ∙ ap (λ z. machine.bind z (λ class h1. construct_value (image h).program class (map Plain vs) (work h st env) h1)) (at_class.1.read (heap h y.order w1) refl refl)))
        (sim_any (made_native_sim n p2.mid b class (Operation.ConstructProperty ((labels h).class_name (Class.Native class)) (count_of es)) (push_all vs (at_class.0 ∷ st)) st vs env y.order w1 s2.next refl ok1)))))))
    value_sim own void (Expr.New (Class.File k) es) plain n le a b st env order w has ok =
        let p1 = see_then h _ _ a b has in
        let p2 = see_then h _ _ p1.mid b p1.back in
        let s = see_one h (Operation.FindProperty ((labels h).class_name (Class.File k))) a p1.mid p1.front in
        let s2 = see_one h (Operation.ConstructProperty ((labels h).class_name (Class.File k)) (count_of es)) p2.mid b p2.back in
        let cl = some_there (slice_get (image h).source.classes k) plain.1 in
        let named : class_name (image h).source (Class.File k) ≡ Some cl.0.name = ap (option_map (λ (z : SourceClass). z.name)) cl.1 in
        let at_class = h.is.class_at k cl.0 cl.1 in
        sim_at h n a p1.mid (Operation.FindProperty ((labels h).class_name (Class.File k))) st env order w (tops h b st env) s
        (subst (λ y. SimTo (image h) (ending own) n (acted_at h a st env (Operation.FindProperty ((labels h).class_name (Class.File k))) (machine.bind y (λ holder h1. pushes holder (work h st env) h1)) order w) (eval (ctx h) own (Expr.New (Class.File k) es) env w) (tops h b st env))
        (sym (at_class.1.looked_up (work h st env) (heap h order w) refl refl refl))
        (subst (λ c. SimTo (image h) (ending own) n (at h c (at_class.0 ∷ st) env order w) (eval (ctx h) own (Expr.New (Class.File k) es) env w) (tops h b st env)) s.next
        (sim_bind_with {k = λ vs w1 y. at h p2.mid (push_all vs (at_class.0 ∷ st)) env y.order w1} (λ vs. length vs ≡ count_of es) (counted_all (ctx h) own es env w)
        (values_sim own void es plain.0 n le p1.mid p2.mid (at_class.0 ∷ st) env order w p2.front ok)
        (λ vs w1 y count ok1. sim_at h n p2.mid b (Operation.ConstructProperty ((labels h).class_name (Class.File k)) (count_of es)) (push_all vs (at_class.0 ∷ st)) env y.order w1 (tops h b st env) s2
        (subst (λ z. SimTo (image h) (ending own) n (acted_at h p2.mid (push_all vs (at_class.0 ∷ st)) env (Operation.ConstructProperty ((labels h).class_name (Class.File k)) (count_of es)) z y.order w1) (bind (make (ctx h) (Class.File k) vs w1) (λ o w2. Goes (value.Ref o) w2)) (tops h b st env))
        (sym (all_taken vs (count_of es) (at_class.0 ∷ st) (work h (push_all vs (at_class.0 ∷ st)) env) (heap h y.order w1) _ count ∙ ap (λ z. machine.bind z (λ class h1. construct_value (image h).program class (map Plain vs) (work h st env) h1)) (at_class.1.read (heap h y.order w1) refl refl)))
        (sim_any (made_sim n le p2.mid b k (Operation.ConstructProperty ((labels h).class_name (Class.File k)) (count_of es)) (push_all vs (at_class.0 ∷ st)) st vs env y.order w1 cl.0 cl.1 s2.next refl ok1)))))))

    pub values_sim : (own : Bool) → IsVoid own → (es : Exprs) → ArePlain (image h).source h.supers es → (n : ℕ) → n ≤ h.n → (a b : ℕ) (st : List Operand) (env : Env) (order : List ObjId) (w : World) → Has h (AreExprsCode (labels h) own es) a b
        → Meets (image h) n w → SimTo (image h) (ending own) n (at h a st env order w) (eval_all (ctx h) own es env w) (λ vs w1 x. at h b (push_all vs st) env x.order w1)
    values_sim own void NoExpr plain n le a b st env order w has ok =
        subst (λ c. SimTo (image h) (ending own) n (at h a st env order w) (Goes [] w) (λ vs w1 x. at h c (push_all vs st) env x.order w1)) (lies_nothing h.naming h.code h.parts h.marks h.by a b has)
        (sim_done {k = λ vs w1 x. at h a (push_all vs st) env x.order w1} (unseen_of h order) ok)
    values_sim own void (MoreExpr e es) plain n le a b st env order w has ok =
        let p1 = see_then h _ _ a b has in
        sim_bind (value_sim own void e plain.0 n le a p1.mid st env order w p1.front ok)
        (λ v w1 x ok1. sim_bind (values_sim own void es plain.1 n le p1.mid b (Plain v ∷ st) env x.order w1 p1.back ok1)
        (λ vs w2 y ok2. sim_done {v = v ∷ vs} {k = λ us w3 z. at h b (push_all us st) env z.order w3} y ok2))

  none_void : IsVoid false
  none_void e = absurd cc

  -- in code of no binding's own expression
  pub eval_sim : (e : Expr) → IsPlain (image h).source h.supers e → (n : ℕ) → n ≤ h.n → (a b : ℕ) (st : List Operand) (env : Env) (order : List ObjId) (w : World) → Has h (IsExprCode (labels h) false e) a b
      → Meets (image h) n w → Sim (image h) n (at h a st env order w) (eval (ctx h) false e env w) (tops h b st env)
  eval_sim e plain n le a b st env order w has ok = value_sim false none_void e plain n le a b st env order w has ok

  pub all_sim : (es : Exprs) → ArePlain (image h).source h.supers es → (n : ℕ) → n ≤ h.n → (a b : ℕ) (st : List Operand) (env : Env) (order : List ObjId) (w : World) → Has h (AreExprsCode (labels h) false es) a b
      → Meets (image h) n w → Sim (image h) n (at h a st env order w) (eval_all (ctx h) false es env w) (λ vs w1 x. at h b (push_all vs st) env x.order w1)
  all_sim es plain n le a b st env order w has ok = values_sim false none_void es plain n le a b st env order w has ok

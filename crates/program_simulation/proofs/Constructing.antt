-- The constructors of classes without a document do what they mean.
use Rattle.std.proofs.Common.{◌≡◌, refl, sym, ap, ◌∙◌, subst, arith}
use Rattle.std.specs.Prelude.{Bool, List, None, Option, Some, [], false, length, map, not, option_and_then, option_map, replicate, slice_get, suc, true, ℕ, ◌++◌, ◌+◌, ◌-◌, ◌==◌, ◌∷◌, ◌≤◌}
use Rattle.flex_base.specs.declared.outcome.MachineFault.TheVariants as fault
use Rattle.flex_base.specs.declared.value.ObjId.{ObjId}
use Rattle.flex_base.specs.declared.value.Value.TheVariants as value
use Rattle.flex_base.specs.declared.value.Value.{Value}
use Rattle.flex_world.specs.declared.kind.Class.{Class}
use Rattle.flex_world.specs.declared.kind.StaticType.{StaticType}
use Rattle.flex_world.specs.Making.{start_of_type}
use Rattle.flex_program.specs.Program.{Constructor, Document, Expr, Method, SourceClass, Variable}
use Rattle.flex_meaning.specs.Activities.{Constructs, Context, Does, carry_out}
use Rattle.flex_meaning.specs.Expressions.{Env, eval}
use Rattle.flex_meaning.specs.Results.{Ends, Goes, Halts, Result, Stuck, bind, choose, done, dropped, each, guarded, need}
use Rattle.flex_meaning.specs.Statements.{Breaks, Continues, Falls, Flow, Returns, exec_all, first_env, returned, run}
use Rattle.flex_meaning.specs.Tasks.{construct_class, construct_numbered, construct_unless_super, context, perform, run_constructor, build_if_document, register_document, start_variable, without_value}
use Rattle.flex_meaning.specs.Turns as turns
use Rattle.flex_meaning.specs.World.{World}
use Rattle.flex_meaning.specs.Writes.{assign}
use Rattle.program_code.specs.Code.{beyond, local_count}
use Rattle.program_code.specs.Code.{IsBlockCode, IsExprCode}
use Rattle.program_code.specs.Constructors.{IsBaseCode, IsBaseUnlessSuper, IsConstructorCode, IsVariableCode, IsWrittenCode, method_of}
use Rattle.program_code.specs.Documents.{AreStatesCode, IsBuildingCall}
use Rattle.program_code.specs.Names.{member_name}
use Rattle.program_code.specs.Program.{IsClassCode, constructor_locals, constructor_types}
use Rattle.program_code.specs.Shapes.{All, Nothing, One, Perhaps, Then, When}
use Rattle.program_code.specs.Shapes.{Meant}
use Rattle.program_simulation.proofs.Assigning.{assign_sim}
use Rattle.program_simulation.proofs.Bodies.{Has, Here, SuperAt, acted_at, at, code_frame, heap, image, labels, pushed, raw, see_one, see_then, sim_at, work}
use Rattle.program_simulation.proofs.Expressions.{eval_sim, some_there}
use Rattle.program_simulation.proofs.Flows.{Fits, FlowFits, block_fits}
use Rattle.program_simulation.proofs.Follows.{Onward, comes_here, length_mapped, sim_bind, sim_bind_with, sim_done, sim_extend, sim_from, sim_stuck}
use Rattle.program_simulation.proofs.Making.{no_document_there}
use Rattle.program_simulation.proofs.Methods.{activity_sim, blank_after, blanks, starts}
use Rattle.program_simulation.proofs.Ordered.{same_number}
use Rattle.program_simulation.proofs.Place.{hold_from, lies_here, lies_mark, lies_nothing}
use Rattle.program_simulation.proofs.Statements.{bind_later, block_sim, gives_back, lands}
use Rattle.program_simulation.specs.Following.{Meets, Sim, Unseen}
use Rattle.program_simulation.specs.Image.{IsImage}
use Rattle.program_simulation.specs.Laws.{ConstructorsRun, DocumentsRun, HasPlainClasses, IsPlain, IsPlainBase, IsPlainClass, Law, TakesNothing}
use Rattle.program_simulation.specs.Stands.{Setting, heap_of, machine_of, playing, playing_of}
use Rattle.avm2_program.specs.Naming.{Naming}
use Rattle.avm2_program.specs.declared.method.Body as FileBody
use Rattle.avm2_program.specs.declared.class.FileClass as FileClassRecord
use Rattle.avm2_program.specs.declared.method.Method as FileMethod
use Rattle.avm2_program.specs.declared.operation.Operation.TheVariants as Operation
use Rattle.avm2_meaning.specs.Apply.{enter, open_body, open_call}
use Rattle.avm2_meaning.specs.Calls.{call_of, prepare}
use Rattle.avm2_meaning.specs.Conversions as conversions
use Rattle.avm2_meaning.specs.Effects.{acted, silent}
use Rattle.avm2_meaning.specs.declared.effect.Next.{Next}
use Rattle.avm2_meaning.specs.declared.frame.Frame.{Frame}
use Rattle.avm2_meaning.specs.Invoking.{call_written, construct_base, construct_super}
use Rattle.avm2_meaning.specs.Operands.{ref, undefined}
use Rattle.avm2_meaning.specs.declared.operand.Operand.{Operand}
use Rattle.avm2_meaning.specs.declared.operand.Operand.TheVariants.{Plain}
use Rattle.avm2_meaning.specs.Results as machine
use Rattle.avm2_meaning.specs.Trace.{Playing}

module _ (t : Setting) {g : Naming} (is : IsImage g t.image) (n : ℕ) (does : Does) (law : Law t n does) (number : ℕ) (class : SourceClass) (there : slice_get t.image.source.classes number ≡ Some class) (plain : IsPlainClass t.image.source class) (fs : List Frame) (o : ObjId) where
  abbrev code : IsClassCode g t.image.labels t.image.source t.image.program number class
  code = is.code.classes number class there

  abbrev its_super : SuperAt t.image.program code.of_file.constructor class.base
  its_super = record {
    number = number;
    class = code.of_file;
    owner_is = code.owned;
    there = code.there;
    base_is = code.base_is;
  }

  -- the constructor with these locals behind so many variables
  abbrev here : List Operand → ℕ → Here
  here rest width = record {
    setting = t;
    naming = g;
    is = is;
    n = n;
    does = does;
    law = law;
    method = code.of_file.constructor;
    code = code.constructor.body.code;
    fetched = λ place. ap (λ y. option_and_then (λ (b : FileBody.Body). slice_get b.code place) (option_and_then (λ (z : FileMethod.Method). z.body) y)) code.constructor.there ∙ ap (option_and_then (λ (b : FileBody.Body). slice_get b.code place)) code.constructor.has;
    parts = code.constructor.code.parts;
    marks = code.constructor.code.marks;
    by = code.constructor.code.by;
    keeps = false;
    frames = fs;
    rest = rest;
    this = o;
    width = width;
    own = code.constructor.method;
    own_there = code.constructor.there;
    result = None;
    result_is = code.constructor.result_is;
    supers = Some class.base;
    super_at = λ base e. subst (λ b. SuperAt t.image.program code.of_file.constructor b) (same_base class.base base e) its_super;
  }
    where
      same_base : (a b : Option Class) → Some a ≡ Some b → a ≡ b
      same_base a b e = cc

  abbrev no_variables : Env
  no_variables = record { this = o; locals = [] }

  -- the body without variables
  abbrev bare : List Operand → ℕ → List ObjId → World → Playing
  bare rest place order w = at (here rest 0) place [] no_variables order w

  abbrev stays_bare : List Operand → ℕ → Onward (Unit {0})
  stays_bare rest place u w x = bare rest place x.order w

  -- the variables start in order
  variable_sim : (rest : List Operand) (v : Variable) (start : Option Expr) → ((e : Expr) → start ≡ Some e → IsPlain t.image.source (Some class.base) e) → (m : ℕ) → m ≤ n → (a b : ℕ) (order : List ObjId) (w : World)
      → Has (here rest 0) (Perhaps (λ e. Then (One (Operation.GetLocal 0)) (Then (IsExprCode t.image.labels false e) (One (Operation.SetProperty (member_name v.name))))) start) a b → Meets t.image m w
      → Sim t.image m (bare rest a order w) (start_variable (context t.image.source n does) o v.name start w) (stays_bare rest b)
  variable_sim rest v None ok_start m le a b order w has ok =
      subst (λ c. Sim t.image m (bare rest a order w) (done w) (stays_bare rest c)) (lies_nothing g code.constructor.body.code code.constructor.code.parts code.constructor.code.marks code.constructor.code.by a b has) (sim_done {v = tt} {k = stays_bare rest a} (record { order = order; locals = [] }) ok)
  variable_sim rest v (Some e) ok_start m le a b order w has ok =
      let p1 = see_then (here rest 0) _ _ a b has in
      let p2 = see_then (here rest 0) _ _ p1.mid b p1.back in
      let s = see_one (here rest 0) (Operation.SetProperty (member_name v.name)) p2.mid b p2.back in
      sim_bind_with {r = Goes (value.Ref o) w} {f = λ this w1. bind (eval (context t.image.source n does) false e no_variables w1) (λ x w2. assign (context t.image.source n does) o v.name x w2)} (λ this. this ≡ value.Ref o) refl
      (pushed (here rest 0) m a p1.mid (Operation.GetLocal 0) [] (value.Ref o) no_variables order w refl p1.front ok)
      (λ this w1 y is_this ok1. subst (λ z. Sim t.image m (at (here rest 0) p1.mid (Plain z ∷ []) no_variables y.order w1) (bind (eval (context t.image.source n does) false e no_variables w1) (λ x w2. assign (context t.image.source n does) o v.name x w2)) (stays_bare rest b)) (sym is_this)
      (sim_bind (eval_sim (here rest 0) e (ok_start e refl) m le p1.mid p2.mid (Plain (value.Ref o) ∷ []) no_variables y.order w1 p2.front ok1)
      (λ x w2 y2 ok2. sim_at (here rest 0) m p2.mid b (Operation.SetProperty (member_name v.name)) (Plain x ∷ Plain (value.Ref o) ∷ []) no_variables y2.order w2 (stays_bare rest b) s
      (subst (λ place. Sim t.image m (Rattle.program_simulation.proofs.Bodies.acted_at (here rest 0) p2.mid (Plain x ∷ Plain (value.Ref o) ∷ []) no_variables (Operation.SetProperty (member_name v.name)) (Rattle.avm2_meaning.specs.Act.act t.image.program (Operation.SetProperty (member_name v.name)) (work (here rest 0) (Plain x ∷ Plain (value.Ref o) ∷ []) no_variables) (heap (here rest 0) y2.order w2)) y2.order w2) (assign (context t.image.source n does) o v.name x w2) (stays_bare rest place)) (sym s.next)
      (assign_sim (here rest 0) m le p2.mid v.name (Plain x ∷ Plain (value.Ref o) ∷ []) [] (value.Ref o) x no_variables y2.order w2 ok2)))))

  variables_sim : (rest : List Operand) (vs : List Variable) → ((i : ℕ) (v : Variable) (e : Expr) → slice_get vs i ≡ Some v → v.start ≡ Some e → IsPlain t.image.source (Some class.base) e) → (m : ℕ) → m ≤ n → (a b : ℕ) (order : List ObjId) (w : World)
      → Has (here rest 0) (All (IsVariableCode t.image.labels) vs) a b → Meets t.image m w
      → Sim t.image m (bare rest a order w) (each (λ v. start_variable (context t.image.source n does) o v.name v.start) vs w) (stays_bare rest b)
  variables_sim rest [] ok_vs m le a b order w has ok =
      subst (λ c. Sim t.image m (bare rest a order w) (done w) (stays_bare rest c)) (lies_nothing g code.constructor.body.code code.constructor.code.parts code.constructor.code.marks code.constructor.code.by a b has) (sim_done {v = tt} {k = stays_bare rest a} (record { order = order; locals = [] }) ok)
  variables_sim rest (v ∷ vs) ok_vs m le a b order w has ok =
      let p = see_then (here rest 0) _ _ a b has in
      sim_bind (variable_sim rest v v.start (λ e is_start. ok_vs 0 v e refl is_start) m le a p.mid order w p.front ok)
      (λ u w1 x ok1. variables_sim rest vs (λ i v1 e is_v is_start. ok_vs (suc i) v1 e is_v is_start) m le p.mid b x.order w1 p.back ok1)

  -- the constructor of the base runs, where no `super(..)` is written
  base_sim : (rest : List Operand) → IsPlainBase t.image.source class.base → (m : ℕ) → m ≤ n → (a b : ℕ) (order : List ObjId) (w : World) → Has (here rest 0) (IsBaseCode class.base) a b → Meets t.image m w
      → Sim t.image m (bare rest a order w) (construct_unless_super (context t.image.source n does) class.base o w) (stays_bare rest b)
  base_sim rest can m le a b order w has ok = of_base class.base refl can has
    where
      of_base : (base : Option Class) → class.base ≡ base → IsPlainBase t.image.source base → Has (here rest 0) (IsBaseCode base) a b
          → Sim t.image m (bare rest a order w) (construct_unless_super (context t.image.source n does) base o w) (stays_bare rest b)
      of_base None e can1 has1 = subst (λ c. Sim t.image m (bare rest a order w) (done w) (stays_bare rest c)) (lies_nothing g code.constructor.body.code code.constructor.code.parts code.constructor.code.marks code.constructor.code.by a b has1) (sim_done {v = tt} {k = stays_bare rest a} (record { order = order; locals = [] }) ok)
      of_base (Some (Class.Native native)) e can1 has1 = subst (λ c. Sim t.image m (bare rest a order w) (done w) (stays_bare rest c)) (lies_nothing g code.constructor.body.code code.constructor.code.parts code.constructor.code.marks code.constructor.code.by a b has1) (sim_done {v = tt} {k = stays_bare rest a} (record { order = order; locals = [] }) ok)
      of_base (Some (Class.File k)) e can1 has1 =
          let p1 = see_then (here rest 0) _ _ a b has1 in
          let s = see_one (here rest 0) (Operation.ConstructSuper 0) p1.mid b p1.back in
          let cl = some_there (slice_get t.image.source.classes k) can1.0 in
          let base_code = is.code.classes k cl.0 cl.1 in
          sim_bind_with {r = Goes (value.Ref o) w} {f = λ this w1. carry_out (context t.image.source n does) (Constructs k o []) w1} (λ this. this ≡ value.Ref o) refl
          (pushed (here rest 0) m a p1.mid (Operation.GetLocal 0) [] (value.Ref o) no_variables order w refl p1.front ok)
          (λ this w1 y is_this ok1. subst (λ z. Sim t.image m (at (here rest 0) p1.mid (Plain z ∷ []) no_variables y.order w1) (carry_out (context t.image.source n does) (Constructs k o []) w1) (stays_bare rest b)) (sym is_this)
          (sim_at (here rest 0) m p1.mid b (Operation.ConstructSuper 0) (Plain (value.Ref o) ∷ []) no_variables y.order w1 (stays_bare rest b) s
          (subst (λ x. Sim t.image m (acted_at (here rest 0) p1.mid (Plain (value.Ref o) ∷ []) no_variables (Operation.ConstructSuper 0) x y.order w1) (carry_out (context t.image.source n does) (Constructs k o []) w1) (stays_bare rest b)) (sym (base_calls k e cl.0 cl.1 (no_types k cl.0 cl.1 can1.2) y.order w1))
          (sim_bind (law.constructs k m le base_code.of_file base_code.there o [] (Frame.Code (code_frame (here rest 0) (suc p1.mid) [] no_variables) ∷ fs) y.order w1 (no_document_there t.image.source k o w1 can1.1) ok1)
          (λ v w2 x ok2. subst (λ place. Sim t.image m (bare rest place x.order w2) (done w2) (stays_bare rest b)) s.next (sim_done {v = tt} {k = stays_bare rest b} x ok2))))))
        where
          no_types : (k1 : ℕ) (cl : SourceClass) → slice_get t.image.source.classes k1 ≡ Some cl → TakesNothing t.image.source k1 → constructor_types (method_of t.image.labels t.image.source cl) ≡ []
          no_types k1 cl is_cl takes = by cl.constructor refl
            where
              by_method : (ctor : Constructor) → cl.constructor ≡ Some ctor → (z : Option Method) → slice_get t.image.source.methods ctor.method ≡ z → constructor_types z ≡ []
              by_method ctor is_ctor None is_z = refl
              by_method ctor is_ctor (Some z) is_z = takes cl ctor z is_cl is_ctor is_z

              by : (x : Option Constructor) → cl.constructor ≡ x → constructor_types (option_and_then (λ (c : Constructor). slice_get t.image.source.methods c.method) x) ≡ []
              by None is_x = refl
              by (Some ctor) is_x = by_method ctor is_x (slice_get t.image.source.methods ctor.method) refl

          base_calls : (k1 : ℕ) → class.base ≡ Some (Class.File k1) → (cl : SourceClass) (is_cl : slice_get t.image.source.classes k1 ≡ Some cl) → constructor_types (method_of t.image.labels t.image.source cl) ≡ [] → (order1 : List ObjId) (w1 : World)
              → construct_super t.image.program (Plain (value.Ref o)) [] (work (here rest 0) [] no_variables) (heap_of t.image order1 w1)
              ≡ machine.Goes (acted (silent (Next.Calls (call_of (is.code.classes k1 cl is_cl).of_file.constructor (ref o) [] false))) (work (here rest 0) [] no_variables)) (heap_of t.image order1 w1)
          base_calls k1 is_base cl is_cl none order1 w1 =
              ap (λ x. machine.bind (machine.or_fault fault.WrongKind x (heap_of t.image order1 w1) (λ k2. machine.need (slice_get t.image.program.classes k2) (heap_of t.image order1 w1) (λ z. machine.Goes z (heap_of t.image order1 w1)))) (λ z h1. construct_base t.image.program z.base (Plain (value.Ref o)) [] (work (here rest 0) [] no_variables) h1)) its_super.owner_is
              ∙ ap (λ x. machine.bind (machine.need x (heap_of t.image order1 w1) (λ z. machine.Goes z (heap_of t.image order1 w1))) (λ z h1. construct_base t.image.program z.base (Plain (value.Ref o)) [] (work (here rest 0) [] no_variables) h1)) its_super.there
              ∙ ap (λ x. construct_base t.image.program x (Plain (value.Ref o)) [] (work (here rest 0) [] no_variables) (heap_of t.image order1 w1)) (its_super.base_is ∙ ap (option_map StaticType.Object) is_base)
              ∙ ap (λ x. machine.need x (heap_of t.image order1 w1) (λ z. call_written t.image.program z.constructor (Plain (value.Ref o)) [] false (work (here rest 0) [] no_variables) (heap_of t.image order1 w1))) (is.code.classes k1 cl is_cl).there
              ∙ ap (λ x. machine.bind (machine.bind x (λ converted h1. machine.Goes (silent (Next.Calls (call_of (is.code.classes k1 cl is_cl).of_file.constructor (ref o) converted false))) h1)) (λ e1 h1. machine.Goes (acted e1 (work (here rest 0) [] no_variables)) h1)) nothing_taken
            where
              takes : List StaticType → machine.Result (List Operand)
              takes ts = machine.bind (machine.test fault.WrongCount (0 == length ts) (heap_of t.image order1 w1)) (λ _ h1. conversions.convert_all t.image.program ts [] h1)

              nothing_taken : prepare t.image.program (is.code.classes k1 cl is_cl).of_file.constructor [] (heap_of t.image order1 w1) ≡ machine.Goes [] (heap_of t.image order1 w1)
              nothing_taken =
                  ap (λ y. machine.need y (heap_of t.image order1 w1) (λ (z : FileMethod.Method). machine.or_fault fault.NotHere z.body (heap_of t.image order1 w1) (λ _. takes z.parameters))) (is.code.classes k1 cl is_cl).constructor.there
                  ∙ ap (λ y. machine.or_fault fault.NotHere y (heap_of t.image order1 w1) (λ _. takes (is.code.classes k1 cl is_cl).constructor.method.parameters)) (is.code.classes k1 cl is_cl).constructor.has
                  ∙ ap takes ((is.code.classes k1 cl is_cl).constructor.parameters_are ∙ none)

  -- the constructor returns
  tail_sim : (rest : List Operand) (m a b : ℕ) (order : List ObjId) (w : World) → Has (here rest 0) (One Operation.ReturnVoid) a b → Meets t.image m w
      → Sim t.image m (bare rest a order w) (Goes value.Undefined (turns.leave w)) (λ v w1 x. playing_of t fs x.order w1)
  tail_sim rest m a b order w has ok =
      let s = gives_back (here rest 0) m a b Operation.ReturnVoid [] value.Undefined no_variables order w (record { out = a; again = a; over = None }) [] (work (here rest 0) [] no_variables) refl refl has ok in
      record { comes = (s.comes.0, s.comes.1); keeps = record { turns = ok.turns; holds = record { fields = ok.holds.fields } } }

  -- the written statements run, and the body goes on behind them with whatever variables
  written_sim : (rest : List Operand) (vs : List Value) (constructor : Constructor) → class.constructor ≡ Some constructor → (d : Method) → slice_get t.image.source.methods constructor.method ≡ Some d
      → rest ≡ map Plain vs ++ replicate (code.constructor.body.locals - 1 - length (map Plain vs)) undefined
      → (m : ℕ) → m ≤ n → (a b : ℕ) (order : List ObjId) (w : World) → Has (here rest 0) (IsWrittenCode t.image.labels d) a b → Meets t.image m w
      → Sim t.image m (bare rest a order w) (dropped (run (context t.image.source n does) d o vs w)) (λ u w1 x. bare x.locals b x.order w1)
  written_sim rest vs constructor is_constructor d is_d rest_is m le a b order w has ok = counts (length vs == length d.parameters) refl
    where
      fixed : List Operand
      fixed = undefined ∷ undefined ∷ []

      width : ℕ
      width = length d.parameters + length d.locals

      lands_bare : ℕ → Onward (Unit {0})
      lands_bare b1 u w1 x = bare x.locals b1 x.order w1

      width_of : code.constructor.body.locals ≡ local_count d
      width_of = code.constructor.locals_are ∙ ap constructor_locals (ap (option_and_then (λ (z : Constructor). slice_get t.image.source.methods z.method)) is_constructor ∙ is_d)

      -- the variables of the body, before they start
      as_variables : length vs ≡ length d.parameters → bare rest a order w ≡ at (here fixed width) a [] (record { this = o; locals = vs ++ blanks (length d.locals) }) order w
      as_variables len =
          ap (λ l. bare l a order w) (rest_is ∙ ap (λ j. map Plain vs ++ replicate j undefined) many ∙ sym (blank_after vs (length d.locals)))
        where
          many : code.constructor.body.locals - 1 - length (map Plain vs) ≡ suc (suc (length d.locals))
          many = let e = length_mapped Plain vs in omega (arith, width_of, e, len)

      none : d.result ≡ None
      none = (plain.written constructor d is_constructor is_d).0

      length_joined : (xs ys : List Value) → length (xs ++ ys) ≡ length xs + length ys
      length_joined [] ys = omega arith
      length_joined (y ∷ xs) ys = let e = length_joined xs ys in omega (arith, e)

      -- behind the statements
      over : (fl : Flow) (w1 : World) (x : Unseen) → FlowFits o width fl → Meets t.image m w1
          → Sim t.image m (lands (here fixed width) b (record { out = b; again = b; over = Some b }) [] fl w1 x) (dropped (returned (context t.image.source n does) None fl w1)) (lands_bare b)
      over (Falls env) w1 x fits ok1 =
          subst (λ z. Sim t.image m (playing_of t (Frame.Code (record { place = b; work = record { method = code.of_file.constructor; stack = []; scopes = []; locals = Plain (value.Ref z) ∷ map Plain env.locals ++ fixed }; is_activity = true; keeps = false }) ∷ fs) x.order w1) (done w1) (lands_bare b)) (sym fits.this_is)
          (sim_done {v = tt} {k = lands_bare b} (record { order = x.order; locals = map Plain env.locals ++ fixed }) ok1)
      over (Breaks env) w1 x fits ok1 = sim_stuck
      over (Continues env) w1 x fits ok1 = sim_stuck
      over (Returns v) w1 x fits ok1 = sim_done {v = tt} {k = lands_bare b} x ok1

      runs : length vs ≡ length d.parameters → Sim t.image m (at (here fixed width) a [] (record { this = o; locals = vs ++ blanks (length d.locals) }) order w)
          (dropped (bind (exec_all (context t.image.source n does) None d.body (first_env d o vs) w) (returned (context t.image.source n does) None))) (lands_bare b)
      runs len =
          let m0 = lies_mark g code.constructor.body.code code.constructor.code.parts code.constructor.code.marks code.constructor.code.by _ a b has in
          let p1 = see_then (here fixed width) _ _ a b m0.1 in
          let p2 = see_then (here fixed width) _ _ a p1.mid p1.front in
          let h1 = lies_here g code.constructor.body.code code.constructor.code.parts code.constructor.code.marks code.constructor.code.by m0.0 p1.mid b p1.back in
          let to_end : code.constructor.code.marks m0.0 ≡ b = h1.1 ∙ h1.0 in
          let fits : Fits o width (first_env d o vs) = record { this_is = refl; width_is = (let e = length_joined vs (map start_of_type d.locals) in let e2 = length_mapped start_of_type d.locals in omega (arith, e, e2, len)) } in
          sim_from (starts (here fixed width) d.locals vs (suc (length d.parameters)) a p2.mid o order w (ap suc (sym len)) p2.front)
          (subst (λ r. Sim t.image m (at (here fixed width) p2.mid [] (first_env d o vs) order w) r (lands_bare b)) (sym (bind_later (exec_all (context t.image.source n does) None d.body (first_env d o vs) w) (returned (context t.image.source n does) None) (λ _ w1. done w1)))
          (sim_bind_with (FlowFits o width) (block_fits o width (context t.image.source n does) None d.body (first_env d o vs) w fits)
          (block_sim (here fixed width) refl d.body (plain.written constructor d is_constructor is_d).1 (record { out = m0.0; again = m0.0; over = Some m0.0 }) m le p2.mid b (record { out = b; again = b; over = Some b }) [] (first_env d o vs) order w fits
          (record { out = to_end; again = to_end; over = ap Some to_end; no_result = λ e. refl }) (subst (λ z. Has (here fixed width) (IsBlockCode t.image.labels (beyond d) d.body (record { out = m0.0; again = m0.0; over = Some m0.0 })) p2.mid z) h1.0 p2.back) ok)
          (λ fl w1 x fits1 ok1. over fl w1 x fits1 ok1)))

      counts : (c : Bool) → (length vs == length d.parameters) ≡ c
          → Sim t.image m (bare rest a order w) (dropped (guarded c (λ w1. bind (exec_all (context t.image.source n does) d.result d.body (first_env d o vs) w1) (returned (context t.image.source n does) d.result)) w)) (lands_bare b)
      counts false e = sim_stuck
      counts true e =
          let len = same_number (length vs) (length d.parameters) e in
          subst (λ r. Sim t.image m (bare rest a order w) (dropped (bind (exec_all (context t.image.source n does) r d.body (first_env d o vs) w) (returned (context t.image.source n does) r))) (lands_bare b)) (sym none)
          (subst (λ c. Sim t.image m c (dropped (bind (exec_all (context t.image.source n does) None d.body (first_env d o vs) w) (returned (context t.image.source n does) None))) (lands_bare b)) (sym (as_variables len)) (runs len))

  abbrev bare_on : ℕ → Onward (Unit {0})
  bare_on b u w x = bare x.locals b x.order w

  -- the base, and then the written statements
  constructed : (rest : List Operand) (vs : List Value) → rest ≡ map Plain vs ++ replicate (code.constructor.body.locals - 1 - length (map Plain vs)) undefined
      → (m : ℕ) → m ≤ n → (a r b : ℕ) (order : List ObjId) (w : World) → Has (here rest 0) (IsBaseUnlessSuper class.constructor class.base) a r → Has (here rest 0) (Perhaps (IsWrittenCode t.image.labels) (method_of t.image.labels t.image.source class)) r b → Meets t.image m w
      → Sim t.image m (bare rest a order w) (run_constructor (context t.image.source n does) class.base class.constructor o vs w) (bare_on b)
  constructed rest vs rest_is m le a r b order w has_base has_written ok = of_constructor class.constructor refl has_base
    where
      nothing_more : (c d : ℕ) → Has (here rest 0) Nothing c d → c ≡ d
      nothing_more c d has = lies_nothing g code.constructor.body.code code.constructor.code.parts code.constructor.code.marks code.constructor.code.by c d has

      keeps_rest : {r1 : Result (Unit {0})} (c : ℕ) → Sim t.image m (bare rest a order w) r1 (stays_bare rest c) → Sim t.image m (bare rest a order w) r1 (bare_on c)
      keeps_rest c s = sim_extend s (λ u w1 x. (record { order = x.order; locals = rest }, comes_here t.image (bare rest c x.order w1)))

      written_of : (ctor : Constructor) → class.constructor ≡ Some ctor → (d : Option Method) → slice_get t.image.source.methods ctor.method ≡ d → (order1 : List ObjId) (w1 : World) → Meets t.image m w1
          → Sim t.image m (bare rest r order1 w1) (dropped (need d w1 (λ method. run (context t.image.source n does) method o vs w1))) (bare_on b)
      written_of ctor is_ctor None is_d order1 w1 ok1 = sim_stuck
      written_of ctor is_ctor (Some d) is_d order1 w1 ok1 =
          written_sim rest vs ctor is_ctor d is_d rest_is m le r b order1 w1
          (subst (λ x. Has (here rest 0) (Perhaps (IsWrittenCode t.image.labels) x) r b) (ap (option_and_then (λ (z : Constructor). slice_get t.image.source.methods z.method)) is_ctor ∙ is_d) has_written) ok1

      based : (ctor : Constructor) → class.constructor ≡ Some ctor → (calls : Bool) → ctor.calls_super ≡ calls → Has (here rest 0) (When (not calls) (IsBaseCode class.base)) a r
          → Sim t.image m (bare rest a order w) (choose calls done (construct_unless_super (context t.image.source n does) class.base o) w) (stays_bare rest r)
      based ctor is_ctor true calls has1 = subst (λ c. Sim t.image m (bare rest a order w) (done w) (stays_bare rest c)) (nothing_more a r has1) (sim_done {v = tt} {k = stays_bare rest a} (record { order = order; locals = [] }) ok)
      based ctor is_ctor false calls has1 = base_sim rest (plain.base_unless_super ctor is_ctor calls) m le a r order w has1 ok

      of_constructor : (x : Option Constructor) → class.constructor ≡ x → Has (here rest 0) (IsBaseUnlessSuper x class.base) a r
          → Sim t.image m (bare rest a order w) (run_constructor (context t.image.source n does) class.base x o vs w) (bare_on b)
      of_constructor None is_x has1 =
          let end = nothing_more r b (subst (λ x. Has (here rest 0) (Perhaps (IsWrittenCode t.image.labels) x) r b) (ap (option_and_then (λ (z : Constructor). slice_get t.image.source.methods z.method)) is_x) has_written) in
          subst (λ c. Sim t.image m (bare rest a order w) (construct_unless_super (context t.image.source n does) class.base o w) (bare_on c)) end (keeps_rest r (base_sim rest (plain.base is_x) m le a r order w has1 ok))
      of_constructor (Some ctor) is_x has1 =
          sim_bind (based ctor is_x ctor.calls_super refl has1)
          (λ u w1 x ok1. written_of ctor is_x (slice_get t.image.source.methods ctor.method) refl x.order w1 ok1)

  -- the constructor, once it has its level and its turn
  pub constructor_runs : class.document ≡ None → (m : ℕ) → m ≤ n → (vs : List Value) (order : List ObjId) (w : World) → Meets t.image m w
      → Sim t.image m (playing t (open_call t.image.program true (call_of code.of_file.constructor (ref o) (map Plain vs) false) (machine_of t fs order w)) w.records)
      (bind (without_value (construct_class (context t.image.source n does) class o vs) w) (λ v w2. Goes v (turns.leave w2)))
      (λ v w1 x. playing_of t fs x.order w1)
  constructor_runs no_document m le vs order w ok =
      let p1 = see_then (here rest 0) _ _ 0 last whole in
      let p2 = see_then (here rest 0) _ _ p1.mid last p1.back in
      let p3 = see_then (here rest 0) _ _ p2.mid last p2.back in
      let p4 = see_then (here rest 0) _ _ p3.mid last p3.back in
      let p5 = see_then (here rest 0) _ _ p4.mid last p4.back in
      let at_variables : 0 ≡ p1.mid = nothing (λ d. AreStatesCode t.image.labels number d 0 d.states) 0 p1.mid p1.front in
      let at_end : p4.mid ≡ p5.mid = nothing (λ d. IsBuildingCall t.image.labels number d) p4.mid p5.mid p5.front in
      subst (λ c. Sim t.image m c (bind (without_value (λ w1. steps class.document w1) w) (λ v w2. Goes v (turns.leave w2))) ends) (sym opened)
      (subst (λ d. Sim t.image m (bare rest 0 order w) (bind (without_value (λ w1. steps d w1) w) (λ v w2. Goes v (turns.leave w2))) ends) (sym no_document)
      (subst (λ r. Sim t.image m (bare rest 0 order w) r ends) (in_order (each starting class.variables w))
      (subst (λ z. Sim t.image m (bare rest z order w) (bind (each starting class.variables w) (λ _ w1. bind (run_constructor ctx class.base class.constructor o vs w1) (λ _ w2. Goes value.Undefined (turns.leave w2)))) ends) (sym at_variables)
      (sim_bind (variables_sim rest class.variables plain.variables m le p1.mid p2.mid order w p2.front ok)
      (λ u w1 x ok1. sim_bind (constructed rest vs refl m le p2.mid p3.mid p4.mid x.order w1 p3.front p4.front ok1)
      (λ u2 w2 x2 ok2. tail_sim x2.locals m p4.mid last x2.order w2 (subst (λ z. Has (here rest 0) (One Operation.ReturnVoid) z last) (sym at_end) p5.back) ok2))))))
    where
      ctx : Context
      ctx = context t.image.source n does

      ends : Onward Value
      ends v w1 x = playing_of t fs x.order w1

      last : ℕ
      last = 0 + length code.constructor.code.parts

      rest : List Operand
      rest = map Plain vs ++ replicate (code.constructor.body.locals - 1 - length (map Plain vs)) undefined

      opened : playing t (open_call t.image.program true (call_of code.of_file.constructor (ref o) (map Plain vs) false) (machine_of t fs order w)) w.records ≡ bare rest 0 order w
      opened =
          ap (λ y. playing t (open_body true (call_of code.of_file.constructor (ref o) (map Plain vs) false) (option_and_then (λ (z : FileMethod.Method). z.body) y) (machine_of t fs order w)) w.records) code.constructor.there
          ∙ ap (λ y. playing t (open_body true (call_of code.of_file.constructor (ref o) (map Plain vs) false) y (machine_of t fs order w)) w.records) code.constructor.has

      starting : Variable → World → Result (Unit {0})
      starting v w1 = start_variable ctx o v.name v.start w1

      steps : Option Document → World → Result (Unit {0})
      steps d w1 = bind (each starting class.variables (register_document d o w1)) (λ _ w2. bind (run_constructor ctx class.base class.constructor o vs w2) (λ _ w3. build_if_document ctx d o w3))

      whole : Has (here rest 0) (IsConstructorCode t.image.labels t.image.source number class) 0 last
      whole = record { these = code.constructor.code.parts; code = code.constructor.code.code; hold = hold_from g code.constructor.body.code code.constructor.code.parts code.constructor.code.marks code.constructor.code.by [] code.constructor.code.parts refl; until = refl }

      nothing : (P : Document → Meant) (a b : ℕ) → Has (here rest 0) (Perhaps P class.document) a b → a ≡ b
      nothing P a b has = lies_nothing g code.constructor.body.code code.constructor.code.parts code.constructor.code.marks code.constructor.code.by a b (subst (λ x. Has (here rest 0) (Perhaps P x) a b) no_document has)

      second : (r : Result (Unit {0})) → bind r (λ _ w2. Goes value.Undefined (turns.leave w2)) ≡ bind (bind (bind r (λ _ w3. done w3)) (λ _ w4. Goes value.Undefined w4)) (λ v w5. Goes v (turns.leave w5))
      second (Goes v w2) = refl
      second (Halts z w2) = refl
      second (Ends w2) = refl
      second (Stuck w2) = refl

      in_order : (r : Result (Unit {0})) → bind r (λ _ w1. bind (run_constructor ctx class.base class.constructor o vs w1) (λ _ w2. Goes value.Undefined (turns.leave w2)))
          ≡ bind (bind (bind r (λ _ w2. bind (run_constructor ctx class.base class.constructor o vs w2) (λ _ w3. done w3))) (λ _ w4. Goes value.Undefined w4)) (λ v w5. Goes v (turns.leave w5))
      in_order (Goes v w1) = second (run_constructor ctx class.base class.constructor o vs w1)
      in_order (Halts z w1) = refl
      in_order (Ends w1) = refl
      in_order (Stuck w1) = refl

-- what constructors do with one turn more
pub constructor_sim : (t : Setting) {g : Naming} (is : IsImage g t.image) (n : ℕ) (does : Does) (law : Law t n does) → HasPlainClasses t.image.source → DocumentsRun t (suc n) (perform (context t.image.source n does))
    → ConstructorsRun t (suc n) (perform (context t.image.source n does))
constructor_sim t is n does law plain documents number m le f there o vs fs order w new ok = at_class (slice_get t.image.source.classes number) refl
  where
    ends : Onward Value
    ends v w1 x = playing_of t fs x.order w1

    same_class : (a b : FileClassRecord.FileClass) → Some a ≡ Some b → a ≡ b
    same_class a b e = cc

    of_class : (class : SourceClass) → slice_get t.image.source.classes number ≡ Some class → (d : Option Document) → class.document ≡ d
        → Sim t.image m (playing t (enter t.image.program (call_of f.constructor (ref o) (map Plain vs) false) (machine_of t fs order w)) w.records) (perform (context t.image.source n does) (Constructs number o vs) w) ends
    of_class class e (Some d) is_d = documents number class d e is_d m le f there o vs fs order w new ok
    of_class class e None is_d =
        let same_f : (is.code.classes number class e).of_file ≡ f = same_class (is.code.classes number class e).of_file f (sym (is.code.classes number class e).there ∙ there) in
        subst (λ z. Sim t.image m (playing t (enter t.image.program (call_of z.constructor (ref o) (map Plain vs) false) (machine_of t fs order w)) w.records) (perform (context t.image.source n does) (Constructs number o vs) w) ends) same_f
        (activity_sim t m n le (call_of (is.code.classes number class e).of_file.constructor (ref o) (map Plain vs) false) fs order (λ l. l) w (without_value (construct_numbered (context t.image.source n does) number o vs)) ends ok
        (λ j le1 w1 same ok1. subst (λ x. Sim t.image j (playing t (open_call t.image.program true (call_of (is.code.classes number class e).of_file.constructor (ref o) (map Plain vs) false) (machine_of t fs order w1)) w1.records)
        (bind (without_value (λ w2. need x w2 (λ z. construct_class (context t.image.source n does) z o vs w2)) w1) (λ v w2. Goes v (turns.leave w2))) ends) (sym e)
        (constructor_runs t is n does law number class e (plain number class e is_d) fs o is_d j le1 vs order w1 ok1)))

    at_class : (x : Option SourceClass) → slice_get t.image.source.classes number ≡ x
        → Sim t.image m (playing t (enter t.image.program (call_of f.constructor (ref o) (map Plain vs) false) (machine_of t fs order w)) w.records) (perform (context t.image.source n does) (Constructs number o vs) w) ends
    at_class None e =
        activity_sim t m n le (call_of f.constructor (ref o) (map Plain vs) false) fs order (λ l. l) w (without_value (construct_numbered (context t.image.source n does) number o vs)) ends ok
        (λ j le1 w1 same ok1. subst (λ x. Sim t.image j (playing t (open_call t.image.program true (call_of f.constructor (ref o) (map Plain vs) false) (machine_of t fs order w1)) w1.records)
        (bind (without_value (λ w2. need x w2 (λ z. construct_class (context t.image.source n does) z o vs w2)) w1) (λ v w2. Goes v (turns.leave w2))) ends) (sym e) sim_stuck)
    at_class (Some class) e = of_class class e class.document refl

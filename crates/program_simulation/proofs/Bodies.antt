-- Where a body of the file runs, and its instructions.
use Rattle.std.proofs.Common.{◌≡◌, refl, sym, ap, ◌∙◌, subst}
use Rattle.std.specs.Prelude.{Bool, List, Option, Some, [], false, option_map, slice_get, suc, true, ℕ, ◌∷◌}
use Rattle.flex_base.specs.Lists.{changed_at}
use Rattle.flex_base.specs.Value.{to_bool}
use Rattle.flex_base.specs.declared.value.ObjId.{ObjId}
use Rattle.flex_base.specs.declared.value.Value.{Value}
use Rattle.flex_world.specs.declared.kind.Class.{Class}
use Rattle.flex_world.specs.declared.kind.StaticType.{StaticType}
use Rattle.flex_meaning.specs.Activities.{Context, Does}
use Rattle.flex_meaning.specs.Expressions.{Env}
use Rattle.flex_meaning.specs.Results.{Goes, Result, choose}
use Rattle.flex_meaning.specs.Tasks.{context}
use Rattle.flex_meaning.specs.World.{World}
use Rattle.program_code.specs.Code.{result_type}
use Rattle.program_code.specs.Names.{Labels}
use Rattle.program_code.specs.Shapes.{AreOperations, Meant, One, Then}
use Rattle.program_simulation.proofs.Follows.{Alike, Onward, alike_map, comes_here, comes_step, sim_done, sim_from, unrecorded}
use Rattle.program_simulation.proofs.Moving.{acts}
use Rattle.program_simulation.proofs.Place.{Lies, Shown, lies_either, lies_goes, lies_here, lies_mark, lies_nothing, lies_one, lies_short, lies_then}
use Rattle.program_simulation.specs.Following.{Comes, Ending, Meets, Sim, SimTo, Unseen, seen}
use Rattle.program_simulation.specs.Image.{IsImage}
use Rattle.program_simulation.specs.Laws.{Law, landed}
use Rattle.program_simulation.specs.Stands.{Image, Setting, heap_of, locals_of, machine_of, playing_of}
use Rattle.avm2_program.specs.Naming.{Naming}
use Rattle.avm2_program.specs.declared.class.FileClass as FileClassRecord
use Rattle.avm2_program.specs.declared.method.Method as FileMethod
use Rattle.avm2_program.specs.declared.file.Program as FileProgram
use Rattle.avm2_program.specs.declared.operation.Operation.{Operation}
use Rattle.avm2_code.specs.declared.parts.Part.{Part}
use Rattle.avm2_meaning.specs.Act.{act, branches, same_bool}
use Rattle.avm2_meaning.specs.Apply.{land}
use Rattle.avm2_meaning.specs.Classes.{owner_of}
use Rattle.avm2_meaning.specs.Effects.{Acted, acted, goes_on, pushes, silent, with_top}
use Rattle.avm2_meaning.specs.declared.effect.Next.{Next}
use Rattle.avm2_meaning.specs.declared.frame.CodeFrame.{CodeFrame}
use Rattle.avm2_meaning.specs.declared.frame.Frame.{Frame}
use Rattle.avm2_meaning.specs.declared.work.Work.{Work}
use Rattle.avm2_meaning.specs.declared.heap.Heap.{Heap}
use Rattle.avm2_meaning.specs.Moves.{as_code, fetch, stands, target_or}
use Rattle.avm2_meaning.specs.declared.operand.Operand.{Operand}
use Rattle.avm2_meaning.specs.declared.operand.Operand.TheVariants.{Plain}
use Rattle.avm2_meaning.specs.Results as machine
use Rattle.avm2_meaning.specs.Results.{mapped}
use Rattle.avm2_meaning.specs.Trace.{Playing}

-- `super` in a method begins at this base
pub record SuperAt (p : FileProgram.Program) (method : ℕ) (base : Option Class) : Type 0 where
  pub number : ℕ
  pub class : FileClassRecord.FileClass
  pub owner_is : owner_of p method ≡ Some number
  pub there : slice_get p.classes number ≡ Some class
  pub base_is : class.base ≡ option_map StaticType.Object base

-- where a body of the file runs: what its activities do with n turns or fewer, its code, and the frames below it
pub record Here : Type 0 where
  pub setting : Setting
  pub naming : Naming
  pub is : IsImage naming setting.image
  pub n : ℕ
  pub does : Does
  pub law : Law setting n does
  pub method : ℕ
  pub code : List Operation
  pub fetched : (place : ℕ) → fetch setting.image.program method place ≡ slice_get code place
  pub parts : List Part
  pub marks : ℕ → ℕ
  pub by : AreOperations naming parts marks code
  pub keeps : Bool
  pub frames : List Frame
  -- the locals behind the variables
  pub rest : List Operand
  -- the object of the body, and how many variables it has
  pub this : ObjId
  pub width : ℕ
  -- the method in the file, and the type of its result in the source
  pub own : FileMethod.Method
  pub own_there : slice_get setting.image.program.methods method ≡ Some own
  pub result : Option StaticType
  pub result_is : own.result ≡ result_type result
  -- of a constructor, the base of its class, which the file has
  pub supers : Option (Option Class)
  pub super_at : (base : Option Class) → supers ≡ Some base → SuperAt setting.image.program method base

module _ (h : Here) where
  abbrev pub image : Image
  image = h.setting.image

  abbrev pub labels : Labels
  labels = h.setting.image.labels

  abbrev pub ctx : Context
  ctx = context h.setting.image.source h.n h.does

  -- such code lies from a place to a place
  abbrev pub Has : Meant → ℕ → ℕ → Type 0
  Has P a b = Lies h.naming h.code h.parts h.marks h.by P a b

  abbrev pub Sees : ℕ → Operation → ℕ → Type 0
  Sees a o b = Shown h.naming h.code h.parts h.marks h.by a o b

  abbrev pub work : List Operand → Env → Work
  work st env = record { method = h.method; stack = st; scopes = []; locals = locals_of env h.rest }

  abbrev pub code_frame : ℕ → List Operand → Env → CodeFrame
  code_frame place st env = record { place = place; work = work st env; is_activity = true; keeps = h.keeps }

  -- the body is at a place, with a stack
  abbrev pub at : ℕ → List Operand → Env → List ObjId → World → Playing
  at place st env order w = playing_of h.setting (Frame.Code (code_frame place st env) ∷ h.frames) order w

  -- with a value on top
  abbrev pub tops : ℕ → List Operand → Env → Onward Value
  tops place st env v w x = at place (Plain v ∷ st) env x.order w

  abbrev pub heap : List ObjId → World → Heap
  heap order w = heap_of h.setting.image order w

  abbrev pub acted_at : ℕ → List Operand → Env → Operation → machine.Result (Acted Work) → List ObjId → World → Playing
  acted_at a st env o x order w = landed h.setting h.frames (code_frame a st env) o x order w

  abbrev pub unseen_of : List ObjId → Unseen
  unseen_of order = record { order = order; locals = [] }

  pub see_one : (o : Operation) (a b : ℕ) → Has (One o) a b → Sees a o b
  see_one o a b has = lies_one h.naming h.code h.parts h.marks h.by o a b has

  pub see_then : (P Q : Meant) (a b : ℕ) → Has (Then P Q) a b → Rattle.program_simulation.proofs.Place.Two h.naming h.code h.parts h.marks h.by P Q a b
  see_then P Q a b has = lies_then h.naming h.code h.parts h.marks h.by P Q a b has

  -- the instruction at a place
  pub sim_at : {A : Type 0} {e : Ending} (n a b : ℕ) (o : Operation) (st : List Operand) (env : Env) (order : List ObjId) (w : World) {r : Result A} (k : Onward A)
      → Sees a o b → SimTo image e n (acted_at a st env o (act image.program o (work st env) (heap order w)) order w) r k → SimTo image e n (at a st env order w) r k
  sim_at n a b o st env order w {r} k s t =
      sim_from
      (comes_step h.setting (Frame.Code (code_frame a st env)) h.frames order w _
      (subst (λ d. Comes image (seen h.setting w.records (land image.program (mapped as_code (machine.need d (heap order w) (λ e. mapped (stands (code_frame a st env) e) (act image.program e (work st env) (heap order w))))) (machine_of h.setting h.frames order w)))
      (acted_at a st env o (act image.program o (work st env) (heap order w)) order w)) (sym (h.fetched a ∙ s.is)) (comes_here image _)))
      t

  -- a value in place of what is on the stack
  pub valued : (n a b : ℕ) (o : Operation) (st0 st : List Operand) (env : Env) (order : List ObjId) (w : World) {r : Result Value} (x : machine.Result Operand)
      → Has (One o) a b → act image.program o (work st0 env) (heap order w) ≡ machine.bind x (λ result s1. pushes result (work st env) s1)
      → Alike image order w unrecorded Plain r x → Meets image n w → Sim image n (at a st0 env order w) r (tops b st env)
  valued n a b o st0 st env order w {r} x has e al ok =
      let s = see_one o a b has in
      sim_at n a b o st0 env order w (tops b st env) s
      (subst (λ y. Sim image n (acted_at a st0 env o y order w) r (tops b st env)) (sym e)
      (subst (λ c. Sim image n (acted_at a st0 env o (machine.bind x (λ result s1. pushes result (work st env) s1)) order w) r (tops c st env)) (sym s.next)
      (acts h.setting n h.frames (code_frame a st0 env) o order w (λ v. acted (silent Next.On) (with_top (Plain v) (work st env))) (tops (suc a) st env) (unseen_of order)
      (alike_map (λ v. acted (silent Next.On) (with_top (Plain v) (work st env))) (λ result s1. pushes result (work st env) s1) al (λ v s1. refl))
      (λ v w1 rs. refl) (λ v w1. refl) ok)))

  -- a value that an instruction pushes
  pub pushed : (n a b : ℕ) (o : Operation) (st : List Operand) (v : Value) (env : Env) (order : List ObjId) (w : World)
      → act image.program o (work st env) (heap order w) ≡ pushes (Plain v) (work st env) (heap order w)
      → Has (One o) a b → Meets image n w → Sim image n (at a st env order w) (Goes v w) (tops b st env)
  pushed n a b o st v env order w e has ok =
      let s = see_one o a b has in
      sim_at n a b o st env order w (tops b st env) s
      (subst (λ y. Sim image n (acted_at a st env o y order w) (Goes v w) (tops b st env)) (sym e)
      (subst (λ c. Sim image n (acted_at a st env o (pushes (Plain v) (work st env) (heap order w)) order w) (Goes v w) (tops c st env)) (sym s.next)
      (sim_done {k = tops (suc a) st env} (unseen_of order) ok)))

  -- an instruction that leaves the stack so, and nothing else
  pub stacked : {A : Type 0} {e : Ending} (n a b : ℕ) (o : Operation) (st st1 : List Operand) (env : Env) (order : List ObjId) (w : World) {r : Result A} {k : Onward A}
      → act image.program o (work st env) (heap order w) ≡ goes_on (work st1 env) (heap order w)
      → Has (One o) a b → SimTo image e n (at b st1 env order w) r k → SimTo image e n (at a st env order w) r k
  stacked {e} n a b o st st1 env order w {r} {k} does has t =
      let s = see_one o a b has in
      sim_at n a b o st env order w k s
      (subst (λ y. SimTo image e n (acted_at a st env o y order w) r k) (sym does) (subst (λ c. SimTo image e n (at c st1 env order w) r k) s.next t))

  -- a jump
  pub jumps : (u b c : ℕ) (st : List Operand) (env : Env) (order : List ObjId) (w : World) → Sees u (Operation.Jump b) c → Comes image (at u st env order w) (at b st env order w)
  jumps u b c st env order w s =
      comes_step h.setting (Frame.Code (code_frame u st env)) h.frames order w _
      (subst (λ d. Comes image (seen h.setting w.records (land image.program (mapped as_code (machine.need d (heap order w) (λ e. mapped (stands (code_frame u st env) e) (act image.program e (work st env) (heap order w))))) (machine_of h.setting h.frames order w)))
      (at b st env order w)) (sym (h.fetched u ∙ s.is)) (comes_here image (at b st env order w)))

  -- a branch, by the value on top
  pub branches_false : {A : Type 0} {e : Ending} (n t first second : ℕ) (st : List Operand) (v : Value) (env : Env) (order : List ObjId) (w : World) (f f1 : World → Result A) {k : Onward A}
      → Sees t (Operation.Branch false second) first → SimTo image e n (at first st env order w) (f w) k → SimTo image e n (at second st env order w) (f1 w) k
      → SimTo image e n (at t (Plain v ∷ st) env order w) (choose (to_bool v) f f1 w) k
  branches_false {e} n t first second st v env order w f f1 {k} s x y = sim_at n t first (Operation.Branch false second) (Plain v ∷ st) env order w k s (sides (to_bool v))
    where
      sides : (b : Bool) → SimTo image e n (acted_at t (Plain v ∷ st) env (Operation.Branch false second) (machine.choose (same_bool false b) (branches (work st env)) (goes_on (work st env)) (heap order w)) order w) (choose b f f1 w) k
      sides true = subst (λ c. SimTo image e n (at c st env order w) (f w) k) s.next x
      sides false = y

  pub branches_true : {A : Type 0} {e : Ending} (n t first second : ℕ) (st : List Operand) (v : Value) (env : Env) (order : List ObjId) (w : World) (f f1 : World → Result A) {k : Onward A}
      → Sees t (Operation.Branch true second) first → SimTo image e n (at second st env order w) (f w) k → SimTo image e n (at first st env order w) (f1 w) k
      → SimTo image e n (at t (Plain v ∷ st) env order w) (choose (to_bool v) f f1 w) k
  branches_true {e} n t first second st v env order w f f1 {k} s x y = sim_at n t first (Operation.Branch true second) (Plain v ∷ st) env order w k s (sides (to_bool v))
    where
      sides : (b : Bool) → SimTo image e n (acted_at t (Plain v ∷ st) env (Operation.Branch true second) (machine.choose (same_bool true b) (branches (work st env)) (goes_on (work st env)) (heap order w)) order w) (choose b f f1 w) k
      sides true = x
      sides false = subst (λ c. SimTo image e n (at c st env order w) (f1 w) k) s.next y

  -- the body with these locals
  abbrev pub raw : ℕ → List Operand → List Operand → List ObjId → World → Playing
  raw place st locals order w =
      playing_of h.setting (Frame.Code (record { place = place; work = record { method = h.method; stack = st; scopes = []; locals = locals }; is_activity = true; keeps = h.keeps }) ∷ h.frames) order w

  pub moves_on : (a b : ℕ) (op : Operation) (st0 locals0 st1 locals1 : List Operand) (order : List ObjId) (w : World) → Has (One op) a b
      → act image.program op (record { method = h.method; stack = st0; scopes = []; locals = locals0 }) (heap order w) ≡ goes_on (record { method = h.method; stack = st1; scopes = []; locals = locals1 }) (heap order w)
      → target_or op (suc a) ≡ suc a → Comes image (raw a st0 locals0 order w) (raw b st1 locals1 order w)
  moves_on a b op st0 locals0 st1 locals1 order w has e target =
      let s = see_one op a b has in
      subst (λ c. Comes image (raw a st0 locals0 order w) (raw c st1 locals1 order w)) (sym s.next)
      (comes_step h.setting (Frame.Code (record { place = a; work = record { method = h.method; stack = st0; scopes = []; locals = locals0 }; is_activity = true; keeps = h.keeps })) h.frames order w _
      (subst (λ d. Comes image (seen h.setting w.records (land image.program (mapped as_code d) (machine_of h.setting h.frames order w))) (raw (suc a) st1 locals1 order w))
      (sym (ap (λ d. machine.need d (heap order w) (λ o. mapped (stands (record { place = a; work = record { method = h.method; stack = st0; scopes = []; locals = locals0 }; is_activity = true; keeps = h.keeps }) o) (act image.program o (record { method = h.method; stack = st0; scopes = []; locals = locals0 }) (heap order w)))) (h.fetched a ∙ s.is)
      ∙ ap (mapped (stands (record { place = a; work = record { method = h.method; stack = st0; scopes = []; locals = locals0 }; is_activity = true; keeps = h.keeps }) op)) e))
      (comes_here image (raw (suc a) st1 locals1 order w))))

  pub gets : (a b n : ℕ) (st locals : List Operand) (v : Operand) (order : List ObjId) (w : World) → Has (One (Operation.GetLocal n)) a b → slice_get locals n ≡ Some v → Comes image (raw a st locals order w) (raw b (v ∷ st) locals order w)
  gets a b n st locals v order w has e =
      moves_on a b (Operation.GetLocal n) st locals (v ∷ st) locals order w has (ap (λ x. machine.need x (heap order w) (λ y. pushes y (record { method = h.method; stack = st; scopes = []; locals = locals }) (heap order w))) e) refl

  pub sets : (a b n : ℕ) (st locals locals1 : List Operand) (u v : Operand) (order : List ObjId) (w : World) → Has (One (Operation.SetLocal n)) a b → slice_get locals n ≡ Some u → changed_at (λ _. v) locals n ≡ locals1
      → Comes image (raw a (v ∷ st) locals order w) (raw b st locals1 order w)
  sets a b n st locals locals1 u v order w has e put =
      moves_on a b (Operation.SetLocal n) (v ∷ st) locals st locals1 order w has
      (ap (λ x. machine.need x (heap order w) (λ y. goes_on (record { method = h.method; stack = st; scopes = []; locals = changed_at (λ _. v) locals n }) (heap order w))) e
      ∙ ap (λ l. goes_on (record { method = h.method; stack = st; scopes = []; locals = l }) (heap order w)) put) refl

-- Each step of a program whose branches lead well takes a turn, ends the play, or lowers what remains until the next turn.
use Rattle.std.proofs.Common.{◌≡◌, refl, sym, ap, ◌∙◌, subst, ℕ, zero, suc, ◌+◌, ◌-◌, ◌<◌, ◌≤◌, ◌⊎◌, inl, inr, List, [], ◌∷◌, length, Bool, true, false, Option, Some, None, arith, slice_get, nat_lt, ◌==◌, ◌||◌, option_and_then}
use Rattle.std.specs.Prelude.{if◌then◌else◌}
use Rattle.std.proofs.lemmas.Option.{slice_get_within}
use Rattle.flex_base.specs.declared.outcome.MachineFault.TheVariants as fault
use Rattle.flex_base.specs.declared.outcome.Outcome.TheVariants.{Fault, Stopped, TurnsSpent}
use Rattle.flex_base.specs.declared.outcome.Stop.TheVariants as stop
use Rattle.flex_base.specs.declared.value.ObjId.{ObjId}
use Rattle.flex_world.specs.Objects.{is_number_among, without_number}
use Rattle.avm2_program.specs.declared.method.Body.{Body}
use Rattle.avm2_program.specs.declared.method.Method.{Method}
use Rattle.avm2_program.specs.declared.operation.Operation.{Operation}
use Rattle.avm2_program.specs.declared.file.Program.{Program}
use Rattle.avm2_program.specs.declared.file.Script.{Script}
use Rattle.avm2_program.proofs.Decoding.{some_same}
use Rattle.avm2_meaning.specs.Act.{act}
use Rattle.avm2_meaning.specs.Apply.{apply, enter, give, give_if, initialise, land, leave, leave_code, open_body, open_call, proceed, with_heap}
use Rattle.avm2_meaning.specs.Calls.{call_of, initialiser, prepare}
use Rattle.avm2_meaning.specs.Classes.{body_of, file_class_at, file_shape}
use Rattle.avm2_meaning.specs.Effects.{Acted}
use Rattle.avm2_meaning.specs.declared.effect.Call.{Call}
use Rattle.avm2_meaning.specs.declared.effect.Next.{Next}
use Rattle.avm2_meaning.specs.declared.effect.Next.TheVariants as Next
use Rattle.avm2_meaning.specs.Frames.{keeps}
use Rattle.avm2_meaning.specs.declared.frame.CodeFrame.{CodeFrame}
use Rattle.avm2_meaning.specs.declared.frame.Frame.{Frame}
use Rattle.avm2_meaning.specs.declared.frame.Frame.TheVariants as Frame
use Rattle.avm2_meaning.specs.declared.frame.Native.{Native}
use Rattle.avm2_meaning.specs.declared.frame.Native.TheVariants as Native
use Rattle.avm2_meaning.specs.declared.work.Work.{Work}
use Rattle.avm2_meaning.specs.declared.heap.Heap.{Heap}
use Rattle.avm2_meaning.specs.Load.{complete_main, land_main, land_script, load_on, load_script, main_class, make_main}
use Rattle.avm2_meaning.specs.Machine.{CompletesMain, Load, Loaded, Machine, MakesMain, Scripts, above, is_idle, is_idle_with, over_with, spend}
use Rattle.avm2_meaning.specs.Making.{allocate_as, construct_file}
use Rattle.avm2_meaning.specs.Moves.{as_code, as_native, execute, go_on, moves, place_after, stands, target_or}
use Rattle.avm2_meaning.specs.Operands.{ref}
use Rattle.avm2_meaning.specs.declared.operand.Operand.{Operand}
use Rattle.avm2_meaning.specs.declared.operand.Operand.TheVariants.{ScriptValue}
use Rattle.avm2_meaning.specs.Results.{Goes, Halts, Result, mapped, need}
use Rattle.avm2_meaning.specs.Step.{step, step_on}
use Rattle.avm2_meaning.proofs.Branches.{BodiesLeadWell, LeadsOn}
use Rattle.avm2_meaning.proofs.Left.{ByCode, ByEnd, ByParts, ByRank, ByTurn, Falls, all_parts, body_length, classes_left, code_left, code_of, initialiser_code, is_label, left_at, left_in, left_of, lengths, parts, parts_of, rank, rank_of, ranks, scripts_left}
use Rattle.avm2_meaning.proofs.Methods.{Keeps, act_keeps}
use Rattle.avm2_meaning.proofs.Natives.{Holds, OwedBy, holds_bind, holds_need, native_owes}
use Rattle.avm2_meaning.proofs.Natives.{Owes as NativeOwes}

-- each native work has a part
has_part : (n : Native) → 0 < parts_of n
has_part (Native.Dispatches d) = omega arith
has_part (Native.Starts b) = omega arith
has_part (Native.Empties container children) = omega arith
has_part (Native.Sends event target) = omega arith
has_part (Native.Announces event target) = omega arith
has_part (Native.Adds a) = omega arith
has_part (Native.Changes c) = omega arith
has_part (Native.Defaults target event) = omega arith
has_part (Native.Acts event) = omega arith
has_part (Native.Begins event) = omega arith

-- a body isn't longer than all of them
one_of_all : (methods : List Method) (m : ℕ) (method : Method) → slice_get methods m ≡ Some method → body_length method.body ≤ lengths methods
one_of_all [] m method e = absurd cc
one_of_all (x ∷ methods) zero method e = let same = ap (λ (z : Method). body_length z.body) (some_same x method e) in omega (arith, same)
one_of_all (x ∷ methods) (suc m) method e = let rest = one_of_all methods m method e in omega (arith, rest)

left_at_most : (o : Option Operation) (n : ℕ) → left_at o n ≤ n
left_at_most None n = omega arith
left_at_most (Some o) n = by (is_label o)
  where
    by : (b : Bool) → (if b then 0 else n) ≤ n
    by true = omega arith
    by false = omega arith

label_or_not : (o : Operation) → (o ≡ Operation.Label) ⊎ (is_label o ≡ false)
label_or_not Operation.Skip = inr refl
label_or_not Operation.Label = inl refl
label_or_not (Operation.Jump target) = inr refl
label_or_not (Operation.Branch condition target) = inr refl
label_or_not (Operation.Push value) = inr refl
label_or_not Operation.Pop = inr refl
label_or_not Operation.Dup = inr refl
label_or_not Operation.Swap = inr refl
label_or_not Operation.PushScope = inr refl
label_or_not Operation.PopScope = inr refl
label_or_not (Operation.GetScopeObject scope) = inr refl
label_or_not (Operation.GetLocal local) = inr refl
label_or_not (Operation.SetLocal local) = inr refl
label_or_not (Operation.FindProperty name) = inr refl
label_or_not (Operation.GetLex name) = inr refl
label_or_not (Operation.GetProperty name) = inr refl
label_or_not (Operation.SetProperty name) = inr refl
label_or_not Operation.GetElement = inr refl
label_or_not Operation.SetElement = inr refl
label_or_not (Operation.CallProperty keeps name count) = inr refl
label_or_not (Operation.CallSuper name count) = inr refl
label_or_not (Operation.ConstructProperty name count) = inr refl
label_or_not (Operation.ConstructSuper count) = inr refl
label_or_not Operation.ReturnVoid = inr refl
label_or_not Operation.ReturnValue = inr refl
label_or_not (Operation.NewArray count) = inr refl
label_or_not (Operation.NewClass class) = inr refl
label_or_not Operation.ToText = inr refl
label_or_not (Operation.Convert type) = inr refl
label_or_not Operation.CoerceAny = inr refl
label_or_not Operation.Negate = inr refl
label_or_not Operation.Not = inr refl
label_or_not (Operation.Apply operator) = inr refl

-- behind an operation that is no label, and where it leads, less is left
less_left : (code : List Operation) (place target : ℕ) (o : Operation) → slice_get code place ≡ Some o → is_label o ≡ false → LeadsOn code place target → left_in code target < left_in code place
less_left code place target o e plain leads = by leads
  where
    whole : left_in code place ≡ length code - place
    whole = ap (λ z. left_at z (length code - place)) e ∙ ap (λ (b : Bool). if b then 0 else length code - place) plain

    inside : place < length code
    inside = slice_get_within code place o e

    by : LeadsOn code place target → left_in code target < left_in code place
    by (inl lt) = let most = left_at_most (slice_get code target) (length code - target) in omega (arith, whole, inside, lt, most)
    by (inr label) = let none : left_in code target ≡ 0 = ap (λ z. left_at z (length code - target)) label in omega (arith, whole, inside, none)

module _ (p : Program) where
  body_at_most : (m place : ℕ) → left_of (body_of p m) place ≤ lengths p.methods
  body_at_most m place = by (slice_get p.methods m) refl
    where
      within : (body : Option Body) → body_length body ≤ lengths p.methods → left_of body place ≤ lengths p.methods
      within None le = omega arith
      within (Some body) le = let most = left_at_most (slice_get body.code place) (length body.code - place) in omega (arith, most, le)

      by : (method : Option Method) → slice_get p.methods m ≡ method → left_of (option_and_then (λ (method : Method). method.body) method) place ≤ lengths p.methods
      by None e = omega arith
      by (Some method) e = within method.body (one_of_all p.methods m method e)

  -- with this frame on top
  abbrev upon : Frame → Machine → Machine
  upon f m = record m { frames = f ∷ m.frames }

  -- less is left of a frame
  abbrev Lowers : Frame → Frame → Type 0
  Lowers f f1 = (code_of p f1 < code_of p f) ⊎ ((code_of p f1 ≤ code_of p f) × (rank f1 < rank f)) ⊎ ((code_of p f1 ≤ code_of p f) × (rank f1 ≤ rank f) × (parts f1 < parts f))

  -- what the effect of a move owes: nothing where it takes a turn, or closes
  abbrev Owes : Frame → Next → Frame → Type 0
  Owes f Next.On f1 = Lowers f f1
  Owes f Next.Branches f1 = Lowers f f1
  Owes f (Next.Initialises k c) f1 = code_of p f1 ≤ code_of p f
  Owes f (Next.Opens n) f1 = (code_of p f1 < code_of p f) ⊎ ((code_of p f1 ≤ code_of p f) × (rank f1 + rank_of n < rank f))
  Owes f _ f1 = Unit {0}

  goes_falls : (f f1 : Frame) (m : Machine) (h : Heap) → Lowers f f1 → Falls p (upon f m) (above f1 (with_heap h m))
  goes_falls f f1 m h (inl lt) = ByCode (omega arith) (omega (arith, lt))
  goes_falls f f1 m h (inr (inl l)) = ByRank (omega arith) (omega (arith, l.0)) (omega (arith, l.1))
  goes_falls f f1 m h (inr (inr l)) = ByParts (omega arith) (omega (arith, l.0)) (omega (arith, l.1)) (omega (arith, l.2))

  -- a frame that is over
  closes_falls : (f : Frame) (m m1 : Machine) → m1.turns ≤ m.turns → code_left p m1 ≤ code_left p m → ranks m1.frames ≤ ranks m.frames → all_parts m1.frames ≤ all_parts m.frames → Falls p (upon f m) m1
  closes_falls (Frame.Code g) m m1 t c r n = ByCode (omega (arith, t)) (omega (arith, c))
  closes_falls (Frame.Does work) m m1 t c r n = ByParts (omega (arith, t)) (omega (arith, c)) (omega (arith, r)) (omega (arith, n, has_part work))

  gives_falls : (f : Frame) (m : Machine) (frames : List Frame) (h : Heap) (level : ℕ) (v : Option Operand)
      → Falls p (upon f (record m { frames = frames })) (give v frames (record m { frames = frames; heap = h; level = level }))
  gives_falls f m frames h level None = closes_falls f (record m { frames = frames }) _ (omega arith) (omega arith) (omega arith) (omega arith)
  gives_falls f m [] h level (Some v) = ByEnd (Fault fault.NotHere) refl
  gives_falls f m (Frame.Does n ∷ frames) h level (Some v) = ByEnd (Fault fault.NotHere) refl
  gives_falls f m (Frame.Code g ∷ frames) h level (Some v) =
      closes_falls f (record m { frames = Frame.Code g ∷ frames }) _ (omega arith) (omega arith) (omega arith) (omega arith)

  given_falls : (f : Frame) (m : Machine) (h : Heap) (level : ℕ) (b : Bool) (v : Option Operand) → Falls p (upon f m) (give_if b v (record m { heap = h; level = level }))
  given_falls f m h level true v = gives_falls f m m.frames h level v
  given_falls f m h level false v = gives_falls f m m.frames h level None

  left_falls : (f f1 : Frame) (m : Machine) (h : Heap) (b : Bool) (v : Option Operand) → Falls p (upon f m) (give_if b v (leave f1 (with_heap h m)))
  left_falls f (Frame.Does n) m h b v = given_falls f m h m.level b v
  left_falls f (Frame.Code g) m h b v = by g.is_activity
    where
      by : (t : Bool) → Falls p (upon f m) (give_if b v (leave_code t (with_heap h m)))
      by true = given_falls f m h (m.level - 1) b v
      by false = given_falls f m h m.level b v

  if_falls : (b : Bool) (old x y : Machine) → Falls p old x → Falls p old y → Falls p old (if b then x else y)
  if_falls true old x y a c = a
  if_falls false old x y a c = c

  -- a turn is taken
  turn_falls : (old m : Machine) (turns : ℕ) (k : Machine → Machine) → old.turns ≡ turns → ((m1 : Machine) → (k m1).turns ≡ m1.turns) → Falls p old (spend turns k m)
  turn_falls old m zero k e same = ByEnd TurnsSpent refl
  turn_falls old m (suc turns) k e same = ByTurn (let s = same (record m { turns = turns }) in omega (arith, s, e))

  opened_turns : (t : Bool) (c : Call) (body : Option Body) (m : Machine) → (open_body t c body m).turns ≡ m.turns
  opened_turns t c None m = refl
  opened_turns t c (Some body) m = refl

  enter_falls : (old m : Machine) (c : Call) → old.turns ≡ m.turns → Falls p old (enter p c m)
  enter_falls old m c e =
      if_falls (nat_lt m.level 256) old _ _
      (turn_falls old m m.turns (λ m1. open_call p true c (record m1 { level = suc m1.level })) e (λ m1. opened_turns true c (body_of p c.method) (record m1 { level = suc m1.level })))
      (ByEnd (Stopped stop.Depth) refl)

  -- a class that is taken from the others
  taken : (k : ℕ) (classes : List ℕ) → is_number_among k classes ≡ true → initialiser_code p + classes_left p (without_number k classes) ≡ classes_left p classes
  taken k [] e = absurd cc
  taken k (n ∷ classes) e = by (n == k) refl (λ f. taken k classes f)
    where
      by : (b : Bool) → (n == k) ≡ b → (is_number_among k classes ≡ true → initialiser_code p + classes_left p (without_number k classes) ≡ classes_left p classes)
          → initialiser_code p + classes_left p (if n == k then classes else n ∷ without_number k classes) ≡ classes_left p (n ∷ classes)
      by true is further = ap (λ (b : Bool). initialiser_code p + classes_left p (if b then classes else n ∷ without_number k classes)) is
      by false is further =
          let rest = further (sym (ap (λ (b : Bool). b || is_number_among k classes) is) ∙ e) in
          let here = ap (λ (b : Bool). initialiser_code p + classes_left p (if b then classes else n ∷ without_number k classes)) is in
          omega (arith, rest, here)

  -- an initialiser runs above what is there, which was paid for it
  opened_falls : (old m : Machine) (c : Call) (body : Option Body) → body_of p c.method ≡ body → m.turns ≡ old.turns
      → code_left p m + initialiser_code p ≤ code_left p old → Falls p old (open_body false c body m)
  opened_falls old m c None is t le = ByEnd (Fault fault.NotHere) refl
  opened_falls old m c (Some body) is t le = ByCode (omega (arith, t)) (let most = body_at_most c.method 0 in omega (arith, most, le))

  initialise_falls : (f f1 : Frame) (m : Machine) (h : Heap) (k : ℕ) (c : Call) → code_of p f1 ≤ code_of p f → Falls p (upon f m) (initialise p k c (above f1 (with_heap h m)))
  initialise_falls f f1 m h k c le = by (is_number_among k m.uninitialised) refl
    where
      by : (b : Bool) → is_number_among k m.uninitialised ≡ b
          → Falls p (upon f m) (if b then open_call p false c (record (above f1 (with_heap h m)) { uninitialised = without_number k m.uninitialised }) else over_with (Fault fault.NotHere) (above f1 (with_heap h m)))
      by true e =
          opened_falls (upon f m) (record (above f1 (with_heap h m)) { uninitialised = without_number k m.uninitialised }) c (body_of p c.method) refl refl
          (let t = taken k m.uninitialised e in omega (arith, t, le))
      by false e = ByEnd (Fault fault.NotHere) refl

  opens_falls : (f f1 : Frame) (m : Machine) (h : Heap) (n : Native) → Owes f (Next.Opens n) f1 → Falls p (upon f m) (above (Frame.Does n) (above f1 (with_heap h m)))
  opens_falls f f1 m h n (inl lt) = ByCode (omega arith) (omega (arith, lt))
  opens_falls f f1 m h n (inr l) = ByRank (omega arith) (omega (arith, l.0)) (omega (arith, l.1))

  -- the one place where frames, turns and initialisers change
  apply_falls : (f f1 : Frame) (next : Next) (m : Machine) (h : Heap) → Owes f next f1 → Falls p (upon f m) (apply p f1 next (with_heap h m))
  apply_falls f f1 Next.On m h o = goes_falls f f1 m h o
  apply_falls f f1 Next.Branches m h o = goes_falls f f1 m h o
  apply_falls f f1 Next.Turn m h o = turn_falls (upon f m) (with_heap h m) m.turns (above f1) refl (λ m1. refl)
  apply_falls f f1 (Next.Close result) m h o = left_falls f f1 m h (keeps f1) result
  apply_falls f f1 (Next.Calls c) m h o = enter_falls (upon f m) (above f1 (with_heap h m)) c refl
  apply_falls f f1 (Next.Hears c) m h o = enter_falls (upon f m) (above f1 (with_heap h m)) c refl
  apply_falls f f1 (Next.Initialises k c) m h o = initialise_falls f f1 m h k c o
  apply_falls f f1 (Next.Opens n) m h o = opens_falls f f1 m h n o

  -- what each move of a frame owes
  abbrev Pays : Frame → Result (Acted Frame) → Type 0
  Pays f (Goes a h) = Owes f a.effect.next a.work
  Pays f (Halts o) = Unit {0}

  land_falls : (f : Frame) (r : Result (Acted Frame)) (m : Machine) → Pays f r → Falls p (upon f m) (land p r m).machine
  land_falls f (Goes a h) m o = apply_falls f a.work a.effect.next m h o
  land_falls f (Halts o) m pays = ByEnd o refl

  native_pays : (n : Native) (r : Result (Acted Native)) → Holds (OwedBy n) r → Pays (Frame.Does n) (mapped as_native r)
  native_pays n (Halts o) h = tt
  native_pays n (Goes a s) h = by a.effect.next h.holds
    where
      by : (next : Next) → NativeOwes n next a.work → Owes (Frame.Does n) next (Frame.Does a.work)
      by Next.On (inl lt) = inr (inl (omega arith, lt))
      by Next.On (inr l) = inr (inr (omega arith, l.0, l.1))
      by Next.Branches (inl lt) = inr (inl (omega arith, lt))
      by Next.Branches (inr l) = inr (inr (omega arith, l.0, l.1))
      by (Next.Opens m) o = inr (omega arith, o)
      by Next.Turn o = tt
      by (Next.Close v) o = tt
      by (Next.Calls c) o = tt
      by (Next.Hears c) o = tt
      by (Next.Initialises k c) o = omega arith

  module _ (well : BodiesLeadWell p) (f : CodeFrame) (body : Body) (its : body_of p f.work.method ≡ Some body) where
    abbrev behind : Operation → Next → Work → Frame
    behind o next w = Frame.Code (record f { place = place_after o (suc f.place) next; work = w })

    -- the frame behind an operation that is no label
    lower : (o : Operation) (target : ℕ) (w : Work) → slice_get body.code f.place ≡ Some o → is_label o ≡ false → LeadsOn body.code f.place target → w.method ≡ f.work.method
        → code_of p (Frame.Code (record f { place = target; work = w })) < code_of p (Frame.Code f)
    lower o target w e plain leads same =
        let less = less_left body.code f.place target o e plain leads in
        let old : left_of (body_of p f.work.method) f.place ≡ left_in body.code f.place = ap (λ b. left_of b f.place) its in
        let new : left_of (body_of p w.method) target ≡ left_in body.code target = ap (λ m. left_of (body_of p m) target) same ∙ ap (λ b. left_of b target) its in
        omega (arith, less, old, new)

    code_owes : (o : Operation) (next : Next) (w : Work) → slice_get body.code f.place ≡ Some o → is_label o ≡ false → w.method ≡ f.work.method → Owes (Frame.Code f) next (behind o next w)
    code_owes o Next.On w e plain same = inl (lower o (suc f.place) w e plain (inl (omega arith)) same)
    code_owes o Next.Branches w e plain same = inl (lower o (target_or o (suc f.place)) w e plain (well f.work.method body its f.place o e) same)
    code_owes o Next.Turn w e plain same = tt
    code_owes o (Next.Close v) w e plain same = tt
    code_owes o (Next.Calls c) w e plain same = tt
    code_owes o (Next.Hears c) w e plain same = tt
    code_owes o (Next.Initialises k c) w e plain same = let lt = lower o (suc f.place) w e plain (inl (omega arith)) same in omega (arith, lt)
    code_owes o (Next.Opens n) w e plain same = inl (lower o (suc f.place) w e plain (inl (omega arith)) same)

    acted_pays : (o : Operation) (r : Result (Acted Work)) → slice_get body.code f.place ≡ Some o → is_label o ≡ false → Keeps f.work.method r
        → Pays (Frame.Code f) (mapped as_code (mapped (stands f o) r))
    acted_pays o (Halts x) e plain k = tt
    acted_pays o (Goes a h) e plain k = code_owes o a.effect.next a.work e plain k.keeps

    operation_pays : (o : Operation) (h : Heap) → slice_get body.code f.place ≡ Some o → Pays (Frame.Code f) (mapped as_code (mapped (stands f o) (act p o f.work h)))
    operation_pays o h e = by (label_or_not o)
      where
        by : (o ≡ Operation.Label) ⊎ (is_label o ≡ false) → Pays (Frame.Code f) (mapped as_code (mapped (stands f o) (act p o f.work h)))
        by (inl label) = subst (λ x. Pays (Frame.Code f) (mapped as_code (mapped (stands f x) (act p x f.work h)))) (sym label) tt
        by (inr plain) = acted_pays o (act p o f.work h) e plain (act_keeps p o f.work h)

    fetched_pays : (o : Option Operation) (h : Heap) → slice_get body.code f.place ≡ o → Pays (Frame.Code f) (mapped as_code (need o h (λ o1. mapped (stands f o1) (act p o1 f.work h))))
    fetched_pays None h e = tt
    fetched_pays (Some o) h e = operation_pays o h e

  module _ (well : BodiesLeadWell p) where
    code_pays : (f : CodeFrame) (h : Heap) → Pays (Frame.Code f) (mapped as_code (execute p f h))
    code_pays f h = by (body_of p f.work.method) refl
      where
        by : (body : Option Body) → body_of p f.work.method ≡ body
            → Pays (Frame.Code f) (mapped as_code (need (option_and_then (λ (b : Body). slice_get b.code f.place) body) h (λ o. mapped (stands f o) (act p o f.work h))))
        by None e = tt
        by (Some body) e = fetched_pays well f body e (slice_get body.code f.place) h refl

    moves_pay : (main : Option ObjId) (f : Frame) (h : Heap) → Pays f (moves p main f h)
    moves_pay main (Frame.Code f) h = code_pays f h
    moves_pay main (Frame.Does n) h = native_pays n (go_on p main n h) (native_owes p main n h)

  -- the load
  abbrev loading : Load → Machine → Machine
  loading load m = record m { frames = []; load = load }

  script_taken : (scripts : List Script) (n : ℕ) (script : Script) → slice_get scripts n ≡ Some script → scripts_left p n scripts ≡ initialiser_code p + scripts_left p (suc n) scripts
  script_taken [] n script e = absurd cc
  script_taken (s ∷ scripts) zero script e = refl
  script_taken (s ∷ scripts) (suc n) script e = script_taken scripts n script e

  script_falls : (n : ℕ) (m : Machine) (r : Result Call) → scripts_left p n p.scripts ≡ initialiser_code p + scripts_left p (suc n) p.scripts
      → Falls p (loading (Scripts n) m) (land_script p r (loading (Scripts (suc n)) m))
  script_falls n m (Halts o) taken = ByEnd o refl
  script_falls n m (Goes c h) taken =
      opened_falls (loading (Scripts n) m) (with_heap h (loading (Scripts (suc n)) m)) c (body_of p c.method) refl refl (omega (arith, taken))

  scripts_fall : (n : ℕ) (m : Machine) (script : Option Script) → slice_get p.scripts n ≡ script → Falls p (loading (Scripts n) m) (load_script p n script (loading (Scripts n) m))
  scripts_fall n m None e = ByCode (omega arith) (omega arith)
  scripts_fall n m (Some script) e = script_falls n m (initialiser p script.initialiser (ScriptValue n) m.heap) (script_taken p.scripts n script e)

  abbrev IsConstruction : Acted ObjId → Type 0
  IsConstruction a = (c : Call) × (a.effect.next ≡ Next.Calls c)

  constructs_by_call : (k : ℕ) (arguments : List Operand) (h : Heap) → Holds IsConstruction (construct_file p k arguments h)
  constructs_by_call k arguments h =
      holds_need IsConstruction (file_class_at p k) h _ (λ class.
      holds_bind IsConstruction (prepare p class.constructor arguments h) _ (λ converted h1.
      holds_bind IsConstruction (allocate_as (file_shape p k class) h1) _ (λ o h2. record { holds = (call_of class.constructor (ref o) converted false, refl) })))

  main_falls : (m : Machine) (r : Result (Acted ObjId)) → Holds IsConstruction r → Falls p (loading MakesMain m) (land_main p r (loading MakesMain m)).machine
  main_falls m (Halts o) h = ByEnd o refl
  main_falls m (Goes a s) h = by a.effect.next h.holds.1
    where
      by : (next : Next) → next ≡ Next.Calls h.holds.0 → Falls p (loading MakesMain m) (proceed p next (record (loading MakesMain m) { heap = s; load = CompletesMain; main = Some a.work }))
      by (Next.Calls c) e = enter_falls (loading MakesMain m) (record (loading MakesMain m) { heap = s; load = CompletesMain; main = Some a.work }) c refl
      by Next.On e = absurd cc
      by Next.Branches e = absurd cc
      by Next.Turn e = absurd cc
      by (Next.Close v) e = absurd cc
      by (Next.Hears c) e = absurd cc
      by (Next.Initialises k c) e = absurd cc
      by (Next.Opens n) e = absurd cc

  made_falls : (m : Machine) (k : Option ℕ) → Falls p (loading MakesMain m) (make_main p k (loading MakesMain m)).machine
  made_falls m None = ByEnd (Fault fault.NoName) refl
  made_falls m (Some k) = main_falls m (construct_file p k [] m.heap) (constructs_by_call k [] m.heap)

  completed_falls : (m : Machine) (main : Option ObjId) → Falls p (loading CompletesMain m) (complete_main main (loading CompletesMain m))
  completed_falls m None = ByEnd (Fault fault.NotHere) refl
  completed_falls m (Some main) = ByCode (omega arith) (omega arith)

  load_falls : (name : List ℕ) (load : Load) (m : Machine) → is_idle_with [] load ≡ false → Falls p (loading load m) (load_on p name load (loading load m)).machine
  load_falls name (Scripts n) m goes = scripts_fall n m (slice_get p.scripts n) refl
  load_falls name MakesMain m goes = made_falls m (main_class name 0 p.classes m.heap.classes)
  load_falls name CompletesMain m goes = completed_falls m m.main
  load_falls name Loaded m goes = absurd cc

  -- a step of a machine that isn't idle
  pub step_falls : BodiesLeadWell p → (name : List ℕ) (m : Machine) → is_idle m ≡ false → Falls p m (step p name m).machine
  step_falls well name m goes = by m.frames goes
    where
      by : (frames : List Frame) → is_idle_with frames m.load ≡ false → Falls p (record m { frames = frames }) (step_on p name frames (record m { frames = frames })).machine
      by [] h = load_falls name m.load m h
      by (f ∷ frames) h = land_falls f (moves p m.main f m.heap) (record m { frames = frames }) (moves_pay well m.main f m.heap)

-- A play that didn't spend its turns is the same with more turns: no move sees the turns.
use Rattle.std.proofs.Common.{◌≡◌, refl, inl, inr, sym, ap, ◌∙◌, subst, append_assoc, append-nil, add-suc}
use Rattle.std.specs.Prelude.{◌≢◌, ◌⊎◌, ℕ, zero, suc, ◌+◌, List, [], ◌∷◌, ◌++◌, Bool, true, false, if◌then◌else◌, nat_lt, Option, Some, None, slice_get}
use Rattle.flex_base.specs.Story.{Story}
use Rattle.flex_base.specs.declared.event.UserEvent.{UserEvent}
use Rattle.flex_base.specs.declared.outcome.Outcome.{Outcome}
use Rattle.flex_base.specs.declared.outcome.Outcome.TheVariants.{Ended, TurnsSpent}
use Rattle.flex_base.specs.declared.record.TraceItem.{TraceItem}
use Rattle.flex_base.specs.declared.value.ObjId.{ObjId}
use Rattle.flex_world.specs.Objects.{is_number_among, without_number}
use Rattle.avm2_program.specs.declared.method.Body.{Body}
use Rattle.avm2_program.specs.declared.file.Program.{Program}
use Rattle.avm2_program.specs.declared.file.Script.{Script}
use Rattle.avm2_meaning.specs.declared.operand.Operand.{Operand}
use Rattle.avm2_meaning.specs.declared.operand.Operand.TheVariants.{ScriptValue}
use Rattle.avm2_meaning.specs.Results.{Goes, Halts, Result}
use Rattle.avm2_meaning.specs.Classes.{body_of}
use Rattle.avm2_meaning.specs.Frames.{keeps}
use Rattle.avm2_meaning.specs.declared.frame.Frame.{Frame}
use Rattle.avm2_meaning.specs.declared.frame.Frame.TheVariants as Frame
use Rattle.avm2_meaning.specs.Effects.{Acted}
use Rattle.avm2_meaning.specs.declared.effect.Call.{Call}
use Rattle.avm2_meaning.specs.declared.effect.Effect.{Effect}
use Rattle.avm2_meaning.specs.declared.effect.Next.{Next}
use Rattle.avm2_meaning.specs.declared.effect.Next.TheVariants as Next
use Rattle.avm2_meaning.specs.Calls.{initialiser}
use Rattle.avm2_meaning.specs.Making.{construct_file}
use Rattle.avm2_meaning.specs.Moves.{moves}
use Rattle.avm2_meaning.specs.Machine.{CompletesMain, Load, Loaded, Machine, MakesMain, Moved, Scripts, above, is_idle, moved, spend, take_turn, unseen}
use Rattle.avm2_meaning.specs.Apply.{apply, enter, give, give_if, initialise, land, leave, leave_code, made_by, open_body, open_call, proceed, settled, with_heap}
use Rattle.avm2_meaning.specs.Load.{complete_main, land_main, land_script, load_on, load_script, main_class, make_main}
use Rattle.avm2_meaning.specs.Step.{step, step_on}
use Rattle.avm2_meaning.specs.Trace.{Playing, Progress, advance, after_step, continue, first, more, next_line, run, step_or_line, told, unless_over}

-- the records begin with these
pub record Extends (xs all : List TraceItem) : Type 0 where
  pub rest : List TraceItem
  pub is : all ≡ xs ++ rest

extends_self : (xs : List TraceItem) → Extends xs xs
extends_self xs = record { rest = []; is = sym (append-nil xs) }

extends_then : (xs ys zs : List TraceItem) → Extends xs ys → Extends ys zs → Extends xs zs
extends_then xs ys zs a b = record { rest = a.rest ++ b.rest; is = b.is ∙ (ap (λ l. l ++ b.rest) a.is ∙ append_assoc xs a.rest b.rest) }

extends_more : (xs : List TraceItem) (item : Option TraceItem) → Extends xs (more xs item)
extends_more xs None = extends_self xs
extends_more xs (Some item) = record { rest = item ∷ []; is = refl }

-- with so many turns more
module _ (extra : ℕ) where
  -- with more turns
  abbrev pub more_turns : Machine → Machine
  more_turns m = record m { turns = extra + m.turns }

  -- the turns are spent, or the other is the same with more turns
  abbrev pub Like : Machine → Machine → Type 0
  Like a b = (a.outcome ≡ Some TurnsSpent) ⊎ (b ≡ more_turns a)

  abbrev pub Respects : (Machine → Machine) → Type 0
  Respects f = (m : Machine) → Like (f m) (f (more_turns m))

  spend_respects : (turns : ℕ) (k : Machine → Machine) (m : Machine) → Respects k → Like (spend turns k m) (spend (extra + turns) k (more_turns m))
  spend_respects zero k m r = inl refl
  spend_respects (suc turns) k m r =
      subst (λ t. Like (spend (suc turns) k m) (spend t k (more_turns m))) (sym (add-suc extra turns)) (r (record m { turns = turns }))

  take_turn_respects : (k : Machine → Machine) → Respects k → Respects (take_turn k)
  take_turn_respects k r m = spend_respects m.turns k m r

  choose_like : (b : Bool) (x y x1 y1 : Machine) → Like x x1 → Like y y1 → Like (if b then x else y) (if b then x1 else y1)
  choose_like true x y x1 y1 first second = first
  choose_like false x y x1 y1 first second = second

  open_body_more : (b : Bool) (c : Call) (body : Option Body) (m : Machine) → open_body b c body (more_turns m) ≡ more_turns (open_body b c body m)
  open_body_more b c None m = refl
  open_body_more b c (Some body) m = refl

  leave_code_more : (b : Bool) (m : Machine) → leave_code b (more_turns m) ≡ more_turns (leave_code b m)
  leave_code_more true m = refl
  leave_code_more false m = refl

  leave_more : (f : Frame) (m : Machine) → leave f (more_turns m) ≡ more_turns (leave f m)
  leave_more (Frame.Code f) m = leave_code_more f.is_activity m
  leave_more (Frame.Does n) m = refl

  give_more : (v : Option Operand) (frames : List Frame) (m : Machine) → give v frames (more_turns m) ≡ more_turns (give v frames m)
  give_more None frames m = refl
  give_more (Some v) [] m = refl
  give_more (Some v) (Frame.Code f ∷ frames) m = refl
  give_more (Some v) (Frame.Does n ∷ frames) m = refl

  give_if_more : (b : Bool) (v : Option Operand) (m : Machine) → give_if b v (more_turns m) ≡ more_turns (give_if b v m)
  give_if_more true v m = give_more v m.frames m
  give_if_more false v m = refl

  module _ (p : Program) where
    open_call_more : (b : Bool) (c : Call) (m : Machine) → open_call p b c (more_turns m) ≡ more_turns (open_call p b c m)
    open_call_more b c m = open_body_more b c (body_of p c.method) m

    enter_respects : (c : Call) → Respects (enter p c)
    enter_respects c m =
        choose_like (nat_lt m.level 256) _ _ _ _
        (take_turn_respects (λ m1. open_call p true c (record m1 { level = suc m1.level })) (λ m1. inr (open_call_more true c (record m1 { level = suc m1.level }))) m) (inr refl)

    initialise_respects : (k : ℕ) (c : Call) → Respects (initialise p k c)
    initialise_respects k c m =
        choose_like (is_number_among k m.uninitialised) _ _ _ _ (inr (open_call_more false c (record m { uninitialised = without_number k m.uninitialised }))) (inr refl)

    proceed_respects : (next : Next) → Respects (proceed p next)
    proceed_respects Next.On m = inr refl
    proceed_respects Next.Branches m = inr refl
    proceed_respects Next.Turn m = inr refl
    proceed_respects (Next.Close result) m = inr refl
    proceed_respects (Next.Calls c) m = enter_respects c m
    proceed_respects (Next.Hears c) m = enter_respects c m
    proceed_respects (Next.Initialises k c) m = initialise_respects k c m
    proceed_respects (Next.Opens n) m = inr refl

    apply_respects : (f : Frame) (next : Next) → Respects (apply p f next)
    apply_respects f (Next.Close result) m = inr (ap (give_if (keeps f) result) (leave_more f m) ∙ give_if_more (keeps f) result (leave f m))
    apply_respects f Next.Turn m = take_turn_respects (above f) (λ m1. inr refl) m
    apply_respects f Next.On m = inr refl
    apply_respects f Next.Branches m = inr refl
    apply_respects f (Next.Calls c) m = proceed_respects (Next.Calls c) (above f m)
    apply_respects f (Next.Hears c) m = proceed_respects (Next.Hears c) (above f m)
    apply_respects f (Next.Initialises k c) m = proceed_respects (Next.Initialises k c) (above f m)
    apply_respects f (Next.Opens n) m = inr refl

  -- the record of a step whose turns are spent is none, or that of the other
  abbrev pub ItemLike : Option TraceItem → Option TraceItem → Type 0
  ItemLike a b = (a ≡ None) ⊎ (a ≡ b)

  -- the same of what a step comes to
  abbrev pub LikeMoved : Moved → Moved → Type 0
  LikeMoved a b = ((a.machine.outcome ≡ Some TurnsSpent) × ItemLike a.item b.item) ⊎ (b ≡ moved a.item (more_turns a.machine))

  item_like : (next : Next) (item : Option TraceItem) (o o1 : Option Outcome) → o ≡ Some TurnsSpent → ItemLike (made_by next item o) (made_by next item o1)
  item_like (Next.Hears c) item o o1 spent = inl (ap (made_by (Next.Hears c) item) spent)
  item_like Next.On item o o1 spent = inr refl
  item_like Next.Branches item o o1 spent = inr refl
  item_like Next.Turn item o o1 spent = inr refl
  item_like (Next.Close result) item o o1 spent = inr refl
  item_like (Next.Calls c) item o o1 spent = inr refl
  item_like (Next.Initialises k c) item o o1 spent = inr refl
  item_like (Next.Opens n) item o o1 spent = inr refl

  settled_like : (e : Effect) (m n : Machine) → Like m n → LikeMoved (settled e m) (settled e n)
  settled_like e m n (inl spent) = inl (spent, item_like e.next e.item m.outcome n.outcome spent)
  settled_like e m n (inr same) = inr (ap (settled e) same)

  module _ (p : Program) where
    land_like : (r : Result (Acted Frame)) (m : Machine) → LikeMoved (land p r m) (land p r (more_turns m))
    land_like (Goes a s) m = settled_like a.effect _ _ (apply_respects p a.work a.effect.next (with_heap s m))
    land_like (Halts o) m = inr refl

    land_script_more : (r : Result Call) (m : Machine) → land_script p r (more_turns m) ≡ more_turns (land_script p r m)
    land_script_more (Goes c s) m = open_call_more p false c (with_heap s m)
    land_script_more (Halts o) m = refl

    load_script_more : (n : ℕ) (script : Option Script) (m : Machine) → load_script p n script (more_turns m) ≡ more_turns (load_script p n script m)
    load_script_more n None m = refl
    load_script_more n (Some script) m = land_script_more (initialiser p script.initialiser (ScriptValue n) m.heap) (record m { load = Scripts (suc n) })

    land_main_like : (r : Result (Acted ObjId)) (m : Machine) → LikeMoved (land_main p r m) (land_main p r (more_turns m))
    land_main_like (Goes a s) m = settled_like a.effect _ _ (proceed_respects p a.effect.next (record m { heap = s; load = CompletesMain; main = Some a.work }))
    land_main_like (Halts o) m = inr refl

    make_main_like : (k : Option ℕ) (m : Machine) → LikeMoved (make_main p k m) (make_main p k (more_turns m))
    make_main_like None m = inr refl
    make_main_like (Some k) m = land_main_like (construct_file p k [] m.heap) m

    complete_main_like : (main : Option ObjId) (m : Machine) → complete_main main (more_turns m) ≡ more_turns (complete_main main m)
    complete_main_like None m = refl
    complete_main_like (Some main) m = refl

    load_on_like : (name : List ℕ) (load : Load) (m : Machine) → LikeMoved (load_on p name load m) (load_on p name load (more_turns m))
    load_on_like name (Scripts n) m = inr (ap unseen (load_script_more n (slice_get p.scripts n) m))
    load_on_like name MakesMain m = make_main_like (main_class name 0 p.classes m.heap.classes) m
    load_on_like name CompletesMain m = inr (ap unseen (complete_main_like m.main m))
    load_on_like name Loaded m = inr refl

    step_on_like : (name : List ℕ) (frames : List Frame) (m : Machine) → LikeMoved (step_on p name frames m) (step_on p name frames (more_turns m))
    step_on_like name [] m = load_on_like name m.load m
    step_on_like name (f ∷ frames) m = land_like (moves p m.main f m.heap) (record m { frames = frames })

    step_like : (name : List ℕ) (m : Machine) → LikeMoved (step p name m) (step p name (more_turns m))
    step_like name m = step_on_like name m.frames m

  -- the same of a play
  abbrev pub more_for : Playing → Playing
  more_for play = record play { machine = more_turns play.machine }

  -- a story that isn't that of spent turns
  abbrev pub NotSpent : Story → Type 0
  NotSpent s = s.outcome ≢ TurnsSpent

  module _ (p : Program) (name : List ℕ) where
    -- what a play of so many steps shows, one with more turns shows too
    abbrev pub Stays : ℕ → Playing → Type 0
    Stays n play = (s : Story) → run p name n play ≡ Some s → NotSpent s → run p name n (more_for play) ≡ Some s

    -- a play whose turns are spent shows just that
    spent_shows : (n : ℕ) (play : Playing) (s : Story) → play.machine.outcome ≡ Some TurnsSpent → run p name n play ≡ Some s → s.outcome ≡ TurnsSpent
    spent_shows zero play s spent e = absurd cc
    spent_shows (suc n) play s spent e = shown (unless_over_spent play.machine.outcome spent) e
      where
        unless_over_spent : (o : Option Outcome) → o ≡ Some TurnsSpent → unless_over p name o play ≡ told TurnsSpent play
        unless_over_spent o is = ap (λ o1. unless_over p name o1 play) is

        shown : advance p name play ≡ told TurnsSpent play → run p name (suc n) play ≡ Some s → s.outcome ≡ TurnsSpent
        shown at e1 = outcome_of (sym (ap (continue p name (λ next. run p name n next)) at) ∙ e1)
          where
            outcome_of : continue p name (λ next. run p name n next) (told TurnsSpent play) ≡ Some s → s.outcome ≡ TurnsSpent
            outcome_of is = cc

    after_like : (n : ℕ) (play : Playing) (a b : Moved) → LikeMoved a b → ((next : Playing) → Stays n next)
        → (s : Story) → continue p name (λ next. run p name n next) (after_step play a) ≡ Some s → NotSpent s
        → continue p name (λ next. run p name n next) (after_step (more_for play) b) ≡ Some s
    after_like n play a b (inl spent) ih s e not = absurd (not (spent_shows n _ s spent.0 e))
    after_like n play a b (inr same) ih s e not =
        ap (λ b1. continue p name (λ next. run p name n next) (after_step (more_for play) b1)) same ∙ ih _ s e not

    next_line_like : (n : ℕ) (events : List UserEvent) (play : Playing) → ((next : Playing) → Stays n next)
        → (s : Story) → continue p name (λ next. run p name n next) (next_line events play) ≡ Some s → NotSpent s
        → continue p name (λ next. run p name n next) (next_line events (more_for play)) ≡ Some s
    next_line_like n [] play ih s e not = e
    next_line_like n (event ∷ events) play ih s e not = ih _ s e not

    step_or_line_like : (n : ℕ) (idle : Bool) (play : Playing) → ((next : Playing) → Stays n next)
        → (s : Story) → continue p name (λ next. run p name n next) (step_or_line p name idle play) ≡ Some s → NotSpent s
        → continue p name (λ next. run p name n next) (step_or_line p name idle (more_for play)) ≡ Some s
    step_or_line_like n true play ih s e not = next_line_like n play.events play ih s e not
    step_or_line_like n false play ih s e not = after_like n play _ _ (step_like p name play.machine) ih s e not

    unless_over_like : (n : ℕ) (o : Option Outcome) (play : Playing) → ((next : Playing) → Stays n next)
        → (s : Story) → continue p name (λ next. run p name n next) (unless_over p name o play) ≡ Some s → NotSpent s
        → continue p name (λ next. run p name n next) (unless_over p name o (more_for play)) ≡ Some s
    unless_over_like n (Some o) play ih s e not = e
    unless_over_like n None play ih s e not = step_or_line_like n (is_idle play.machine) play ih s e not

    pub stays : (n : ℕ) (play : Playing) → Stays n play
    stays zero play s e not = absurd cc
    stays (suc n) play s e not = unless_over_like n play.machine.outcome play (stays n) s e not

  more_like : (xs : List TraceItem) (a b : Option TraceItem) → ItemLike a b → Extends (more xs a) (more xs b)
  more_like xs a b (inl none) = subst (λ a1. Extends (more xs a1) (more xs b)) (sym none) (extends_more xs b)
  more_like xs a b (inr same) = subst (λ b1. Extends (more xs a) (more xs b1)) same (extends_self (more xs a))

  module _ (p : Program) (name : List ℕ) where
    abbrev pub after : ℕ → Progress → Option Story
    after n x = continue p name (λ next. run p name n next) x

    -- a play shows its records so far, and more
    abbrev pub Shows : ℕ → Playing → Type 0
    Shows n play = (s : Story) → run p name n play ≡ Some s → Extends play.records s.records

    told_shows : (n : ℕ) (o : Outcome) (play : Playing) (s : Story) → after n (told o play) ≡ Some s → play.records ≡ s.records
    told_shows n o play s e = cc

    next_line_shows : (n : ℕ) (events : List UserEvent) (play : Playing) → ((next : Playing) → Shows n next) → (s : Story) → after n (next_line events play) ≡ Some s → Extends play.records s.records
    next_line_shows n [] play ih s e = subst (λ r. Extends play.records r) (told_shows n Ended play s e) (extends_self play.records)
    next_line_shows n (event ∷ events) play ih s e = ih _ s e

    step_or_line_shows : (n : ℕ) (idle : Bool) (play : Playing) → ((next : Playing) → Shows n next) → (s : Story) → after n (step_or_line p name idle play) ≡ Some s → Extends play.records s.records
    step_or_line_shows n true play ih s e = next_line_shows n play.events play ih s e
    step_or_line_shows n false play ih s e = extends_then _ _ _ (extends_more play.records (step p name play.machine).item) (ih _ s e)

    unless_over_shows : (n : ℕ) (o : Option Outcome) (play : Playing) → ((next : Playing) → Shows n next) → (s : Story) → after n (unless_over p name o play) ≡ Some s → Extends play.records s.records
    unless_over_shows n (Some o) play ih s e = subst (λ r. Extends play.records r) (told_shows n o play s e) (extends_self play.records)
    unless_over_shows n None play ih s e = step_or_line_shows n (is_idle play.machine) play ih s e

    shows : (n : ℕ) (play : Playing) → Shows n play
    shows zero play s e = absurd cc
    shows (suc n) play s e = unless_over_shows n play.machine.outcome play (shows n) s e

    spent_told : (n : ℕ) (play : Playing) (s : Story) → play.machine.outcome ≡ Some TurnsSpent → run p name n play ≡ Some s → play.records ≡ s.records
    spent_told zero play s spent e = absurd cc
    spent_told (suc n) play s spent e = told_shows n TurnsSpent play s (sym (ap (λ o. after n (unless_over p name o play)) spent) ∙ e)

    -- what a play with more turns shows goes on from what the play shows
    abbrev pub GoesOn : ℕ → ℕ → Playing → Type 0
    GoesOn n n1 play = (s s1 : Story) → run p name n play ≡ Some s → run p name n1 (more_for play) ≡ Some s1 → Extends s.records s1.records

    told_goes_on : (n n1 : ℕ) (o : Outcome) (play : Playing) (s s1 : Story) → after n (told o play) ≡ Some s → after n1 (told o (more_for play)) ≡ Some s1 → Extends s.records s1.records
    told_goes_on n n1 o play s s1 e e1 =
        subst (λ r. Extends r s1.records) (told_shows n o play s e) (subst (λ r. Extends play.records r) (told_shows n1 o (more_for play) s1 e1) (extends_self play.records))

    after_goes_on : (n n1 : ℕ) (play : Playing) (a b : Moved) → LikeMoved a b → ((next : Playing) → GoesOn n n1 next)
        → (s s1 : Story) → after n (after_step play a) ≡ Some s → after n1 (after_step (more_for play) b) ≡ Some s1 → Extends s.records s1.records
    after_goes_on n n1 play a b (inl spent) ih s s1 e e1 =
        subst (λ r. Extends r s1.records) (spent_told n _ s spent.0 e) (extends_then _ _ _ (more_like play.records a.item b.item spent.1) (shows n1 _ s1 e1))
    after_goes_on n n1 play a b (inr same) ih s s1 e e1 = ih _ s s1 e (sym (ap (λ b1. after n1 (after_step (more_for play) b1)) same) ∙ e1)

    next_line_goes_on : (n n1 : ℕ) (events : List UserEvent) (play : Playing) → ((next : Playing) → GoesOn n n1 next)
        → (s s1 : Story) → after n (next_line events play) ≡ Some s → after n1 (next_line events (more_for play)) ≡ Some s1 → Extends s.records s1.records
    next_line_goes_on n n1 [] play ih s s1 e e1 = told_goes_on n n1 Ended play s s1 e e1
    next_line_goes_on n n1 (event ∷ events) play ih s s1 e e1 = ih _ s s1 e e1

    step_or_line_goes_on : (n n1 : ℕ) (idle : Bool) (play : Playing) → ((next : Playing) → GoesOn n n1 next)
        → (s s1 : Story) → after n (step_or_line p name idle play) ≡ Some s → after n1 (step_or_line p name idle (more_for play)) ≡ Some s1 → Extends s.records s1.records
    step_or_line_goes_on n n1 true play ih s s1 e e1 = next_line_goes_on n n1 play.events play ih s s1 e e1
    step_or_line_goes_on n n1 false play ih s s1 e e1 = after_goes_on n n1 play _ _ (step_like p name play.machine) ih s s1 e e1

    unless_over_goes_on : (n n1 : ℕ) (o : Option Outcome) (play : Playing) → ((next : Playing) → GoesOn n n1 next)
        → (s s1 : Story) → after n (unless_over p name o play) ≡ Some s → after n1 (unless_over p name o (more_for play)) ≡ Some s1 → Extends s.records s1.records
    unless_over_goes_on n n1 (Some o) play ih s s1 e e1 = told_goes_on n n1 o play s s1 e e1
    unless_over_goes_on n n1 None play ih s s1 e e1 = step_or_line_goes_on n n1 (is_idle play.machine) play ih s s1 e e1

    pub goes_on : (n n1 : ℕ) (play : Playing) → GoesOn n n1 play
    goes_on zero n1 play s s1 e e1 = absurd cc
    goes_on (suc n) zero play s s1 e e1 = absurd cc
    goes_on (suc n) (suc n1) play s s1 e e1 = unless_over_goes_on n n1 play.machine.outcome play (goes_on n n1) s s1 e e1

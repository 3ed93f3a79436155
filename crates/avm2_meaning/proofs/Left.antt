-- What remains of a play: code until the next turn, native work and the load.
use Rattle.std.specs.Prelude.{ℕ, zero, suc, ◌+◌, ◌-◌, ◌<◌, ◌≤◌, ◌≡◌, List, [], ◌∷◌, length, Bool, true, false, if◌then◌else◌, Option, Some, None, slice_get}
use Rattle.flex_base.specs.declared.outcome.Outcome.{Outcome}
use Rattle.avm2_program.specs.declared.method.Body.{Body}
use Rattle.avm2_program.specs.declared.method.Method.{Method}
use Rattle.avm2_program.specs.declared.operation.Operation.{Operation}
use Rattle.avm2_program.specs.declared.file.Program.{Program}
use Rattle.avm2_program.specs.declared.file.Script.{Script}
use Rattle.avm2_meaning.specs.Classes.{body_of}
use Rattle.avm2_meaning.specs.declared.frame.ChangeStep.{ChangeStep}
use Rattle.avm2_meaning.specs.declared.frame.ChangeStep.TheVariants as ChangeStep
use Rattle.avm2_meaning.specs.declared.frame.Frame.{Frame}
use Rattle.avm2_meaning.specs.declared.frame.Frame.TheVariants as Frame
use Rattle.avm2_meaning.specs.declared.frame.Native.{Native}
use Rattle.avm2_meaning.specs.declared.frame.Native.TheVariants as Native
use Rattle.avm2_meaning.specs.Machine.{CompletesMain, Load, Loaded, Machine, MakesMain, Scripts}

abbrev pub is_label : Operation → Bool
is_label Operation.Label = true
is_label _ = false

abbrev pub one_if : {A : Type 0} → Option A → ℕ
one_if None = 0
one_if (Some x) = 1

-- of so much code; none at a label, which takes a turn
abbrev pub left_at : Option Operation → ℕ → ℕ
left_at None n = n
left_at (Some o) n = if is_label o then 0 else n

-- the code from a number on
abbrev pub left_in : List Operation → ℕ → ℕ
left_in code number = left_at (slice_get code number) (length code - number)

abbrev pub left_of : Option Body → ℕ → ℕ
left_of None number = 0
left_of (Some body) number = left_in body.code number

abbrev pub body_length : Option Body → ℕ
body_length None = 0
body_length (Some body) = length body.code

abbrev pub lengths : List Method → ℕ
lengths [] = 0
lengths (m ∷ methods) = body_length m.body + lengths methods

-- of a change that leaves its state first a turn is taken
abbrev pub steps_rank : List ChangeStep → ℕ
steps_rank [] = 1
steps_rank (ChangeStep.Leave ∷ steps) = 1
steps_rank (ChangeStep.Store ∷ steps) = 2 + steps_rank steps
steps_rank (ChangeStep.Enter ∷ steps) = 2 + steps_rank steps
steps_rank (ChangeStep.Announce ∷ steps) = 2 + steps_rank steps
steps_rank (ChangeStep.End ∷ steps) = 2 + steps_rank steps

-- native work by what it may open or become
abbrev pub rank_of : Native → ℕ
rank_of (Native.Dispatches d) = 0
rank_of (Native.Starts b) = 0
rank_of (Native.Empties container children) = 0
rank_of (Native.Sends event target) = 1
rank_of (Native.Announces event target) = 1
rank_of (Native.Adds a) = 2 + one_if a.from
rank_of (Native.Changes c) = steps_rank c.steps
rank_of (Native.Defaults target event) = 2
rank_of (Native.Acts event) = 3
rank_of (Native.Begins event) = 4

-- and by its lists: a listener takes a turn, and isn't counted
abbrev pub parts_of : Native → ℕ
parts_of (Native.Dispatches d) = suc (length d.arrivals)
parts_of (Native.Starts b) = suc (one_if b.running + length b.bindings)
parts_of (Native.Empties container children) = suc (length children)
parts_of (Native.Sends event target) = 1
parts_of (Native.Announces event target) = 1
parts_of (Native.Adds a) = 1
parts_of (Native.Changes c) = 1
parts_of (Native.Defaults target event) = 1
parts_of (Native.Acts event) = 1
parts_of (Native.Begins event) = 1

abbrev pub rank : Frame → ℕ
rank (Frame.Code f) = 0
rank (Frame.Does n) = rank_of n

abbrev pub parts : Frame → ℕ
parts (Frame.Code f) = 0
parts (Frame.Does n) = parts_of n

abbrev pub ranks : List Frame → ℕ
ranks [] = 0
ranks (f ∷ frames) = rank f + ranks frames

abbrev pub all_parts : List Frame → ℕ
all_parts [] = 0
all_parts (f ∷ frames) = parts f + all_parts frames

module _ (p : Program) where
  abbrev pub code_of : Frame → ℕ
  code_of (Frame.Code f) = suc (left_of (body_of p f.work.method) f.place)
  code_of (Frame.Does n) = 0

  abbrev pub codes : List Frame → ℕ
  codes [] = 0
  codes (f ∷ frames) = code_of f + codes frames

  -- an initialiser that wasn't run, whatever its body
  abbrev pub initialiser_code : ℕ
  initialiser_code = suc (suc (lengths p.methods))

  abbrev pub classes_left : List ℕ → ℕ
  classes_left [] = 0
  classes_left (k ∷ classes) = initialiser_code + classes_left classes

  -- the scripts from a number on
  abbrev pub scripts_left : ℕ → List Script → ℕ
  scripts_left n [] = 0
  scripts_left zero (script ∷ scripts) = initialiser_code + scripts_left zero scripts
  scripts_left (suc n) (script ∷ scripts) = scripts_left n scripts

  abbrev pub load_left : Load → ℕ
  load_left (Scripts n) = 3 + scripts_left n p.scripts
  load_left MakesMain = 2
  load_left CompletesMain = 1
  load_left Loaded = 0

  abbrev pub code_left : Machine → ℕ
  code_left m = codes m.frames + classes_left m.uninitialised + load_left m.load

  -- a step ends the play; or it takes a turn; or it lowers the code that is left; or it leaves the code, and lowers native work
  pub data Falls (old new : Machine) : Type 0 where
    ByEnd : (o : Outcome) → new.outcome ≡ Some o → Falls old new
    ByTurn : new.turns < old.turns → Falls old new
    ByCode : new.turns ≤ old.turns → code_left new < code_left old → Falls old new
    ByRank : new.turns ≤ old.turns → code_left new ≤ code_left old → ranks new.frames < ranks old.frames → Falls old new
    ByParts : new.turns ≤ old.turns → code_left new ≤ code_left old → ranks new.frames ≤ ranks old.frames → all_parts new.frames < all_parts old.frames → Falls old new

-- The machine of a program whose branches lead well comes to rest: by turns, by code, and by native work.
use Rattle.std.proofs.Common.{◌≡◌, refl, ap, ℕ, zero, suc, ◌<◌, ◌≤◌, Bool, true, false, List, Option, Some, None, arith}
use Rattle.flex_base.specs.declared.outcome.Outcome.{Outcome}
use Rattle.avm2_program.specs.declared.file.Program.{Program}
use Rattle.avm2_meaning.specs.Machine.{Machine, is_idle}
use Rattle.avm2_meaning.specs.Step.{step}
use Rattle.avm2_meaning.proofs.Branches.{BodiesLeadWell}
use Rattle.avm2_meaning.proofs.Falls.{step_falls}
use Rattle.avm2_meaning.proofs.Left.{ByCode, ByEnd, ByParts, ByRank, ByTurn, Falls, all_parts, code_left, ranks}

-- the steps from a machine come to an outcome, or to where nothing is to be done
pub data Ends (p : Program) (name : List ℕ) : Machine → Type 0 where
  IsOver : (m : Machine) (o : Outcome) → m.outcome ≡ Some o → Ends p name m
  Rests : (m : Machine) → m.outcome ≡ None → is_idle m ≡ true → Ends p name m
  GoesOn : (m : Machine) → m.outcome ≡ None → is_idle m ≡ false → Ends p name (step p name m).machine → Ends p name m

-- in so many steps
abbrev pub count : (p : Program) (name : List ℕ) (m : Machine) → Ends p name m → ℕ
count p name m (IsOver m1 o h) = 0
count p name m (Rests m1 h i) = 0
count p name m (GoesOn m1 h i e) = suc (count p name (step p name m).machine e)

module _ (p : Program) (name : List ℕ) (well : BodiesLeadWell p) where
  one_step : (m : Machine) → (Falls p m (step p name m).machine → Ends p name (step p name m).machine) → Ends p name m
  one_step m next = by m.outcome refl
    where
      idle_or_not : m.outcome ≡ None → (b : Bool) → is_idle m ≡ b → Ends p name m
      idle_or_not h true i = Rests m h i
      idle_or_not h false i = GoesOn m h i (next (step_falls p well name m i))

      by : (o : Option Outcome) → m.outcome ≡ o → Ends p name m
      by (Some o) h = IsOver m o h
      by None h = idle_or_not h (is_idle m) refl

  -- machines of which less is left
  abbrev ByTurns : ℕ → Type 0
  ByTurns t = (m : Machine) → m.turns < t → Ends p name m

  abbrev WithCode : ℕ → ℕ → Type 0
  WithCode t c = (m : Machine) → m.turns ≤ t → code_left p m < c → Ends p name m

  abbrev WithRank : ℕ → ℕ → ℕ → Type 0
  WithRank t c r = (m : Machine) → m.turns ≤ t → code_left p m ≤ c → ranks m.frames < r → Ends p name m

  abbrev WithParts : ℕ → ℕ → ℕ → ℕ → Type 0
  WithParts t c r n = (m : Machine) → m.turns ≤ t → code_left p m ≤ c → ranks m.frames ≤ r → all_parts m.frames < n → Ends p name m

  -- a machine behind a step by which less is left
  fallen : (t c r n : ℕ) → ByTurns t → WithCode t c → WithRank t c r → WithParts t c r n → (old new : Machine)
      → old.turns ≤ t → code_left p old ≤ c → ranks old.frames ≤ r → all_parts old.frames ≤ n → Falls p old new → Ends p name new
  fallen t c r n turns code rank parts old new et ec er en (ByEnd o is) = IsOver new o is
  fallen t c r n turns code rank parts old new et ec er en (ByTurn lt) = turns new (omega (arith, lt, et))
  fallen t c r n turns code rank parts old new et ec er en (ByCode le lt) = code new (omega (arith, le, et)) (omega (arith, lt, ec))
  fallen t c r n turns code rank parts old new et ec er en (ByRank le lc lt) = rank new (omega (arith, le, et)) (omega (arith, lc, ec)) (omega (arith, lt, er))
  fallen t c r n turns code rank parts old new et ec er en (ByParts le lc lr lt) =
      parts new (omega (arith, le, et)) (omega (arith, lc, ec)) (omega (arith, lr, er)) (omega (arith, lt, en))

  by_parts : (t c r : ℕ) → ByTurns t → WithCode t c → WithRank t c r → (n : ℕ) → WithParts t c r n
  by_parts t c r turns code rank zero m et ec er en = absurd (omega (arith, en))
  by_parts t c r turns code rank (suc n) m et ec er en =
      one_step m (fallen t c r n turns code rank (by_parts t c r turns code rank n) m (step p name m).machine et ec er (omega (arith, en)))

  by_rank : (t c : ℕ) → ByTurns t → WithCode t c → (r : ℕ) → WithRank t c r
  by_rank t c turns code zero m et ec er = absurd (omega (arith, er))
  by_rank t c turns code (suc r) m et ec er = by_parts t c r turns code (by_rank t c turns code r) (suc (all_parts m.frames)) m et ec (omega (arith, er)) (omega arith)

  by_code : (t : ℕ) → ByTurns t → (c : ℕ) → WithCode t c
  by_code t turns zero m et ec = absurd (omega (arith, ec))
  by_code t turns (suc c) m et ec = by_rank t c turns (by_code t turns c) (suc (ranks m.frames)) m et (omega (arith, ec)) (omega arith)

  by_turns : (t : ℕ) → ByTurns t
  by_turns zero m et = absurd (omega (arith, et))
  by_turns (suc t) m et = by_code t (by_turns t) (suc (code_left p m)) m (omega (arith, et)) (omega arith)

  pub ends : (m : Machine) → Ends p name m
  ends m = by_turns (suc m.turns) m (omega arith)

  -- in one way only
  same_count : (m : Machine) (a b : Ends p name m) → count p name m a ≡ count p name m b
  same_count m (IsOver m1 o h) (IsOver m2 o2 g) = refl
  same_count m (IsOver m1 o h) (Rests m2 g i) = refl
  same_count m (IsOver m1 o h) (GoesOn m2 g i b) = absurd cc
  same_count m (Rests m1 h i) (IsOver m2 o g) = refl
  same_count m (Rests m1 h i) (Rests m2 g j) = refl
  same_count m (Rests m1 h i) (GoesOn m2 g j b) = absurd cc
  same_count m (GoesOn m1 h i a) (IsOver m2 o g) = absurd cc
  same_count m (GoesOn m1 h i a) (Rests m2 g j) = absurd cc
  same_count m (GoesOn m1 h i a) (GoesOn m2 g j b) = ap suc (same_count (step p name m1).machine a b)

  -- how many steps the machine takes until it rests: the measure of a loop over steps
  abbrev pub steps_left : Machine → ℕ
  steps_left m = count p name m (ends m)

  -- a step takes one of them
  pub steps_fall : (m : Machine) → m.outcome ≡ None → is_idle m ≡ false → steps_left (step p name m).machine < steps_left m
  steps_fall m open_still goes = by (ends m)
    where
      by : (e : Ends p name m) → steps_left (step p name m).machine < count p name m e
      by (IsOver m1 o h) = absurd cc
      by (Rests m1 h i) = absurd cc
      by (GoesOn m1 h i e) = omega (arith, same_count (step p name m1).machine (ends (step p name m1).machine) e)

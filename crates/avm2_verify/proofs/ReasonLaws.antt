-- The first reason at a place, reason by reason.
use Rattle.std.proofs.Common.{◌≡◌, ℕ, zero, suc, ◌<◌, ◌≤◌, ◌⊎◌, inl, inr, ⊎_elim, List, [], length, Bool, true, false, Option, Some, None, Ok, Err, refl, sym, ap, ◌∙◌, subst, arith, ℤ, pos, negsuc}
use Rattle.std.specs.Prelude.{Result, IsTrue, ◌↔◌, if◌then◌else◌, not, ◌&&◌, nat_le}
use Rattle.std.specs.List.{list_any}
use Rattle.std.proofs.lemmas.Bool.{cases_lt, leb-true, le-leb}
use Rattle.abc_format.specs.declared.records.Abc.{Abc}
use Rattle.abc_format.specs.declared.records.MethodBody.{MethodBody}
use Rattle.avm2_code.specs.declared.instruction.Instruction.{Instruction}
use Rattle.avm2_code.specs.declared.instruction.Instruction.TheVariants.{Label}
use Rattle.avm2_code.specs.declared.reason.CodeReason.{CodeReason}
use Rattle.avm2_code.specs.declared.reason.CodeReason.TheVariants.{HasExceptions, Cut, UnknownOpcode, Number, Index, NotPlayed, OffInstruction, BackwardToNoLabel, StackDepth, LocalNumber, FallsOff}
use Rattle.avm2_code.specs.Body.{HasInstruction}
use Rattle.avm2_code.specs.Reading.{instruction_at}
use Rattle.avm2_code.specs.Table.{row, operands, IsUnreadable}
use Rattle.avm2_code.proofs.InstructionLaws.{unreadable}
use Rattle.verified_code.specs.declared.Depths.{Depths}
use Rattle.verified_code.specs.Operands.{is_missing, is_unplayed}
use Rattle.verified_code.specs.Paths.{Reads, successor, branch_place, LeadsOff}
use Rattle.verified_code.specs.Verified.{HasReason, HasWrongDepths, TooManyValues, ScopesBelow, TooManyScopes, Different, HasWrongLocals, IsRefused, IsFirstOf, LeadsBack, rank, no_depths, depths_behind, KeepsDepths, IsPassed}
use Rattle.verified_code.proofs.PathLaws.{path_stands}
use Rattle.verified_code.proofs.ReasonLaws.{same_rank}
use Rattle.avm2_verify.specs.Followed.{BodyDiffers}
use Rattle.avm2_verify.specs.Reasons.{HasWrongLimits, is_label, is_label_read, met_reason, target_reason, branch_reason, passed_reason, own_reason, BodyLacks, BodyLeaves, NoneBelow, IsReasonAt}
use Rattle.avm2_verify.specs.Reasons as limits
use Rattle.avm2_verify.specs.Tables.{AreMarks, AreDepthsOf}
use Rattle.avm2_verify.specs.Ways.{passing, met_at}
use Rattle.avm2_verify.proofs.WayLaws.{met_is, is_met}

some_same : {A : Type 0} (x y : A) → Some x ≡ Some y → x ≡ y
some_same x y e = cc

pos_same : (x y : ℕ) → pos x ≡ pos y → x ≡ y
pos_same x y e = cc

ok_same : (x y : Instruction × ℕ) → (let r : Result (Instruction × ℕ) CodeReason = Ok x in r) ≡ Ok y → x ≡ y
ok_same x y e = cc

err_same : (x y : CodeReason) → (let r : Result (Instruction × ℕ) CodeReason = Err x in r) ≡ Err y → x ≡ y
err_same x y e = cc

module _ (a : Abc) (b : MethodBody) where
  -- each reason stands at an instruction, where there is code
  pub reason_inside : (r : CodeReason) (place : ℕ) → 0 < length b.code → HasReason a b r place → HasInstruction b.code place
  reason_inside r place lt h = by r h
    where
      start : place ≡ 0 → HasInstruction b.code place
      start e = record { count = 0; read = e; inside = omega arith }

      no_code : b.code ≡ [] → HasInstruction b.code place
      no_code e = absurd (let n = ap length e in omega arith)

      by : (s : CodeReason) → HasReason a b s place → HasInstruction b.code place
      by HasExceptions h = start h.0
      by Cut h = h.0
      by UnknownOpcode h = h.0
      by Number h = h.0
      by Index h = h.2.stands
      by NotPlayed h = h.2.stands
      by OffInstruction h = h.2.stands
      by BackwardToNoLabel h = h.2.stands
      by StackDepth (inl h) = start h.0
      by StackDepth (inr h) = h.reads.stands
      by LocalNumber (inl h) = start h.0
      by LocalNumber (inr h) = h.2.stands
      by FallsOff (inl h) = no_code h.0
      by FallsOff (inr h) = h.reads.stands

  -- one reason more isn't there
  extend : (place n : ℕ) (r : CodeReason) → rank r ≡ n → NoneBelow a b n place → (HasReason a b r place → ⊥) → NoneBelow a b (suc n) place
  extend place n r e none other s lt h = ⊎_elim (λ l. none s l h) (λ le. other (subst (λ t. HasReason a b t place) (same_rank s r (omega arith)) h)) (cases_lt (rank s) n)

  pub no_exceptions : (place : ℕ) → ((place ≡ 0) × (0 < length b.exceptions) → ⊥) → NoneBelow a b 1 place
  no_exceptions place h = extend place 0 HasExceptions refl (λ s lt g. absurd (omega arith)) h

  pub has_exceptions : (place : ℕ) → place ≡ 0 → 0 < length b.exceptions → IsReasonAt a b place (Some HasExceptions)
  has_exceptions place e lt = ((e, lt), λ s less h. absurd (omega arith))

  -- a reason at place 0 is the first
  pub first_of_start : (r : CodeReason) → IsReasonAt a b 0 (Some r) → IsFirstOf a b 0 r
  first_of_start r h = record { has = h.0; first = first }
    where
      first : (other : CodeReason) (at : ℕ) → HasReason a b other at → (0 < at) ⊎ ((0 ≡ at) × (rank r ≤ rank other))
      first other zero g = inr (refl, ⊎_elim (λ l. absurd (h.1 other l g)) (λ le. le) (cases_lt (rank other) (rank r)))
      first other (suc at) g = inl (omega arith)

  -- the first reason at a place is the first of all, where none stands before it
  pub first_of_all : (place : ℕ) (r : CodeReason) → IsReasonAt a b place (Some r) → ((p : ℕ) → p < place → (s : CodeReason) → HasReason a b s p → ⊥) → IsFirstOf a b place r
  first_of_all place r h before = record { has = h.0; first = first }
    where
      first : (other : CodeReason) (at : ℕ) → HasReason a b other at → (place < at) ⊎ ((place ≡ at) × (rank r ≤ rank other))
      first other at g = ⊎_elim (λ l. absurd (before at l other g)) (λ le. ⊎_elim (λ l. inl l) (λ ge. here (omega arith)) (cases_lt place at)) (cases_lt at place)
        where
          here : at ≡ place → (place < at) ⊎ ((place ≡ at) × (rank r ≤ rank other))
          here e = inr (sym e, ⊎_elim (λ l. absurd (h.1 other l (subst (HasReason a b other) e g))) (λ le. le) (cases_lt (rank other) (rank r)))

  module _ (marks : List Bool) (m : AreMarks b.code marks) (place : ℕ) (stands : HasInstruction b.code place) where
    -- what a reason of the instruction alone says
    abbrev IsOwn : Option CodeReason → Type 0
    IsOwn None = NoneBelow a b 8 place
    IsOwn (Some r) = IsReasonAt a b place (Some r)

    not_other : (e r : CodeReason) → instruction_at b.code place ≡ Err e → (e ≡ r → ⊥) → IsRefused a b r place → ⊥
    not_other e r g ne h = ne (err_same e r (sym g ∙ h.1))

    refused : (e : CodeReason) → IsUnreadable e → instruction_at b.code place ≡ Err e → NoneBelow a b 1 place → IsReasonAt a b place (Some e)
    refused Cut u g n = ((stands, g), n)
    refused UnknownOpcode u g n = ((stands, g), extend place 1 Cut refl n (not_other UnknownOpcode Cut g (λ e. cc)))
    refused Number u g n =
        ((stands, g), extend place 2 UnknownOpcode refl (extend place 1 Cut refl n (not_other Number Cut g (λ e. cc))) (not_other Number UnknownOpcode g (λ e. cc)))
    refused _ u g n = absurd u

    module _ (x : Instruction × ℕ) (g : instruction_at b.code place ≡ Ok x) where
      not_refused : (r : CodeReason) → IsRefused a b r place → ⊥
      not_refused r h = let e = sym g ∙ h.1 in (cc)

      reads : Reads b.code place x.0 x.1
      reads = record { stands = stands; read = g }

      same_read : (i : Instruction) (next : ℕ) → Reads b.code place i next → (let y : Instruction × ℕ = (i, next) in y) ≡ x
      same_read i next h = ok_same (i, next) x (sym h.read ∙ g)

      pub readable : NoneBelow a b 1 place → NoneBelow a b 4 place
      readable n = extend place 3 Number refl (extend place 2 UnknownOpcode refl (extend place 1 Cut refl n (not_refused Cut)) (not_refused UnknownOpcode)) (not_refused Number)

      met_target : (z : ℤ) (to : ℕ) → met_at marks (Some z) ≡ Some to → (z ≡ pos to) × HasInstruction b.code to
      met_target (pos k) to h = let w = met_is b.code marks m k to h in (ap (λ n. pos n) w.0, w.1)
      met_target (negsuc k) to h = absurd (cc)

      not_met : (z : ℤ) → met_at marks (Some z) ≡ None → (p : ℕ) → z ≡ pos p → HasInstruction b.code p → ⊥
      not_met z h p e i = let f = sym h ∙ ap (λ y. met_at marks (Some y)) e ∙ is_met b.code marks m p i in (cc)

      no_off : ((z : ℤ) → branch_place (successor x.0) x.1 ≡ Some z → ((p : ℕ) → z ≡ pos p → HasInstruction b.code p → ⊥) → ⊥) → HasReason a b OffInstruction place → ⊥
      no_off none h =
          let l = subst (λ (y : Instruction × ℕ). LeadsOff b.code y.0 y.1) (same_read h.0 h.1 h.2) h.3 in
          none l.to l.branches l.meets_none

      no_back : ((to : ℕ) → branch_place (successor x.0) x.1 ≡ Some (pos to) → to ≤ place → ((n : ℕ) → instruction_at b.code to ≡ Ok (Label, n) → ⊥) → ⊥) → HasReason a b BackwardToNoLabel place → ⊥
      no_back none h =
          let l = subst (λ (y : Instruction × ℕ). LeadsBack b.code place y.0 y.1) (same_read h.0 h.1 h.2) h.3 in
          none l.to l.branches l.back l.no_label

      label_is : (q : Result (Instruction × ℕ) CodeReason) → is_label_read q ≡ true → (n : ℕ) × (q ≡ Ok (Label, n))
      label_is (Ok (i, n)) e = (n, ap (λ j. Ok (j, n)) (only i e))
        where
          only : (i : Instruction) → is_label i ≡ true → i ≡ Label
          only Label e = refl
          only _ e = absurd (cc)
      label_is (Err r) e = absurd (cc)

      back_by : (to : ℕ) (t u : Bool) → branch_place (successor x.0) x.1 ≡ Some (pos to) → HasInstruction b.code to → nat_le to place ≡ t → is_label_read (instruction_at b.code to) ≡ u → NoneBelow a b 7 place
          → IsOwn (if t && not u then Some BackwardToNoLabel else None)
      back_by to false u e i le is n = extend place 7 BackwardToNoLabel refl n (no_back (λ k f back label. far k f back))
        where
          far : (k : ℕ) → branch_place (successor x.0) x.1 ≡ Some (pos k) → k ≤ place → ⊥
          far k f back =
              let same = pos_same to k (some_same (pos to) (pos k) (sym e ∙ f)) in
              let t : nat_le to place ≡ true = le-leb to place (omega arith) in
              let w = sym t ∙ le in (cc)
      back_by to true true e i le is n = extend place 7 BackwardToNoLabel refl n (no_back (λ k f back none. labelled k f none))
        where
          labelled : (k : ℕ) → branch_place (successor x.0) x.1 ≡ Some (pos k) → ((n : ℕ) → instruction_at b.code k ≡ Ok (Label, n) → ⊥) → ⊥
          labelled k f none =
              let same = pos_same to k (some_same (pos to) (pos k) (sym e ∙ f)) in
              let l = label_is (instruction_at b.code to) is in
              none l.0 (ap (instruction_at b.code) (sym same) ∙ l.1)
      back_by to true false e i le is n =
          ((x.0, x.1, reads, record { to = to; branches = e; back = leb-true to place le; meets = i; no_label = λ k h. let w = sym is ∙ ap is_label_read h in (cc) }), n)

      met_by : (z : ℤ) (o : Option ℕ) → branch_place (successor x.0) x.1 ≡ Some z → met_at marks (Some z) ≡ o → NoneBelow a b 6 place → IsOwn (met_reason b.code place o)
      met_by z None e h n = ((x.0, x.1, reads, record { to = z; branches = e; meets_none = not_met z h }), n)
      met_by z (Some to) e h n =
          let w = met_target z to h in
          back_by to (nat_le to place) (is_label_read (instruction_at b.code to)) (e ∙ ap Some w.0) w.1 refl refl
          (extend place 6 OffInstruction refl n (no_off (λ y f none. let same = some_same z y (sym e ∙ f) in none to (sym same ∙ w.0) w.1)))

      branch_by : (o : Option ℤ) → branch_place (successor x.0) x.1 ≡ o → NoneBelow a b 6 place → IsOwn (target_reason b.code marks place o)
      branch_by None e n =
          extend place 7 BackwardToNoLabel refl (extend place 6 OffInstruction refl n (no_off (λ z f none. let w = sym e ∙ f in (cc)))) (no_back (λ to f back none. let w = sym e ∙ f in (cc)))
      branch_by (Some z) e n = met_by z (met_at marks (Some z)) e refl n

      passed_by : (t u : Bool) → list_any (is_missing a) (operands x.0) ≡ t → list_any (is_unplayed a.constant_pool (row (λ name. false) x.0).late_name) (operands x.0) ≡ u → NoneBelow a b 1 place
          → IsOwn (passed_reason b.code marks place (let r : Result (Instruction × ℕ) CodeReason = if t then Err Index else if u then Err NotPlayed else Ok x in r))
      passed_by true u is played n = ((x.0, x.1, reads, is), readable n)
      passed_by false true is played n = ((x.0, x.1, reads, played), extend place 4 Index refl (readable n) (no_index is))
        where
          no_index : list_any (is_missing a) (operands x.0) ≡ false → HasReason a b Index place → ⊥
          no_index e h = let w = sym e ∙ subst (λ (y : Instruction × ℕ). IsTrue (list_any (is_missing a) (operands y.0))) (same_read h.0 h.1 h.2) h.3 in (cc)
      passed_by false false is played n = branch_by (branch_place (successor x.0) x.1) refl (extend place 5 NotPlayed refl (extend place 4 Index refl (readable n) (no_index is)) (no_name played))
        where
          no_index : list_any (is_missing a) (operands x.0) ≡ false → HasReason a b Index place → ⊥
          no_index e h = let w = sym e ∙ subst (λ (y : Instruction × ℕ). IsTrue (list_any (is_missing a) (operands y.0))) (same_read h.0 h.1 h.2) h.3 in (cc)

          no_name : list_any (is_unplayed a.constant_pool (row (λ name. false) x.0).late_name) (operands x.0) ≡ false → HasReason a b NotPlayed place → ⊥
          no_name e h =
              let w = sym e ∙ subst (λ (y : Instruction × ℕ). IsTrue (list_any (is_unplayed a.constant_pool (row (λ name. false) y.0).late_name) (operands y.0))) (same_read h.0 h.1 h.2) h.3 in (cc)

    own_by : (q : Result (Instruction × ℕ) CodeReason) → instruction_at b.code place ≡ q → NoneBelow a b 1 place → IsOwn (passed_reason b.code marks place (passing a q))
    own_by (Err e) g n = refused e (unreadable b.code place e g) g n
    own_by (Ok x) g n = passed_by x g (list_any (is_missing a) (operands x.0)) (list_any (is_unplayed a.constant_pool (row (λ name. false) x.0).late_name) (operands x.0)) refl refl n

    own : NoneBelow a b 1 place → IsOwn (own_reason a b.code marks place)
    own n = own_by (instruction_at b.code place) refl n

    pub own_some : (r : CodeReason) → own_reason a b.code marks place ≡ Some r → NoneBelow a b 1 place → IsReasonAt a b place (Some r)
    own_some r e n = subst IsOwn e (own n)

    pub own_none : own_reason a b.code marks place ≡ None → NoneBelow a b 1 place → NoneBelow a b 8 place
    own_none e n = subst IsOwn e (own n)

  -- paths that don't differ and keep the limits
  pub depths_fine : (place : ℕ) → ((place ≡ 0) × HasWrongLimits b → ⊥) → (BodyDiffers a b → ⊥) → (BodyLacks a b place → ⊥) → NoneBelow a b 8 place → NoneBelow a b 9 place
  depths_fine place limits_fine same lacks n = extend place 8 StackDepth refl n none
    where
      wrong : place ≡ 0 → HasWrongDepths a b → ⊥
      wrong e (TooManyValues h) = limits_fine (e, limits.TooManyValues h)
      wrong e (ScopesBelow h) = limits_fine (e, limits.ScopesBelow h)
      wrong e (TooManyScopes h) = limits_fine (e, limits.TooManyScopes h)
      wrong e (Different d) = same d

      none : HasReason a b StackDepth place → ⊥
      none (inl h) = wrong h.0 h.1
      none (inr h) = lacks h

  pub limits_wrong : HasWrongLimits b → HasWrongDepths a b
  limits_wrong (limits.TooManyValues h) = TooManyValues h
  limits_wrong (limits.ScopesBelow h) = ScopesBelow h
  limits_wrong (limits.TooManyScopes h) = TooManyScopes h

  pub locals_fine : (place : ℕ) → (HasReason a b LocalNumber place → ⊥) → NoneBelow a b 9 place → NoneBelow a b 10 place
  locals_fine place none n = extend place 9 LocalNumber refl n none

  pub nothing_left : (place : ℕ) → 0 < length b.code → (BodyLeaves a b place → ⊥) → NoneBelow a b 10 place → IsReasonAt a b place None
  nothing_left place lt leaves n r h = last (extend place 10 FallsOff refl n none) r h
    where
      none : HasReason a b FallsOff place → ⊥
      none (inl e) = let k = ap length e.0 in omega arith
      none (inr g) = leaves g

      last : NoneBelow a b 11 place → (s : CodeReason) → HasReason a b s place → ⊥
      last below s g = below s (few s) g
        where
          few : (s : CodeReason) → rank s < 11
          few HasExceptions = omega arith
          few _ = omega arith

  -- tables tell that paths don't differ
  pub never_differ : (table : List (Option Depths)) → AreDepthsOf a b table → BodyDiffers a b → ⊥
  never_differ table t d = d.differ (some_same d.one d.other (some_same (Some d.one) (Some d.other) (sym (t.all d.at d.one d.first) ∙ t.all d.at d.other d.second)))

  -- a body without code
  module _ (empty : b.code ≡ []) where
    none_stands : (p : ℕ) → HasInstruction b.code p → ⊥
    none_stands p h = let n = ap length empty in let lt = h.inside in (omega arith)

    pub nothing_read : NoneBelow a b 1 0 → NoneBelow a b 8 0
    nothing_read n =
        extend 0 7 BackwardToNoLabel refl (extend 0 6 OffInstruction refl (extend 0 5 NotPlayed refl (extend 0 4 Index refl (extend 0 3 Number refl (extend 0 2 UnknownOpcode refl (extend 0 1 Cut refl n
        (λ h. none_stands 0 h.0)) (λ h. none_stands 0 h.0)) (λ h. none_stands 0 h.0)) (λ h. none_stands 0 h.2.stands)) (λ h. none_stands 0 h.2.stands)) (λ h. none_stands 0 h.2.stands)) (λ h. none_stands 0 h.2.stands)

    pub no_paths_differ : BodyDiffers a b → ⊥
    no_paths_differ d = none_stands d.at (path_stands b.code (no_depths a) (depths_behind a) (KeepsDepths a b) (IsPassed a) d.first.0 d.at d.one d.first.1)

    pub no_path_lacks : BodyLacks a b 0 → ⊥
    no_path_lacks h = none_stands 0 h.reads.stands

    pub locals_of_empty : (HasWrongLocals a b → ⊥) → HasReason a b LocalNumber 0 → ⊥
    locals_of_empty fine (inl h) = fine h.1
    locals_of_empty fine (inr h) = none_stands 0 h.2.stands

    pub falls_off : NoneBelow a b 10 0 → IsReasonAt a b 0 (Some FallsOff)
    falls_off n = (inl (empty, refl), n)

  -- the first reason of a body in which paths differ
  pub differing : BodyDiffers a b → NoneBelow a b 8 0 → IsFirstOf a b 0 StackDepth
  differing d n = first_of_start StackDepth (inl (refl, Different d), n)

  module _ (empty : b.code ≡ []) (exceptions : 0 < length b.exceptions → ⊥) (fine : HasWrongLimits b → ⊥) where
    before_locals : NoneBelow a b 9 0
    before_locals = depths_fine 0 (λ h. fine h.1) (no_paths_differ empty) (no_path_lacks empty) (nothing_read empty (no_exceptions 0 (λ h. exceptions h.1)))

    pub empty_with_locals : HasWrongLocals a b → IsFirstOf a b 0 LocalNumber
    empty_with_locals h = first_of_start LocalNumber (inl (refl, h), before_locals)

    pub empty_falls_off : (HasWrongLocals a b → ⊥) → IsFirstOf a b 0 FallsOff
    empty_falls_off h = first_of_start FallsOff (falls_off empty (locals_fine 0 (locals_of_empty empty h) before_locals))

-- a test that failed
pub not_so : (t : Bool) (P : Type 0) → (IsTrue t ↔ P) → t ≡ false → P → ⊥
not_so t P h e p = let w = sym e ∙ h.1 p in (cc)

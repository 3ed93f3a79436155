-- The marks of the instructions of a body.
use Rattle.std.proofs.Common.{◌≡◌, ℕ, zero, suc, ◌<◌, ◌≤◌, ◌⊎◌, inl, inr, ⊎_elim, List, [], ◌∷◌, length, Bool, true, false, Some, Ok, Err, slice_get, refl, sym, ap, ◌∙◌, subst, arith}
use Rattle.std.specs.Prelude.{slice_set}
use Rattle.std.proofs.Math.ListN.{replicate, length-replicate, length-set}
use Rattle.std.proofs.lemmas.Bool.{cases_lt}
use Rattle.avm2_code.specs.declared.instruction.Instruction.{Instruction}
use Rattle.avm2_code.specs.declared.reason.CodeReason.{CodeReason}
use Rattle.avm2_code.specs.Body.{IsReadTo, HasInstruction}
use Rattle.avm2_code.specs.Reading.{instruction_at}
use Rattle.avm2_code.proofs.BodyLaws.{one_place, read_bounds}
use Rattle.avm2_verify.specs.Marking.{IsMarkedTo}
use Rattle.avm2_verify.specs.Tables.{AreMarks}
use Rattle.avm2_verify.proofs.Items.{get_set_same, get_set_cases, get_replicate}

-- the place behind fewer instructions, where more are read
record Passes (code : List ℕ) (count : ℕ) : Type 0 where
  at : ℕ
  over : Instruction
  next : ℕ
  read : IsReadTo code count at
  goes : instruction_at code at ≡ Ok (over, next)

earlier : (code : List ℕ) (count more at : ℕ) → count < more → IsReadTo code more at → Passes code count
earlier code count zero at lt h = absurd (omega arith)
earlier code count (suc more) at lt h = ⊎_elim (λ less. earlier code count more h.0 less h.2) (λ le. here (omega arith)) (cases_lt count more)
  where
    here : more ≡ count → Passes code count
    here e = record { at = h.0; over = h.1; next = at; read = subst (λ k. IsReadTo code k h.0) e h.2; goes = h.3 }

pub none_marked : (code : List ℕ) → IsMarkedTo code 0 (replicate (length code) false)
none_marked code = record {
  long = length-replicate (length code) false;
  count = 0;
  read = refl;
  marked = λ at e. absurd (let h = get_replicate (length code) false at true e in cc);
  all = λ k at lt h. absurd (omega arith);
}

-- what was marked stays so
still : (marks : List Bool) (place at : ℕ) → place < length marks → slice_get marks at ≡ Some true → slice_get (slice_set marks place true) at ≡ Some true
still [] place at lt e = absurd (omega arith)
still (m ∷ ms) zero zero lt e = refl
still (m ∷ ms) zero (suc at) lt e = e
still (m ∷ ms) (suc place) zero lt e = e
still (m ∷ ms) (suc place) (suc at) lt e = still ms place at (omega arith) e

-- the place that is marked, and those before it
module _ (code : List ℕ) (place : ℕ) (marks : List Bool) (m : IsMarkedTo code place marks) where
  -- each mark is of an instruction
  marked_now : place < length code → (at : ℕ) → slice_get (slice_set marks place true) at ≡ Some true → HasInstruction code at
  marked_now lt at e = by (get_set_cases marks place at true true e)
    where
      by : (slice_get marks at ≡ Some true) ⊎ ((place ≡ at) × (true ≡ true)) → HasInstruction code at
      by (inl h) = m.marked at h
      by (inr h) = subst (HasInstruction code) h.0 (record { count = m.count; read = m.read; inside = lt })

  pub marked_on : (i : Instruction) (next : ℕ) → instruction_at code place ≡ Ok (i, next) → IsMarkedTo code next (slice_set marks place true)
  marked_on i next e =
      let b = read_bounds code place i next e in
      let lt : place < length code = omega arith in
      record {
        long = length-set marks place true ∙ m.long;
        count = suc m.count;
        read = (place, i, m.read, e);
        marked = marked_now lt;
        all = λ k at less h. ⊎_elim (λ l. still marks place at (omega (arith, m.long)) (m.all k at l h)) (λ le. here k at (omega arith) (omega (arith, m.long)) h) (cases_lt k m.count);
      }
    where
      here : (k at : ℕ) → k ≡ m.count → place < length marks → IsReadTo code k at → slice_get (slice_set marks place true) at ≡ Some true
      here k at e lt h =
          let same : place ≡ at = one_place code m.count place at m.read (subst (λ j. IsReadTo code j at) e h) in
          subst (λ p. slice_get (slice_set marks place true) p ≡ Some true) same (get_set_same marks place true lt)

  -- where the end is reached, all are marked
  pub marked_all : length code ≤ place → AreMarks code marks
  marked_all le = record {
    long = m.long;
    marked = m.marked;
    all = λ at h. ⊎_elim (λ lt. m.all h.count at lt h.read) (λ ge. absurd (past at h ge)) (cases_lt h.count m.count);
  }
    where
      past : (at : ℕ) (h : HasInstruction code at) → m.count ≤ h.count → ⊥
      past at h ge = ⊎_elim further (λ ge2. here (omega arith)) (cases_lt m.count h.count)
        where
          further : m.count < h.count → ⊥
          further lt =
              let p = earlier code m.count h.count at lt h.read in
              let b = read_bounds code p.at p.over p.next p.goes in
              let same = one_place code m.count place p.at m.read p.read in
              omega arith

          here : h.count ≡ m.count → ⊥
          here e =
              let same = one_place code m.count place at m.read (subst (λ j. IsReadTo code j at) e h.read) in
              let inside = h.inside in
              omega arith

  -- and where an instruction can't be read
  pub marked_last : (r : CodeReason) → place < length code → instruction_at code place ≡ Err r → AreMarks code (slice_set marks place true)
  marked_last r lt e = record {
    long = length-set marks place true ∙ m.long;
    marked = marked_now lt;
    all = λ at h. ⊎_elim (λ l. still marks place at (omega (arith, m.long)) (m.all h.count at l h.read)) (λ ge. last at h ge) (cases_lt h.count m.count);
  }
    where
      last : (at : ℕ) (h : HasInstruction code at) → m.count ≤ h.count → slice_get (slice_set marks place true) at ≡ Some true
      last at h ge = ⊎_elim (λ l. absurd (further l)) (λ le. here (omega arith)) (cases_lt m.count h.count)
        where
          further : m.count < h.count → ⊥
          further l =
              let p = earlier code m.count h.count at l h.read in
              let same : place ≡ p.at = one_place code m.count place p.at m.read p.read in
              let g = sym e ∙ ap (instruction_at code) same ∙ p.goes in
              (cc)

          here : h.count ≡ m.count → slice_get (slice_set marks place true) at ≡ Some true
          here k =
              let same : place ≡ at = one_place code m.count place at m.read (subst (λ j. IsReadTo code j at) k h.read) in
              subst (λ p. slice_get (slice_set marks place true) p ≡ Some true) same (get_set_same marks place true (omega (arith, m.long)))

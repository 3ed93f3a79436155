-- The ways on from an instruction are the steps of paths.
use Rattle.std.proofs.Common.{◌≡◌, ℕ, ◌⊎◌, inl, inr, List, Bool, true, false, Option, Some, None, Ok, Err, slice_get, refl, sym, ap, ◌∙◌, subst, ℤ, pos, negsuc}
use Rattle.std.specs.Prelude.{if◌then◌else◌}
use Rattle.abc_format.specs.declared.records.Abc.{Abc}
use Rattle.abc_format.specs.declared.records.MethodBody.{MethodBody}
use Rattle.avm2_code.specs.declared.instruction.Instruction.{Instruction}
use Rattle.avm2_code.specs.declared.reason.CodeReason.{CodeReason}
use Rattle.avm2_code.specs.declared.table.Successor.{Successor}
use Rattle.avm2_code.specs.Body.{HasInstruction}
use Rattle.avm2_code.specs.Reading.{instruction_at}
use Rattle.verified_code.specs.declared.Depths.{Depths}
use Rattle.verified_code.specs.Paths.{GoesOn, successor, falls_through, branch_place}
use Rattle.verified_code.specs.Verified.{KeepsDepths, depths_behind}
use Rattle.avm2_verify.specs.declared.ways.Ways.{Ways}
use Rattle.avm2_verify.specs.Tables.{AreMarks}
use Rattle.avm2_verify.specs.Ways.{passed, met, met_by, met_at, next_met, branch_met, BodyStep, LeadTo, AreWays}
use Rattle.avm2_verify.proofs.OperandLaws.{IsPassedAs, passed_as, is_passed}

some_same : {A : Type 0} (x y : A) → Some x ≡ Some y → x ≡ y
some_same x y e = cc

module _ (code : List ℕ) (marks : List Bool) (m : AreMarks code marks) where
  -- a place that is met is an instruction's
  pub met_is : (place to : ℕ) → met marks place ≡ Some to → (place ≡ to) × HasInstruction code to
  met_is place to e = by (slice_get marks place) refl e
    where
      by : (o : Option Bool) → slice_get marks place ≡ o → met_by place o ≡ Some to → (place ≡ to) × HasInstruction code to
      by None g h = absurd (cc)
      by (Some true) g h = let same = some_same place to h in (same, subst (HasInstruction code) same (m.marked place g))
      by (Some false) g h = absurd (cc)

  pub is_met : (to : ℕ) → HasInstruction code to → met marks to ≡ Some to
  is_met to h = ap (met_by to) (m.all to h)

  pub next_is : (s : Successor) (next to : ℕ) → next_met marks s next ≡ Some to → GoesOn s next to × HasInstruction code to
  next_is s next to e = by (falls_through s) refl e
    where
      by : (t : Bool) → falls_through s ≡ t → (if t then met marks next else None) ≡ Some to → GoesOn s next to × HasInstruction code to
      by true g h = let w = met_is next to h in (inl (g, sym w.0), w.1)
      by false g h = absurd (cc)

  pub branch_is : (s : Successor) (next to : ℕ) → branch_met marks s next ≡ Some to → GoesOn s next to × HasInstruction code to
  branch_is s next to e = by (branch_place s next) refl e
    where
      by : (o : Option ℤ) → branch_place s next ≡ o → met_at marks o ≡ Some to → GoesOn s next to × HasInstruction code to
      by None g h = absurd (cc)
      by (Some (pos k)) g h = let w = met_is k to h in (inr (g ∙ ap (λ n. Some (pos n)) w.0), w.1)
      by (Some (negsuc k)) g h = absurd (cc)

  pub goes_is : (s : Successor) (next to : ℕ) → GoesOn s next to → HasInstruction code to → (next_met marks s next ≡ Some to) ⊎ (branch_met marks s next ≡ Some to)
  goes_is s next to (inl g) h = inl (ap (λ t. if t then met marks next else None) g.0 ∙ ap (met marks) (sym g.1) ∙ is_met to h)
  goes_is s next to (inr g) h = inr (ap (met_at marks) g ∙ is_met to h)

module _ (a : Abc) (b : MethodBody) (marks : List Bool) (m : AreMarks b.code marks) (place : ℕ) (before : Depths) (stands : HasInstruction b.code place) where
  same_read : (r : Instruction × ℕ) (i : Instruction) (next : ℕ) → instruction_at b.code place ≡ Ok r → instruction_at b.code place ≡ Ok (i, next) → r ≡ (i, next)
  same_read r i next e g = let h = sym e ∙ g in (cc)

  -- the ways on from an instruction that a path passes with what it asks
  pub ways_are : (i : Instruction) (next : ℕ) (w : Ways) → passed a b.code place ≡ Ok (i, next) → KeepsDepths a b i before → w.behind ≡ depths_behind a i before → w.next ≡ next_met marks (successor i) next
      → w.branch ≡ branch_met marks (successor i) next → AreWays a b place before (Some w)
  ways_are i next w e k behind to_next to_branch = record { only = forth; all = back }
    where
      p : IsPassedAs a b.code place i next
      p = passed_as a b.code place i next e

      leads : (to : ℕ) (d : Depths) → d ≡ w.behind → GoesOn (successor i) next to × HasInstruction b.code to → BodyStep a b place before to d
      leads to d is g = record {
        over = i;
        next = next;
        reads = record { stands = stands; read = p.read };
        passes = p.passes;
        has = k;
        goes = g.0;
        meets = g.1;
        carries = is ∙ behind;
      }

      forth : (to : ℕ) (d : Depths) → LeadTo (Some w) to d → BodyStep a b place before to d
      forth to d h = by h.1
        where
          by : (w.next ≡ Some to) ⊎ (w.branch ≡ Some to) → BodyStep a b place before to d
          by (inl g) = leads to d h.0 (next_is b.code marks m (successor i) next to (sym to_next ∙ g))
          by (inr g) = leads to d h.0 (branch_is b.code marks m (successor i) next to (sym to_branch ∙ g))

      back : (to : ℕ) (d : Depths) → BodyStep a b place before to d → LeadTo (Some w) to d
      back to d s =
          let same = same_read (s.over, s.next) i next s.reads.read p.read in
          let over : s.over ≡ i = ap (λ x. x.0) same in
          let next_same : s.next ≡ next = ap (λ x. x.1) same in
          let on : GoesOn (successor i) next to = subst (λ n. GoesOn (successor i) n to) next_same (subst (λ j. GoesOn (successor j) s.next to) over s.goes) in
          (s.carries ∙ ap (λ j. depths_behind a j before) over ∙ sym behind, either (goes_is b.code marks m (successor i) next to on s.meets))
        where
          either : (next_met marks (successor i) next ≡ Some to) ⊎ (branch_met marks (successor i) next ≡ Some to) → (w.next ≡ Some to) ⊎ (w.branch ≡ Some to)
          either (inl g) = inl (to_next ∙ g)
          either (inr g) = inr (to_branch ∙ g)

  -- no way on where it isn't passed
  pub no_ways_refused : (r : CodeReason) → passed a b.code place ≡ Err r → AreWays a b place before None
  no_ways_refused r e = record { only = λ to d h. absurd h; all = λ to d s. (let g = sym (is_passed a b.code place s.over s.next s.reads.read s.passes) ∙ e in absurd (cc)) }

  -- or where a path lacks what it asks
  pub no_ways_lacking : (i : Instruction) (next : ℕ) → passed a b.code place ≡ Ok (i, next) → (KeepsDepths a b i before → ⊥) → AreWays a b place before None
  no_ways_lacking i next e lacks = record {
    only = λ to d h. absurd h;
    all = λ to d s.
        let p = passed_as a b.code place i next e in
        let same = same_read (s.over, s.next) i next s.reads.read p.read in
        absurd (lacks (subst (λ j. KeepsDepths a b j before) (ap (λ x. x.0) same) s.has));
  }

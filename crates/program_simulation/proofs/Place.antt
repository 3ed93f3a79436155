-- Code that lies between two places.
use Rattle.std.proofs.Common.{◌≡◌, refl, sym, ap, ◌∙◌, subst, arith, append_assoc}
use Rattle.std.specs.Prelude.{List, Some, [], false, length, slice_get, suc, ℕ, ◌++◌, ◌+◌, ◌∷◌}
use Rattle.program_code.specs.Shapes.{AreOperations, Either, Endless, Goes_to, Here, Meant, Nothing, One, Rounds, Rounds_after, Short, Some_mark, Then, branch_to}
use Rattle.avm2_program.specs.Naming.{Naming}
use Rattle.avm2_program.specs.declared.operation.Operation.{Operation}
use Rattle.avm2_code.specs.declared.parts.Branch.TheVariants as branch
use Rattle.avm2_code.specs.declared.parts.Branch.{Branch}
use Rattle.avm2_code.specs.declared.parts.Part.{Part}

module _ (g : Naming) (operations : List Operation) (parts : List Part) (marks : ℕ → ℕ) (by : AreOperations g parts marks operations) where
  -- an instruction at a place
  abbrev pub Shows : ℕ → Operation → Type 0
  Shows a o = slice_get operations a ≡ Some o

  -- these parts stand there
  abbrev pub Hold : ℕ → List Part → Type 0
  Hold at [] = Unit {0}
  Hold at (x ∷ xs) = (slice_get parts at ≡ Some x) × Hold (suc at) xs

  -- such code lies from the first place to the second
  pub record Lies (P : Meant) (a b : ℕ) : Type 0 where
    pub these : List Part
    pub code : P g marks a these
    pub hold : Hold a these
    pub until : a + length these ≡ b

  pub record Two (P Q : Meant) (a b : ℕ) : Type 0 where
    pub mid : ℕ
    pub front : Lies P a mid
    pub back : Lies Q mid b

  length_both : (xs ys : List Part) → length (xs ++ ys) ≡ length xs + length ys
  length_both [] ys = omega arith
  length_both (x ∷ xs) ys = let e = length_both xs ys in omega (arith, e)

  -- the rest of the parts stands behind the first ones
  pub hold_from : (before xs : List Part) → parts ≡ before ++ xs → Hold (length before) xs
  hold_from before [] e = tt
  hold_from before (x ∷ xs) e =
      let all : parts ≡ (before ++ x ∷ []) ++ xs = e ∙ sym (append_assoc before (x ∷ []) xs) in
      let n : length (before ++ x ∷ []) ≡ suc (length before) = omega (arith, length_both before (x ∷ [])) in
      (ap (λ l. slice_get l (length before)) e ∙ seam before x xs, subst (λ k. Hold k xs) n (hold_from (before ++ x ∷ []) xs all))
    where
      seam : (ys : List Part) (y : Part) (zs : List Part) → slice_get (ys ++ y ∷ zs) (length ys) ≡ Some y
      seam [] y zs = refl
      seam (w ∷ ys) y zs = seam ys y zs

  hold_split : (at : ℕ) (xs ys : List Part) → Hold at (xs ++ ys) → Hold at xs × Hold (at + length xs) ys
  hold_split at [] ys h = (tt, subst (λ k. Hold k ys) (let e : at ≡ at + 0 = omega arith in e) h)
  hold_split at (x ∷ xs) ys h =
      let r = hold_split (suc at) xs ys h.1 in
      ((h.0, r.0), subst (λ k. Hold k ys) (let e : suc at + length xs ≡ at + suc (length xs) = omega arith in e) r.1)

  pub lies_nothing : (a b : ℕ) → Lies Nothing a b → a ≡ b
  lies_nothing a b h = omega (arith, ap length h.code.is, h.until)

  pub lies_here : (m a b : ℕ) → Lies (Here m) a b → (a ≡ b) × (marks m ≡ a)
  lies_here m a b h = (omega (arith, ap length h.code.is, h.until), h.code.here)

  -- the place behind one instruction
  pub record Shown (a : ℕ) (o : Operation) (b : ℕ) : Type 0 where
    pub is : Shows a o
    pub next : b ≡ suc a

  pub lies_one : (o : Operation) (a b : ℕ) → Lies (One o) a b → Shown a o b
  lies_one o a b h =
      let x = by.plain a h.code.instruction ((subst (λ l. Hold a l) h.code.is h.hold).0) in
      record { is = x.1 ∙ ap Some (h.code.does x.0); next = omega (arith, ap length h.code.is, h.until) }

  pub lies_goes : (g1 : Branch) (m a b : ℕ) → Lies (Goes_to g1 m) a b → Shown a (branch_to g1 (marks m)) b
  lies_goes g1 m a b h =
      record {
        is = by.marked a g1 m ((subst (λ l. Hold a l) h.code.is h.hold).0);
        next = omega (arith, ap length h.code.is, h.until);
      }

  pub lies_then : (P Q : Meant) (a b : ℕ) → Lies (Then P Q) a b → Two P Q a b
  lies_then P Q a b h =
      let c = h.code in
      let s = hold_split a c.front c.back (subst (λ l. Hold a l) c.is h.hold) in
      record {
        mid = a + length c.front;
        front = record { these = c.front; code = c.first; hold = s.0; until = refl };
        back = record { these = c.back; code = c.second; hold = s.1; until = omega (arith, ap length c.is, length_both c.front c.back, h.until) };
      }

  pub lies_mark : (P : ℕ → Meant) (a b : ℕ) → Lies (Some_mark P) a b → (m : ℕ) × Lies (P m) a b
  lies_mark P a b h = (h.code.mark, record { these = h.these; code = h.code.is; hold = h.hold; until = h.until })

  -- the places of a choice
  pub record Sides (P Q : Meant) (a b : ℕ) : Type 0 where
    pub first : ℕ
    pub mid : ℕ
    pub second : ℕ
    pub jump : Shown a (Operation.Branch false second) first
    pub one : Lies P first mid
    pub over : Shown mid (Operation.Jump b) second
    pub two : Lies Q second b

  pub lies_either : (P Q : Meant) (a b : ℕ) → Lies (Either P Q) a b → Sides P Q a b
  lies_either P Q a b h =
      let m1 = lies_mark _ a b h in
      let m2 = lies_mark _ a b m1.1 in
      let p1 = lies_then _ _ a b m2.1 in
      let p2 = lies_then _ _ a p1.mid p1.front in
      let p3 = lies_then _ _ p2.mid p1.mid p2.back in
      let p4 = lies_then _ _ p1.mid b p1.back in
      let p5 = lies_then _ _ p4.mid b p4.back in
      let h1 = lies_here m1.0 p1.mid p4.mid p4.front in
      let h2 = lies_here m2.0 p5.mid b p5.back in
      record {
        first = p2.mid;
        mid = p3.mid;
        second = p1.mid;
        jump = subst (λ t. Shown a (Operation.Branch false t) p2.mid) h1.1 (lies_goes branch.IfFalse m1.0 a p2.mid p2.front);
        one = p3.front;
        over = subst (λ t. Shown p3.mid (Operation.Jump t) p1.mid) (h2.1 ∙ h2.0) (lies_goes branch.Jump m2.0 p3.mid p1.mid p3.back);
        two = subst (λ z. Lies Q z b) (sym h1.0) (subst (λ z. Lies Q p4.mid z) h2.0 p5.front);
      }

  -- the places of a value that may stay
  pub record Shorter (c : Branch) (P : Meant) (a b : ℕ) : Type 0 where
    pub test : ℕ
    pub off : ℕ
    pub start : ℕ
    pub twice : Shown a Operation.Dup test
    pub jump : Shown test (branch_to c b) off
    pub drop : Shown off Operation.Pop start
    pub other : Lies P start b

  pub lies_short : (c : Branch) (P : Meant) (a b : ℕ) → Lies (Short c P) a b → Shorter c P a b
  lies_short c P a b h =
      let m1 = lies_mark _ a b h in
      let p1 = lies_then _ _ a b m1.1 in
      let p2 = lies_then _ _ p1.mid b p1.back in
      let p3 = lies_then _ _ p2.mid b p2.back in
      let p4 = lies_then _ _ p3.mid b p3.back in
      let e = lies_here m1.0 p4.mid b p4.back in
      record {
        test = p1.mid;
        off = p2.mid;
        start = p3.mid;
        twice = lies_one Operation.Dup a p1.mid p1.front;
        jump = subst (λ t. Shown p1.mid (branch_to c t) p2.mid) (e.1 ∙ e.0) (lies_goes c m1.0 p1.mid p2.mid p2.front);
        drop = lies_one Operation.Pop p2.mid p3.mid p3.front;
        other = subst (λ z. Lies P p3.mid z) e.0 p4.front;
      }

  -- the places of a loop with a test
  pub record Circle (test step : Meant) (body : ℕ → ℕ → Meant) (a b : ℕ) : Type 0 where
    pub out : ℕ
    pub again : ℕ
    pub start : ℕ
    pub at_test : ℕ
    pub first : ℕ
    pub mid : ℕ
    pub last : ℕ
    pub label : Shown a Operation.Label start
    pub one : Lies test start at_test
    pub jump : Shown at_test (Operation.Branch false b) first
    pub two : Lies (body out again) first mid
    pub three : Lies step mid last
    pub back : Shown last (Operation.Jump a) b
    pub out_is : marks out ≡ b
    pub again_is : marks again ≡ mid

  pub lies_rounds : (test step : Meant) (body : ℕ → ℕ → Meant) (a b : ℕ) → Lies (Rounds test step body) a b → Circle test step body a b
  lies_rounds test step body a b h =
      let m0 = lies_mark _ a b h in
      let m1 = lies_mark _ a b m0.1 in
      let m2 = lies_mark _ a b m1.1 in
      let p0 = lies_then _ _ a b m2.1 in
      let p1 = lies_then _ _ p0.mid b p0.back in
      let p2 = lies_then _ _ p1.mid b p1.back in
      let p3 = lies_then _ _ p2.mid b p2.back in
      let p4 = lies_then _ _ p3.mid b p3.back in
      let p5 = lies_then _ _ p4.mid b p4.back in
      let p6 = lies_then _ _ p5.mid b p5.back in
      let p7 = lies_then _ _ p6.mid b p6.back in
      let h0 = lies_here m0.0 a p0.mid p0.front in
      let h1 = lies_here m2.0 p4.mid p5.mid p5.front in
      let h2 = lies_here m1.0 p7.mid b p7.back in
      let end : marks m1.0 ≡ b = h2.1 ∙ h2.0 in
      record {
        out = m1.0;
        again = m2.0;
        start = p1.mid;
        at_test = p2.mid;
        first = p3.mid;
        mid = p4.mid;
        last = p6.mid;
        label = subst (λ z. Shown z Operation.Label p1.mid) (sym h0.0) (lies_one Operation.Label p0.mid p1.mid p1.front);
        one = p2.front;
        jump = subst (λ t. Shown p2.mid (Operation.Branch false t) p3.mid) end (lies_goes branch.IfFalse m1.0 p2.mid p3.mid p3.front);
        two = p4.front;
        three = subst (λ z. Lies step z p6.mid) (sym h1.0) p6.front;
        back = subst (λ z. Shown p6.mid (Operation.Jump a) z) h2.0 (subst (λ t. Shown p6.mid (Operation.Jump t) p7.mid) h0.1 (lies_goes branch.Jump m0.0 p6.mid p7.mid p7.front));
        out_is = end;
        again_is = h1.1;
      }

  -- of a loop without a test
  pub record Ring (step : Meant) (body : ℕ → ℕ → Meant) (a b : ℕ) : Type 0 where
    pub out : ℕ
    pub again : ℕ
    pub first : ℕ
    pub mid : ℕ
    pub last : ℕ
    pub label : Shown a Operation.Label first
    pub two : Lies (body out again) first mid
    pub three : Lies step mid last
    pub back : Shown last (Operation.Jump a) b
    pub out_is : marks out ≡ b
    pub again_is : marks again ≡ mid

  pub lies_endless : (step : Meant) (body : ℕ → ℕ → Meant) (a b : ℕ) → Lies (Endless step body) a b → Ring step body a b
  lies_endless step body a b h =
      let m0 = lies_mark _ a b h in
      let m1 = lies_mark _ a b m0.1 in
      let m2 = lies_mark _ a b m1.1 in
      let p0 = lies_then _ _ a b m2.1 in
      let p1 = lies_then _ _ p0.mid b p0.back in
      let p4 = lies_then _ _ p1.mid b p1.back in
      let p5 = lies_then _ _ p4.mid b p4.back in
      let p6 = lies_then _ _ p5.mid b p5.back in
      let p7 = lies_then _ _ p6.mid b p6.back in
      let h0 = lies_here m0.0 a p0.mid p0.front in
      let h1 = lies_here m2.0 p4.mid p5.mid p5.front in
      let h2 = lies_here m1.0 p7.mid b p7.back in
      record {
        out = m1.0;
        again = m2.0;
        first = p1.mid;
        mid = p4.mid;
        last = p6.mid;
        label = subst (λ z. Shown z Operation.Label p1.mid) (sym h0.0) (lies_one Operation.Label p0.mid p1.mid p1.front);
        two = p4.front;
        three = subst (λ z. Lies step z p6.mid) (sym h1.0) p6.front;
        back = subst (λ z. Shown p6.mid (Operation.Jump a) z) h2.0 (subst (λ t. Shown p6.mid (Operation.Jump t) p7.mid) h0.1 (lies_goes branch.Jump m0.0 p6.mid p7.mid p7.front));
        out_is = h2.1 ∙ h2.0;
        again_is = h1.1;
      }

  -- of a loop whose body comes before its test
  pub record Late (test : Meant) (body : ℕ → ℕ → Meant) (a b : ℕ) : Type 0 where
    pub out : ℕ
    pub again : ℕ
    pub top : ℕ
    pub start : ℕ
    pub at_test : ℕ
    pub first : ℕ
    pub last : ℕ
    pub enter : Shown a (Operation.Jump first) top
    pub label : Shown top Operation.Label start
    pub one : Lies test start at_test
    pub jump : Shown at_test (Operation.Branch false b) first
    pub two : Lies (body out again) first last
    pub back : Shown last (Operation.Jump top) b
    pub out_is : marks out ≡ b
    pub again_is : marks again ≡ last

  pub lies_after : (test : Meant) (body : ℕ → ℕ → Meant) (a b : ℕ) → Lies (Rounds_after test body) a b → Late test body a b
  lies_after test body a b h =
      let m0 = lies_mark _ a b h in
      let m1 = lies_mark _ a b m0.1 in
      let m2 = lies_mark _ a b m1.1 in
      let m3 = lies_mark _ a b m2.1 in
      let p0 = lies_then _ _ a b m3.1 in
      let p1 = lies_then _ _ p0.mid b p0.back in
      let p2 = lies_then _ _ p1.mid b p1.back in
      let p3 = lies_then _ _ p2.mid b p2.back in
      let p4 = lies_then _ _ p3.mid b p3.back in
      let p5 = lies_then _ _ p4.mid b p4.back in
      let p6 = lies_then _ _ p5.mid b p5.back in
      let p7 = lies_then _ _ p6.mid b p6.back in
      let p8 = lies_then _ _ p7.mid b p7.back in
      let h0 = lies_here m0.0 p0.mid p1.mid p1.front in
      let h1 = lies_here m3.0 p4.mid p5.mid p5.front in
      let h2 = lies_here m2.0 p6.mid p7.mid p7.front in
      let h3 = lies_here m1.0 p8.mid b p8.back in
      let end : marks m1.0 ≡ b = h3.1 ∙ h3.0 in
      record {
        out = m1.0;
        again = m2.0;
        top = p0.mid;
        start = p2.mid;
        at_test = p3.mid;
        first = p4.mid;
        last = p6.mid;
        enter = subst (λ t. Shown a (Operation.Jump t) p0.mid) h1.1 (lies_goes branch.Jump m3.0 a p0.mid p0.front);
        label = subst (λ z. Shown z Operation.Label p2.mid) (sym h0.0) (lies_one Operation.Label p1.mid p2.mid p2.front);
        one = p3.front;
        jump = subst (λ t. Shown p3.mid (Operation.Branch false t) p4.mid) end (lies_goes branch.IfFalse m1.0 p3.mid p4.mid p4.front);
        two = subst (λ z. Lies (body m1.0 m2.0) z p6.mid) (sym h1.0) p6.front;
        back = subst (λ z. Shown z (Operation.Jump p0.mid) b) (sym h2.0) (subst (λ z. Shown p7.mid (Operation.Jump p0.mid) z) h3.0 (subst (λ t. Shown p7.mid (Operation.Jump t) p8.mid) h0.1 (lies_goes branch.Jump m0.0 p7.mid p8.mid p8.front)));
        out_is = end;
        again_is = h2.1;
      }

-- The reason of the paths that come to an instruction.
use Rattle.std.proofs.Common.{◌≡◌, ℕ, List, length, Option, Some, None, Ok, Err, slice_get, sym, ap, ◌∙◌, subst}
use Rattle.std.specs.Prelude.{Result, true, false, IsTrue, IfSome, IsSome}
use Rattle.std.specs.Option.{is_some}
use Rattle.abc_format.specs.declared.records.Abc.{Abc}
use Rattle.abc_format.specs.declared.records.MethodBody.{MethodBody}
use Rattle.avm2_code.specs.declared.instruction.Instruction.{Instruction}
use Rattle.avm2_code.specs.declared.reason.CodeReason.{CodeReason}
use Rattle.avm2_code.specs.Body.{HasInstruction}
use Rattle.verified_code.specs.declared.Depths.{Depths}
use Rattle.verified_code.specs.Paths.{Reads, falls_through, successor}
use Rattle.verified_code.specs.Verified.{HasDepths, KeepsDepths}
use Rattle.avm2_verify.specs.declared.body.PathEnds.TheVariants as ends
use Rattle.avm2_verify.specs.Reasons.{BodyLacks, BodyLeaves, AreEnds}
use Rattle.avm2_verify.specs.Tables.{AreDepthsOf}
use Rattle.avm2_verify.specs.Ways.{passed}
use Rattle.avm2_verify.proofs.OperandLaws.{passed_as, is_passed}

some_same : {A : Type 0} (x y : A) → Some x ≡ Some y → x ≡ y
some_same x y e = cc

ok_same : (x y : Instruction × ℕ) → (let r : Result (Instruction × ℕ) CodeReason = Ok x in r) ≡ Ok y → x ≡ y
ok_same x y e = cc

module _ (a : Abc) (b : MethodBody) (table : List (Option Depths)) (t : AreDepthsOf a b table) (place : ℕ) where
  -- no path comes to the place
  pub none_comes : ((d : Depths) → slice_get table place ≡ Some (Some d) → ⊥) → AreEnds a b place ends.Fine
  none_comes never = (λ h. never h.carried (t.all place h.carried h.arrives), λ h. never h.carried (t.all place h.carried h.arrives))

  -- or none passes the instruction
  pub none_passes : (r : CodeReason) → passed a b.code place ≡ Err r → AreEnds a b place ends.Fine
  none_passes r e = (λ h. refused h.over h.next (is_passed a b.code place h.over h.next h.reads.read h.passes), λ h. refused h.over h.next (is_passed a b.code place h.over h.next h.reads.read h.passes))
    where
      refused : (i : Instruction) (next : ℕ) → passed a b.code place ≡ Ok (i, next) → ⊥
      refused i next g = let w = sym e ∙ g in (cc)

  module _ (stands : HasInstruction b.code place) (d : Depths) (known : slice_get table place ≡ Some (Some d)) (i : Instruction) (next : ℕ) (is : passed a b.code place ≡ Ok (i, next)) where
    reads : Reads b.code place i next
    reads = record { stands = stands; read = (passed_as a b.code place i next is).read }

    depths_same : (e : Depths) → HasDepths a b place e → e ≡ d
    depths_same e h = some_same e d (some_same (Some e) (Some d) (sym (t.all place e h) ∙ known))

    read_same : (j : Instruction) (n : ℕ) → Reads b.code place j n → (let y : Instruction × ℕ = (j, n) in y) ≡ (i, next)
    read_same j n h = ok_same (j, n) (i, next) (sym h.read ∙ reads.read)

    pub lacking : (KeepsDepths a b i d → ⊥) → AreEnds a b place ends.Lacking
    lacking never = record { carried = d; arrives = t.arrives place d known; over = i; next = next; reads = reads; passes = (passed_as a b.code place i next is).passes; lacks = never }

    keeps : KeepsDepths a b i d → BodyLacks a b place → ⊥
    keeps k h =
        let over : h.over ≡ i = ap (λ y. y.0) (read_same h.over h.next h.reads) in
        h.lacks (subst (λ j. KeepsDepths a b j h.carried) (sym over) (subst (KeepsDepths a b i) (sym (depths_same h.carried h.arrives)) k))

    pub leaving : KeepsDepths a b i d → IsTrue (falls_through (successor i)) → next ≡ length b.code → AreEnds a b place ends.Leaving
    leaving k falls ends =
        (keeps k, record { carried = d; arrives = t.arrives place d known; over = i; next = next; reads = reads; passes = (passed_as a b.code place i next is).passes; has = k; falls = falls; ends = ends })

    pub going_on : KeepsDepths a b i d → (IsTrue (falls_through (successor i)) → next ≡ length b.code → ⊥) → AreEnds a b place ends.Fine
    going_on k inside = (keeps k, leaves)
      where
        leaves : BodyLeaves a b place → ⊥
        leaves h =
            let same = read_same h.over h.next h.reads in
            let over : h.over ≡ i = ap (λ y. y.0) same in
            let behind : h.next ≡ next = ap (λ y. y.1) same in
            inside (subst (λ j. IsTrue (falls_through (successor j))) over h.falls) (sym behind ∙ h.ends)

-- where depths were found, the limits are kept
pub keeps_from : (o : Option Depths) (P : Type 0) (Q : Depths → Type 0) → is_some o ≡ true → IfSome o (λ d. P × Q d) → P
keeps_from None P Q e h = absurd (cc)
keeps_from (Some d) P Q e h = h.0

pub none_found : (o : Option Depths) → is_some o ≡ false → IsSome o → ⊥
none_found o e h = let w = sym e ∙ h in (cc)

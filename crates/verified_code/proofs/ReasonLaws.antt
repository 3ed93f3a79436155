-- Records have one first reason at most.
use Rattle.std.proofs.Common.{◌≡◌, ℕ, ◌<◌, ◌≤◌, ◌⊎◌, inl, inr, Some, slice_get, ⊎_elim, refl, sym, ap, ◌∙◌, subst, arith}
use Rattle.std.specs.Prelude.{if◌then◌else◌, ◌==◌}
use Rattle.std.proofs.lemmas.Bool.{cases_lt}
use Rattle.abc_format.specs.declared.records.Abc.{Abc}
use Rattle.abc_format.specs.declared.records.MethodBody.{MethodBody}
use Rattle.avm2_code.specs.declared.reason.CodeReason.{CodeReason}
use Rattle.avm2_code.specs.declared.reason.CodeReason.TheVariants as reason
use Rattle.verified_code.specs.Verified.{IsFirstOf, IsFirstReason, rank}
use Rattle.verified_code.specs.Laws.{HasOneFirstReason}

-- the reason of a rank
by_rank : ℕ → CodeReason
by_rank n =
    if n == 0 then reason.HasExceptions
    else if n == 1 then reason.Cut
    else if n == 2 then reason.UnknownOpcode
    else if n == 3 then reason.Number
    else if n == 4 then reason.Index
    else if n == 5 then reason.NotPlayed
    else if n == 6 then reason.OffInstruction
    else if n == 7 then reason.BackwardToNoLabel
    else if n == 8 then reason.StackDepth
    else if n == 9 then reason.LocalNumber
    else reason.FallsOff

its_rank : (r : CodeReason) → by_rank (rank r) ≡ r
unfolding by_rank
its_rank reason.HasExceptions = refl
its_rank _ = refl

-- reasons of one rank are one
pub same_rank : (r s : CodeReason) → rank r ≡ rank s → r ≡ s
same_rank r s e = sym (its_rank r) ∙ ap by_rank e ∙ its_rank s

first_of_body : (a : Abc) (b : MethodBody) (place at : ℕ) (r s : CodeReason) → IsFirstOf a b place r → IsFirstOf a b at s → (place ≡ at) × (r ≡ s)
first_of_body a b place at r s f g = by (f.first s at g.has) (g.first r place f.has)
  where
    by : (place < at) ⊎ ((place ≡ at) × (rank r ≤ rank s)) → (at < place) ⊎ ((at ≡ place) × (rank s ≤ rank r)) → (place ≡ at) × (r ≡ s)
    by (inl x) (inl y) = absurd (omega arith)
    by (inl x) (inr y) = absurd (let h = y.0 in omega arith)
    by (inr x) (inl y) = absurd (let h = x.0 in omega arith)
    by (inr x) (inr y) = (x.0, same_rank r s (let h = x.1 in let k = y.1 in omega arith))

some_same : {A : Type 0} {x y : A} → Some x ≡ Some y → x ≡ y
some_same e = cc

no_first : (a : Abc) (number other place at : ℕ) (r s : CodeReason) → number < other → IsFirstReason a number place r → IsFirstReason a other at s → ⊥
no_first a number other place at r s lt f g = g.before number f.body lt f.is r place f.has.has

first_same : (a : Abc) (number place other at : ℕ) (r s : CodeReason) → IsFirstReason a number place r → IsFirstReason a other at s → (number ≡ other) × (place ≡ at) × (r ≡ s)
first_same a number place other at r s f g = ⊎_elim (λ lt. absurd (no_first a number other place at r s lt f g)) (λ le. ⊎_elim (λ lt. absurd (no_first a other number at place s r lt g f)) (λ ge. same (omega arith)) (cases_lt other number)) (cases_lt number other)
  where
    same : number ≡ other → (number ≡ other) × (place ≡ at) × (r ≡ s)
    same e =
        let bodies : f.body ≡ g.body = some_same (sym f.is ∙ ap (slice_get a.method_bodies) e ∙ g.is) in
        let both = first_of_body a g.body place at r s (subst (λ b. IsFirstOf a b place r) bodies f.has) g.has in
        (e, both.0, both.1)

pub one_first : HasOneFirstReason
one_first = record {
  one = first_same;
  none = λ a number place r v f. v number f.body f.is r place f.has.has;
}

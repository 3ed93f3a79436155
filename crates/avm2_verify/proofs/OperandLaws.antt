-- What an instruction does, whatever else is known of names.
use Rattle.std.proofs.Common.{◌≡◌, ℕ, Bool, true, false, List, Some, None, Ok, Err, refl, sym, ap, ◌∙◌, subst}
use Rattle.std.specs.Prelude.{Result, if◌then◌else◌}
use Rattle.std.specs.List.{list_any}
use Rattle.std.specs.Result.{result_ok}
use Rattle.abc_format.specs.declared.records.Abc.{Abc}
use Rattle.avm2_code.specs.declared.instruction.Instruction.{Instruction}
use Rattle.avm2_code.specs.declared.instruction.Instruction.TheVariants as instruction
use Rattle.avm2_code.specs.declared.reason.CodeReason.{CodeReason}
use Rattle.avm2_code.specs.declared.reason.CodeReason.TheVariants.{Index, NotPlayed}
use Rattle.avm2_code.specs.Reading.{instruction_at}
use Rattle.avm2_code.specs.Table.{row, operands}
use Rattle.verified_code.specs.Operands.{is_missing, is_unplayed}
use Rattle.verified_code.specs.Paths.{successor}
use Rattle.verified_code.specs.Verified.{effect, IsPassed}
use Rattle.avm2_verify.specs.Ways.{first_is_late, passing, passed}

-- the first operand alone tells whether the index is taken
pub effect_is : (a : Abc) (i : Instruction) → (row (λ name. first_is_late a.constant_pool (operands i)) i).effect ≡ effect a i
effect_is a instruction.Label = refl
effect_is a _ = refl

-- names don't change where code goes on
pub successor_is : (a : Abc) (i : Instruction) → (effect a i).successor ≡ successor i
successor_is a instruction.Label = refl
successor_is a _ = refl

-- an instruction that a path passes
pub record IsPassedAs (a : Abc) (code : List ℕ) (place : ℕ) (i : Instruction) (next : ℕ) : Type 0 where
  pub read : instruction_at code place ≡ Ok (i, next)
  pub passes : IsPassed a i

ok_same : (x y : Instruction × ℕ) → (let r : Result (Instruction × ℕ) CodeReason = Ok x in r) ≡ Ok y → x ≡ y
ok_same x y e = cc

pub passed_as : (a : Abc) (code : List ℕ) (place : ℕ) (i : Instruction) (next : ℕ) → passed a code place ≡ Ok (i, next) → IsPassedAs a code place i next
passed_as a code place i next e = by (instruction_at code place) refl e
  where
    fine : (x : Instruction × ℕ) → instruction_at code place ≡ Ok x → (t u : Bool) → list_any (is_missing a) (operands x.0) ≡ t → list_any (is_unplayed a.constant_pool (row (λ name. false) x.0).late_name) (operands x.0) ≡ u
        → (if t then Err Index else if u then Err NotPlayed else Ok x) ≡ Ok (i, next) → IsPassedAs a code place i next
    fine x g true u m n h = absurd (cc)
    fine x g false true m n h = absurd (cc)
    fine x g false false m n h =
        let same = ok_same x (i, next) h in
        record {
          read = g ∙ ap Ok same;
          passes = subst (λ (y : Instruction × ℕ). IsPassed a y.0) same (record { index = λ w. let v : true ≡ false = sym w ∙ m in (cc); name = λ w. let v : true ≡ false = sym w ∙ n in (cc) });
        }

    by : (r : Result (Instruction × ℕ) CodeReason) → instruction_at code place ≡ r → passing a r ≡ Ok (i, next) → IsPassedAs a code place i next
    by (Ok x) g h = fine x g (list_any (is_missing a) (operands x.0)) (list_any (is_unplayed a.constant_pool (row (λ name. false) x.0).late_name) (operands x.0)) refl refl h
    by (Err r) g h = absurd (cc)

-- and the other way
pub is_passed : (a : Abc) (code : List ℕ) (place : ℕ) (i : Instruction) (next : ℕ) → instruction_at code place ≡ Ok (i, next) → IsPassed a i → passed a code place ≡ Ok (i, next)
is_passed a code place i next e p = ap (passing a) e ∙ by (list_any (is_missing a) (operands i)) (list_any (is_unplayed a.constant_pool (row (λ name. false) i).late_name) (operands i)) refl refl
  where
    by : (t u : Bool) → list_any (is_missing a) (operands i) ≡ t → list_any (is_unplayed a.constant_pool (row (λ name. false) i).late_name) (operands i) ≡ u
        → (let x : Instruction × ℕ = (i, next) in let r : Result (Instruction × ℕ) CodeReason = if t then Err Index else if u then Err NotPlayed else Ok x in r) ≡ Ok (i, next)
    by true u m n = absurd (p.index m)
    by false true m n = absurd (p.name n)
    by false false m n = refl

pub ok_from_some : (r : Result (Instruction × ℕ) CodeReason) (x : Instruction × ℕ) → result_ok r ≡ Some x → r ≡ Ok x
ok_from_some (Ok y) x e = cc
ok_from_some (Err r) x e = absurd (cc)

pub err_from_none : (r : Result (Instruction × ℕ) CodeReason) → result_ok r ≡ None → (reason : CodeReason) × (r ≡ Err reason)
err_from_none (Ok y) e = absurd (cc)
err_from_none (Err r) e = (r, refl)

-- The bytes of an instruction whose operands fit their forms spell it.
use Rattle.std.proofs.Common.{◌≡◌, ℕ, suc, ◌+◌, ◌-◌, ◌*◌, ◌/◌, ◌%◌, ◌<◌, ℤ, pos, negsuc, ◌-ℤ◌, List, [], ◌∷◌, refl, ap, ◌∙◌, arith, All}
use Rattle.std.specs.Prelude.{if◌then◌else◌, nat_lt, false}
use Rattle.std.specs.Int.{cast_unsigned, w8, w32}
use Rattle.std.specs.List.{flat_map}
use Rattle.std.proofs.lemmas.Bool.{lt-ltb, le-ltb}
use Rattle.std.proofs.lemmas.Int.{ints, to_z-of_z}
use Rattle.std.proofs.lemmas.List.Elements.{All-head, All-tail}
use Rattle.flex_base.specs.Split.{Each}
use Rattle.abc_format.proofs.SpellingLaws.{u30-spelled}
use Rattle.abc_format.proofs.PartLaws.{joined}
use Rattle.avm2_code.specs.declared.instruction.Instruction.{Instruction}
use Rattle.avm2_code.specs.declared.table.OperandForm.{OperandForm}
use Rattle.avm2_code.specs.declared.table.OperandForm.TheVariants.{U8, S8, U30, S24}
use Rattle.avm2_code.specs.Table.{signed24, opcode, operands, IsOperand, IsInstruction}
use Rattle.avm2_code.specs.Writing.{spelling, encode}
use Rattle.avm2_code.specs.Assembly.{IsS24, FitsForm}

-- three bytes of a number below 2 ^ 24 put together again
together : (n : ℕ) → n % 256 + 256 * (n / 256 % 256) + 65536 * (n / 65536) ≡ n
together n = omega arith

negative24 : (n : ℕ) → n < 8388608 → (4294967296 - suc n) % 16777216 ≡ 16777216 - suc n
negative24 n lt = omega arith

large : (n : ℕ) → n < 8388608 → nat_lt (16777216 - suc n) 8388608 ≡ false
large n lt = le-ltb (16777216 - suc n) 8388608 (omega arith)

back : (n : ℕ) → n < 8388608 → pos (16777216 - suc n) -ℤ pos 16777216 ≡ negsuc n
back n lt = omega (arith, ints)

offset24 : (z : ℤ) → IsS24 z → signed24 (cast_unsigned w32 z % 16777216) ≡ z
offset24 (pos n) lt =
    let e : n % 16777216 ≡ n = omega arith in
    ap signed24 e ∙ ap (λ t. if t then pos n else (pos n -ℤ pos 16777216)) (lt-ltb n 8388608 lt)
offset24 (negsuc n) lt = ap signed24 (negative24 n lt) ∙ ap (λ t. if t then pos (16777216 - suc n) else (pos (16777216 - suc n) -ℤ pos 16777216)) (large n lt) ∙ back n lt

pub operand-spelled : (o : OperandForm) → FitsForm o → IsOperand o (spelling o)
operand-spelled (U8 n) fits = refl
operand-spelled (S8 z) fits = (cast_unsigned w8 z, refl, to_z-of_z w8 z fits)
operand-spelled (U30 of n) fits = u30-spelled n fits
operand-spelled (S24 z) fits =
    let n = cast_unsigned w32 z % 16777216 in
    (n % 256, n / 256 % 256, n / 65536, refl, ap signed24 (together n) ∙ offset24 z fits)

pub operands-spelled : (os : List OperandForm) → All FitsForm os → Each IsOperand os (flat_map spelling os)
operands-spelled [] fits = refl
operands-spelled (o ∷ os) fits = joined (spelling o) (flat_map spelling os) (operand-spelled o (All-head FitsForm o os fits)) (operands-spelled os (All-tail FitsForm o os fits))

pub spelled-instruction : (i : Instruction) → All FitsForm (operands i) → IsInstruction i (encode i)
spelled-instruction i fits = record { front = opcode i ∷ []; back = flat_map spelling (operands i); is = refl; first = refl; second = operands-spelled (operands i) fits }

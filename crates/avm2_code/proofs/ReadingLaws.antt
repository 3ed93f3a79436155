-- Each spelling of an instruction is read, and its numbers are judged once all of them fit.
use Rattle.std.proofs.Common.{◌≡◌, ℕ, suc, ◌+◌, ℤ, Bool, false, List, [], ◌∷◌, ◌++◌, length, drop, Ok, Err, refl, sym, ap, ◌∙◌, subst, arith, append_assoc, length-append}
use Rattle.std.specs.Prelude.{if◌then◌else◌, ◌||◌}
use Rattle.std.specs.List.{list_any}
use Rattle.std.proofs.lemmas.Bool.{lt-leb}
use Rattle.std.proofs.lemmas.List.{append-nil}
use Rattle.std.proofs.Math.Seq.{drop-append_seam, drop-append-add}
use Rattle.flex_base.specs.Split.{Split, Each}
use Rattle.abc_format.specs.Grammar.{IsByte, IsSpelledBy}
use Rattle.abc_format.specs.Numbers.{u30_limit}
use Rattle.abc_format.proofs.NumberLaws.{u32_at-append}
use Rattle.avm2_code.specs.declared.reason.CodeReason.TheVariants.{Number}
use Rattle.avm2_code.specs.declared.instruction.Instruction.{Instruction}
use Rattle.avm2_code.specs.declared.instruction.Instruction.TheVariants as instruction
use Rattle.avm2_code.specs.declared.table.OperandForm.{OperandForm}
use Rattle.avm2_code.specs.declared.table.OperandForm.TheVariants.{U8, S8, U30, S24}
use Rattle.avm2_code.specs.declared.table.Role.TheVariants.{Plain}
use Rattle.avm2_code.specs.Reading.{Reading, then_do, spelled, number, two_numbers, one_byte, offset, four_done, four_after_register, four_after_name, four_operands, OfNumber, OfNumbers, OfByte, OfSignedByte, OfOffset, OfFour, read_as, makers, read_among, read_instruction, instruction_at}
use Rattle.avm2_code.specs.Table.{opcode, operands, IsSpelled, IsOperand, IsAt, Fits, is_too_large}

-- a part with nothing behind it
whole_is : (P : List ℕ → Type 0) (bytes : List ℕ) → Split P (λ back. back ≡ []) bytes → P bytes
whole_is P bytes s = subst P (sym (s.is ∙ ap (λ l. s.front ++ l) s.second ∙ append-nil s.front)) s.first

-- a number is read, whatever follows
number_is : (n : ℕ) (bytes rest : List ℕ) → IsSpelledBy n bytes → number (bytes ++ rest) ≡ Ok (n, length bytes)
number_is n bytes rest w = ap spelled (u32_at-append bytes rest _ w)

two_is : (n m : ℕ) (bytes rest : List ℕ) → Split (IsSpelledBy n) (Split (IsSpelledBy m) (λ back. back ≡ [])) bytes → two_numbers (bytes ++ rest) ≡ Ok (n, m, length bytes)
two_is n m bytes rest s =
    let second = whole_is (IsSpelledBy m) s.back s.second in
    let all = s.front ++ (s.back ++ rest) in
    let then_second : Reading (ℕ × ℕ) → Reading (ℕ × ℕ × ℕ) = λ r. then_do r (λ b. Ok (n, b.0, length s.front + b.1)) in
    ap (λ l. two_numbers (l ++ rest)) s.is ∙ ap two_numbers (append_assoc s.front s.back rest)
    ∙ ap (λ r. then_do r (λ a. then_do (number (drop a.1 all)) (λ b. Ok (a.0, b.0, a.1 + b.1)))) (number_is n s.front (s.back ++ rest) s.first)
    ∙ ap (λ l. then_second (number l)) (drop-append_seam s.front (s.back ++ rest))
    ∙ ap then_second (number_is m s.back rest second)
    ∙ ap (λ k. Ok (n, m, k)) (sym (ap length s.is ∙ length-append s.front s.back))

-- the opcode, and what its operands are in
record Opened (i : Instruction) (piece : List ℕ) : Type 0 where
  behind : List ℕ
  is : piece ≡ opcode i ∷ behind
  each : Each IsSpelled (operands i) behind

opened : (i : Instruction) (piece : List ℕ) → Split (IsByte (opcode i)) (Each IsSpelled (operands i)) piece → Opened i piece
opened i piece s = record { behind = s.back; is = s.is ∙ ap (λ l. l ++ s.back) s.first; each = s.second }

-- an instruction is read where its operands are, whatever follows
read_of : (i : Instruction) (piece rest : List ℕ) (o : Opened i piece) → read_among makers (opcode i) (o.behind ++ rest) ≡ Ok (i, suc (length o.behind)) → read_instruction (piece ++ rest) ≡ Ok (i, length piece)
read_of i piece rest o e = ap (λ l. read_instruction (l ++ rest)) o.is ∙ e ∙ ap (λ k. Ok (i, k)) (sym (ap length o.is))

after_none : (i : Instruction) (behind : List ℕ) (r : Reading (Instruction × ℕ)) → r ≡ Ok (i, 1) → behind ≡ [] → r ≡ Ok (i, suc (length behind))
after_none i behind r is none = is ∙ ap (λ l. Ok (i, suc (length l))) (sym none)

after_one : (f : ℕ → Instruction) (n : ℕ) (behind rest : List ℕ) → Each IsSpelled (U30 Plain n ∷ []) behind → read_as (OfNumber f) (behind ++ rest) ≡ Ok (f n, suc (length behind))
after_one f n behind rest s =
    let e : 1 + length behind ≡ suc (length behind) = omega arith in
    ap (λ r. then_do r (λ m. Ok (f m.0, 1 + m.1))) (number_is n behind rest (whole_is (IsSpelledBy n) behind s)) ∙ ap (λ k. Ok (f n, k)) e

after_two : (f : ℕ → ℕ → Instruction) (n m : ℕ) (behind rest : List ℕ) → Each IsSpelled (U30 Plain n ∷ U30 Plain m ∷ []) behind
    → read_as (OfNumbers f) (behind ++ rest) ≡ Ok (f n m, suc (length behind))
after_two f n m behind rest s =
    let e : 1 + length behind ≡ suc (length behind) = omega arith in
    ap (λ r. then_do r (λ x. Ok (f x.0 x.1, 1 + x.2))) (two_is n m behind rest s) ∙ ap (λ k. Ok (f n m, k)) e

after_byte : (f : ℕ → Instruction) (n : ℕ) (behind rest : List ℕ) → Each IsSpelled (U8 n ∷ []) behind → read_as (OfByte f) (behind ++ rest) ≡ Ok (f n, suc (length behind))
after_byte f n behind rest s =
    let is = whole_is (IsByte n) behind s in
    ap (λ l. read_as (OfByte f) (l ++ rest)) is ∙ ap (λ l. Ok (f n, suc (length l))) (sym is)

after_signed_byte : (f : ℤ → Instruction) (z : ℤ) (behind rest : List ℕ) → Each IsSpelled (S8 z ∷ []) behind → read_as (OfSignedByte f) (behind ++ rest) ≡ Ok (f z, suc (length behind))
after_signed_byte f z behind rest s =
    let w = whole_is (IsSpelled (S8 z)) behind s in
    ap (λ l. read_as (OfSignedByte f) (l ++ rest)) w.1 ∙ ap (λ x. Ok (f x, 2)) w.2 ∙ ap (λ l. Ok (f z, suc (length l))) (sym w.1)

after_offset : (f : ℤ → Instruction) (z : ℤ) (behind rest : List ℕ) → Each IsSpelled (S24 z ∷ []) behind → read_as (OfOffset f) (behind ++ rest) ≡ Ok (f z, suc (length behind))
after_offset f z behind rest s =
    let w = whole_is (IsSpelled (S24 z)) behind s in
    ap (λ l. read_as (OfOffset f) (l ++ rest)) w.3 ∙ ap (λ x. Ok (f x, 4)) w.4 ∙ ap (λ l. Ok (f z, suc (length l))) (sym w.3)

four_is : (k n r x : ℕ) (bytes rest : List ℕ) → Each IsSpelled (U8 k ∷ U30 Plain n ∷ U8 r ∷ U30 Plain x ∷ []) bytes → four_operands (bytes ++ rest) ≡ Ok (k, n, r, x, length bytes)
four_is k n r x bytes rest s =
    let f = s.second.front in
    let g = s.second.second.back in
    let last = whole_is (IsSpelledBy x) g s.second.second.second in
    let tail = r ∷ (g ++ rest) in
    let all = k ∷ (f ++ tail) in
    let kind : ℕ × ℕ = (k, 1) in
    let name : ℕ × ℕ = (n, length f) in
    let register : ℕ × ℕ = (r, 1) in
    let shape : bytes ≡ k ∷ (f ++ r ∷ g) =
    s.is ∙ ap (λ l. l ++ s.back) s.first ∙ ap (λ l. k ∷ l) (s.second.is ∙ ap (λ l. f ++ l) (s.second.second.is ∙ ap (λ l. l ++ g) s.second.second.first)) in
    let whole : bytes ++ rest ≡ all = ap (λ l. l ++ rest) shape ∙ ap (λ l. k ∷ l) (append_assoc f (r ∷ g) rest) in
    let e1 : 1 + length f ≡ suc (length f) = omega arith in
    let e2 : 1 + length f + 1 ≡ suc (length f + 1) = omega arith in
    let at_third : drop (1 + length f) all ≡ tail = ap (λ m. drop m all) e1 ∙ drop-append_seam f tail in
    let at_last : drop (1 + length f + 1) all ≡ g ++ rest = ap (λ m. drop m all) e2 ∙ drop-append-add f tail 1 in
    let size : 1 + length f + 1 + length g ≡ length bytes = omega (arith, ap length shape, length-append f (r ∷ g)) in
    ap four_operands whole
    ∙ ap (λ y. then_do y (four_after_name all kind)) (number_is n f tail s.second.first)
    ∙ ap (λ l. then_do (one_byte l) (four_after_register all kind name)) at_third
    ∙ ap (λ l. then_do (number l) (four_done kind name register)) at_last
    ∙ ap (λ y. then_do y (four_done kind name register)) (number_is x g rest last)
    ∙ ap (λ m. Ok (k, n, r, x, m)) size

after_four : (f : ℕ → ℕ → ℕ → ℕ → Instruction) (k n r x : ℕ) (behind rest : List ℕ) → Each IsSpelled (U8 k ∷ U30 Plain n ∷ U8 r ∷ U30 Plain x ∷ []) behind
    → read_as (OfFour f) (behind ++ rest) ≡ Ok (f k n r x, suc (length behind))
after_four f k n r x behind rest s =
    let e : 1 + length behind ≡ suc (length behind) = omega arith in
    ap (λ y. then_do y (λ z. Ok (f z.0 z.1 z.2 z.3, 1 + z.4))) (four_is k n r x behind rest s) ∙ ap (λ m. Ok (f k n r x, m)) e

-- each spelling of each instruction is read, whatever follows
after_opcode : (i : Instruction) (behind rest : List ℕ) → Each IsSpelled (operands i) behind → read_among makers (opcode i) (behind ++ rest) ≡ Ok (i, suc (length behind))
after_opcode instruction.Label behind rest s = after_none instruction.Label behind _ refl s
after_opcode (instruction.Jump offset) behind rest s = after_offset instruction.Jump offset behind rest s
after_opcode (instruction.IfTrue offset) behind rest s = after_offset instruction.IfTrue offset behind rest s
after_opcode (instruction.IfFalse offset) behind rest s = after_offset instruction.IfFalse offset behind rest s
after_opcode instruction.PopScope behind rest s = after_none instruction.PopScope behind _ refl s
after_opcode instruction.PushNull behind rest s = after_none instruction.PushNull behind _ refl s
after_opcode instruction.PushUndefined behind rest s = after_none instruction.PushUndefined behind _ refl s
after_opcode (instruction.PushByte value) behind rest s = after_signed_byte instruction.PushByte value behind rest s
after_opcode instruction.PushTrue behind rest s = after_none instruction.PushTrue behind _ refl s
after_opcode instruction.PushFalse behind rest s = after_none instruction.PushFalse behind _ refl s
after_opcode instruction.Pop behind rest s = after_none instruction.Pop behind _ refl s
after_opcode instruction.Dup behind rest s = after_none instruction.Dup behind _ refl s
after_opcode instruction.Swap behind rest s = after_none instruction.Swap behind _ refl s
after_opcode (instruction.PushString string) behind rest s = after_one instruction.PushString string behind rest s
after_opcode (instruction.PushInt int) behind rest s = after_one instruction.PushInt int behind rest s
after_opcode instruction.PushScope behind rest s = after_none instruction.PushScope behind _ refl s
after_opcode (instruction.CallSuper name count) behind rest s = after_two instruction.CallSuper name count behind rest s
after_opcode (instruction.CallProperty name count) behind rest s = after_two instruction.CallProperty name count behind rest s
after_opcode instruction.ReturnVoid behind rest s = after_none instruction.ReturnVoid behind _ refl s
after_opcode instruction.ReturnValue behind rest s = after_none instruction.ReturnValue behind _ refl s
after_opcode (instruction.ConstructSuper count) behind rest s = after_one instruction.ConstructSuper count behind rest s
after_opcode (instruction.ConstructProp name count) behind rest s = after_two instruction.ConstructProp name count behind rest s
after_opcode (instruction.CallPropVoid name count) behind rest s = after_two instruction.CallPropVoid name count behind rest s
after_opcode (instruction.NewArray count) behind rest s = after_one instruction.NewArray count behind rest s
after_opcode (instruction.NewClass class) behind rest s = after_one instruction.NewClass class behind rest s
after_opcode (instruction.FindPropStrict name) behind rest s = after_one instruction.FindPropStrict name behind rest s
after_opcode (instruction.GetLex name) behind rest s = after_one instruction.GetLex name behind rest s
after_opcode (instruction.SetProperty name) behind rest s = after_one instruction.SetProperty name behind rest s
after_opcode (instruction.GetLocal local) behind rest s = after_one instruction.GetLocal local behind rest s
after_opcode (instruction.SetLocal local) behind rest s = after_one instruction.SetLocal local behind rest s
after_opcode (instruction.GetScopeObject scope) behind rest s = after_byte instruction.GetScopeObject scope behind rest s
after_opcode (instruction.GetProperty name) behind rest s = after_one instruction.GetProperty name behind rest s
after_opcode (instruction.InitProperty name) behind rest s = after_one instruction.InitProperty name behind rest s
after_opcode instruction.ConvertString behind rest s = after_none instruction.ConvertString behind _ refl s
after_opcode instruction.ConvertInt behind rest s = after_none instruction.ConvertInt behind _ refl s
after_opcode instruction.ConvertBoolean behind rest s = after_none instruction.ConvertBoolean behind _ refl s
after_opcode (instruction.Coerce name) behind rest s = after_one instruction.Coerce name behind rest s
after_opcode instruction.CoerceAny behind rest s = after_none instruction.CoerceAny behind _ refl s
after_opcode instruction.CoerceString behind rest s = after_none instruction.CoerceString behind _ refl s
after_opcode instruction.Negate behind rest s = after_none instruction.Negate behind _ refl s
after_opcode instruction.Not behind rest s = after_none instruction.Not behind _ refl s
after_opcode instruction.Add behind rest s = after_none instruction.Add behind _ refl s
after_opcode instruction.Subtract behind rest s = after_none instruction.Subtract behind _ refl s
after_opcode instruction.Multiply behind rest s = after_none instruction.Multiply behind _ refl s
after_opcode instruction.Modulo behind rest s = after_none instruction.Modulo behind _ refl s
after_opcode instruction.Equals behind rest s = after_none instruction.Equals behind _ refl s
after_opcode instruction.StrictEquals behind rest s = after_none instruction.StrictEquals behind _ refl s
after_opcode instruction.LessThan behind rest s = after_none instruction.LessThan behind _ refl s
after_opcode instruction.LessEquals behind rest s = after_none instruction.LessEquals behind _ refl s
after_opcode instruction.GreaterThan behind rest s = after_none instruction.GreaterThan behind _ refl s
after_opcode instruction.GetLocal0 behind rest s = after_none instruction.GetLocal0 behind _ refl s
after_opcode instruction.GetLocal1 behind rest s = after_none instruction.GetLocal1 behind _ refl s
after_opcode instruction.GetLocal2 behind rest s = after_none instruction.GetLocal2 behind _ refl s
after_opcode instruction.GetLocal3 behind rest s = after_none instruction.GetLocal3 behind _ refl s
after_opcode instruction.SetLocal0 behind rest s = after_none instruction.SetLocal0 behind _ refl s
after_opcode instruction.SetLocal1 behind rest s = after_none instruction.SetLocal1 behind _ refl s
after_opcode instruction.SetLocal2 behind rest s = after_none instruction.SetLocal2 behind _ refl s
after_opcode instruction.SetLocal3 behind rest s = after_none instruction.SetLocal3 behind _ refl s
after_opcode (instruction.Debug kind name register extra) behind rest s = after_four instruction.Debug kind name register extra behind rest s
after_opcode (instruction.DebugLine line) behind rest s = after_one instruction.DebugLine line behind rest s
after_opcode (instruction.DebugFile file) behind rest s = after_one instruction.DebugFile file behind rest s

-- and so is what fits into the code
pub fitting_is_read : (i : Instruction) (piece rest : List ℕ) → Split (IsByte (opcode i)) (Each IsSpelled (operands i)) piece → read_instruction (piece ++ rest) ≡ Ok (i, length piece)
fitting_is_read i piece rest s = let o = opened i piece s in read_of i piece rest o (after_opcode i o.behind rest o.each)

-- an operand of the table is spelled, and not too large
operand_spelled : (o : OperandForm) (bytes : List ℕ) → IsOperand o bytes → IsSpelled o bytes
operand_spelled (U8 n) bytes h = h
operand_spelled (S8 z) bytes h = h
operand_spelled (U30 of n) bytes h = h.spelled
operand_spelled (S24 z) bytes h = h

operand_small : (o : OperandForm) (bytes : List ℕ) → IsOperand o bytes → is_too_large o ≡ false
operand_small (U8 n) bytes h = refl
operand_small (S8 z) bytes h = refl
operand_small (U30 of n) bytes h = lt-leb u30_limit n h.below
operand_small (S24 z) bytes h = refl

operands_spelled : (os : List OperandForm) (bytes : List ℕ) → Each IsOperand os bytes → Each IsSpelled os bytes
operands_spelled [] bytes h = h
operands_spelled (o ∷ os) bytes h =
    record { front = h.front; back = h.back; is = h.is; first = operand_spelled o h.front h.first; second = operands_spelled os h.back h.second }

operands_small : (os : List OperandForm) (bytes : List ℕ) → Each IsOperand os bytes → list_any is_too_large os ≡ false
operands_small [] bytes h = refl
operands_small (o ∷ os) bytes h = ap (λ t. t || list_any is_too_large os) (operand_small o h.front h.first) ∙ operands_small os h.back h.second

-- what stands at a place fits there
abbrev standing_fits : (code : List ℕ) (pc : ℕ) (i : Instruction) (next : ℕ) → IsAt code pc i next → Fits code pc i
standing_fits code pc i next a =
    let s = a.spells in
    record { piece = a.piece; behind = a.behind; is = a.is; spells = record { front = s.front; back = s.back; is = s.is; first = s.first; second = operands_spelled (operands i) s.back s.second } }

-- what is answered of an instruction whose operands fit, by the judgement of its numbers
abbrev pub judged : ℕ → Bool → Instruction → ℕ → Reading (Instruction × ℕ)
judged pc large i size = if large then Err Number else Ok (i, pc + size)

pub fitting_is_judged : (code : List ℕ) (pc : ℕ) (i : Instruction) (f : Fits code pc i) → instruction_at code pc ≡ judged pc (list_any is_too_large (operands i)) i (length f.piece)
fitting_is_judged code pc i f =
    ap (λ r. then_do r (λ x. if list_any is_too_large (operands x.0) then Err Number else Ok (x.0, pc + x.1))) (ap read_instruction f.is ∙ fitting_is_read i f.piece f.behind f.spells)

-- an instruction that stands at a place is read there
pub standing_is_read : (code : List ℕ) (pc : ℕ) (i : Instruction) (next : ℕ) → IsAt code pc i next → instruction_at code pc ≡ Ok (i, next)
standing_is_read code pc i next a =
    fitting_is_judged code pc i (standing_fits code pc i next a)
    ∙ ap (λ t. judged pc t i (length a.piece)) (operands_small (operands i) a.spells.back a.spells.second)
    ∙ ap (λ k. Ok (i, k)) (sym a.ends)

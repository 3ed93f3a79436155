-- What was encoded stands at its place.
use Rattle.std.proofs.Common.{◌≡◌, ℕ, ◌+◌, List, [], ◌∷◌, ◌++◌, length, drop, Ok, All, refl, sym, ap, ◌∙◌, subst, arith, append_assoc, length-append}
use Rattle.std.proofs.Math.Seq.{drop-append_seam}
use Rattle.std.proofs.lemmas.List.Elements.{All-cons, All-nil}
use Rattle.avm2_code.specs.declared.instruction.Instruction.{Instruction}
use Rattle.avm2_code.specs.declared.table.OperandForm.{OperandForm}
use Rattle.avm2_code.specs.Table.{operands}
use Rattle.avm2_code.specs.Reading.{instruction_at}
use Rattle.avm2_code.specs.Writing.{encode}
use Rattle.avm2_code.specs.Assembly.{FitsForm}
use Rattle.avm2_code.proofs.EncodingLaws.{spelled-instruction}
use Rattle.avm2_code.proofs.ReadingLaws.{standing_is_read}
use Rattle.flexc.specs.Emitted.{encode_all}

-- operands that fit their forms, one by one
abbrev pub Fit : List OperandForm → Type 0
Fit [] = Unit {0}
Fit (o ∷ os) = FitsForm o × Fit os

fit_all : (os : List OperandForm) → Fit os → All FitsForm os
fit_all [] fine = All-nil FitsForm
fit_all (o ∷ os) fine = All-cons FitsForm o os fine.0 (fit_all os fine.1)

abbrev pub AreEncodable : List Instruction → Type 0
AreEncodable [] = Unit {0}
AreEncodable (i ∷ is) = Fit (operands i) × AreEncodable is

-- the same of all
pub encodable_all : (is : List Instruction) → AreEncodable is → All (λ i. All FitsForm (operands i)) is
encodable_all [] fine = All-nil (λ i. All FitsForm (operands i))
encodable_all (i ∷ is) fine = All-cons (λ j. All FitsForm (operands j)) i is (fit_all (operands i) fine.0) (encodable_all is fine.1)

-- how many bytes an instruction has
abbrev pub size : Instruction → ℕ
size i = length (encode i)

-- an instruction that was encoded is read at its place
decoded : (code : List ℕ) (a : ℕ) (i : Instruction) (rest : List ℕ) → drop a code ≡ encode i ++ rest → Fit (operands i) → instruction_at code a ≡ Ok (i, a + size i)
decoded code a i rest is fine =
    standing_is_read code a i (a + size i) (record { piece = encode i; behind = rest; is = is; spells = spelled-instruction i (fit_all (operands i) fine); ends = refl })

-- the instructions stand in the code from the first place to the second
abbrev pub Stands : List ℕ → ℕ → List Instruction → ℕ → Type 0
Stands code a [] b = a ≡ b
Stands code a (i ∷ is) b = (instruction_at code a ≡ Ok (i, a + size i)) × Stands code (a + size i) is b

-- a place between two parts
pub record Parts (code : List ℕ) (a : ℕ) (is js : List Instruction) (b : ℕ) : Type 0 where
  pub mid : ℕ
  pub front : Stands code a is mid
  pub back : Stands code mid js b

pub parts : (code : List ℕ) (a : ℕ) (is js : List Instruction) (b : ℕ) → Stands code a (is ++ js) b → Parts code a is js b
parts code a [] js b h = record { mid = a; front = refl; back = h }
parts code a (i ∷ is) js b h =
    let r = parts code (a + size i) is js b h.1 in
    record { mid = r.mid; front = (h.0, r.front); back = r.back }

all_stand : (code before : List ℕ) (is : List Instruction) → code ≡ before ++ encode_all is → AreEncodable is → Stands code (length before) is (length before + length (encode_all is))
all_stand code before [] e fine = omega arith
all_stand code before (i ∷ is) e fine =
    let here : drop (length before) code ≡ encode i ++ encode_all is = ap (drop (length before)) e ∙ drop-append_seam before (encode i ++ encode_all is) in
    let next : code ≡ (before ++ encode i) ++ encode_all is = e ∙ sym (append_assoc before (encode i) (encode_all is)) in
    let place : length (before ++ encode i) ≡ length before + size i = length-append before (encode i) in
    let all : length (before ++ encode i) + length (encode_all is) ≡ length before + length (encode i ++ encode_all is) =
    omega (arith, place, length-append (encode i) (encode_all is)) in
    let others = all_stand code (before ++ encode i) is next fine.1 in
    (decoded code (length before) i (encode_all is) here fine.0, subst (λ k. Stands code k is (length before + length (encode i ++ encode_all is))) place (subst (λ k. Stands code (length (before ++ encode i)) is k) all others))

-- the code of instructions holds them from its first place to its end
pub code_stands : (is : List Instruction) → AreEncodable is → Stands (encode_all is) 0 is (length (encode_all is))
code_stands is fine =
    let e : 0 + length (encode_all is) ≡ length (encode_all is) = omega arith in
    subst (λ k. Stands (encode_all is) 0 is k) e (all_stand (encode_all is) [] is refl fine)

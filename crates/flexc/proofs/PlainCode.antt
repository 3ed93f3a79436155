-- Instructions as the parts of code, without marks.
use Rattle.std.proofs.Common.{◌≡◌, ℕ, ◌<◌, ◌≤◌, List, [], length, map, All, ap, ◌∙◌, arith}
use Rattle.std.proofs.lemmas.List.Elements.{All-map, All-nil}
use Rattle.avm2_code.specs.declared.instruction.Instruction.{Instruction}
use Rattle.avm2_code.specs.declared.parts.Part.{Part}
use Rattle.avm2_code.specs.declared.parts.Part.TheVariants.{Plain}
use Rattle.avm2_code.specs.declared.parts.Parts.{Parts}
use Rattle.avm2_code.specs.Table.{operands}
use Rattle.avm2_code.specs.Assembly.{FitsForm, PartFits, HasMark, AreMarked, code_of, targets}
use Rattle.avm2_code.proofs.SizeLaws.{plain-code}
use Rattle.flexc.specs.Emitted.{encode_all}
use Rattle.flexc.proofs.WrittenSize.{encode_all-within}

-- parts that are these instructions, and no marks
abbrev pub plain : List Instruction → Parts
plain is = record { parts = map Plain is; marks = [] }

pub plain_same : (parts : List Part) (marks : List ℕ) (is : List Instruction) → parts ≡ map Plain is → marks ≡ [] → (let p : Parts = record { parts = parts; marks = marks } in p) ≡ plain is
plain_same parts marks is e n =
    ap (λ (xs : List Part). let p : Parts = record { parts = xs; marks = marks } in p) e ∙ ap (λ (ms : List ℕ). let p : Parts = record { parts = map Plain is; marks = ms } in p) n

pub plain_fits : (is : List Instruction) → All (λ i. All FitsForm (operands i)) is → All PartFits (map Plain is)
plain_fits is fine = All-map PartFits Plain is fine

pub plain_marked : (is : List Instruction) → AreMarked (plain is)
plain_marked is = record { marks = All-nil (λ before. before ≤ length (map Plain is)); branches = All-map (HasMark 0) Plain is (λ k d lt. tt) }

pub plain_is : (is : List Instruction) → code_of (plain is) ≡ encode_all is
plain_is is = plain-code (targets (plain is)) 0 is

pub plain_short : (is : List Instruction) → length is < 100000 → length (code_of (plain is)) < 8388608
plain_short is few = let h = (encode_all-within is).within in omega (arith, ap length (plain_is is), h, few)

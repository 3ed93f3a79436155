-- What parts with marks are the code of, by shapes.
use Rattle.std.specs.Prelude.{Bool, List, None, Option, Some, [], false, length, slice_get, suc, true, zero, ℕ, ℤ, ◌++◌, ◌+◌, ◌∷◌, ◌≡◌}
use Rattle.avm2_program.specs.Naming.{Naming}
use Rattle.avm2_program.specs.Operations.{operation}
use Rattle.avm2_program.specs.declared.operation.Operation.{Operation}
use Rattle.avm2_program.specs.declared.operation.Operation.TheVariants as Operation
use Rattle.avm2_code.specs.declared.instruction.Instruction.{Instruction}
use Rattle.avm2_code.specs.declared.parts.Branch.TheVariants as branch
use Rattle.avm2_code.specs.declared.parts.Branch.{Branch}
use Rattle.avm2_code.specs.declared.parts.Part.TheVariants as part
use Rattle.avm2_code.specs.declared.parts.Part.{Part}

-- what parts are the code of in a file, where so many parts stand before each mark, and before these
abbrev pub Meant : Type 1
Meant = Naming → (ℕ → ℕ) → ℕ → List Part → Type 0

-- no code
pub record Nothing (g : Naming) (marks : ℕ → ℕ) (at : ℕ) (code : List Part) : Type 0 where
  pub is : code ≡ []

-- one instruction, in whatever form, that leads nowhere else
pub record One (o : Operation) (g : Naming) (marks : ℕ → ℕ) (at : ℕ) (code : List Part) : Type 0 where
  pub instruction : Instruction
  pub is : code ≡ part.Plain instruction ∷ []
  pub does : (to : ℤ → ℕ) → operation g to instruction ≡ o

-- a branch to a mark
pub record Goes_to (b : Branch) (mark : ℕ) (g : Naming) (marks : ℕ → ℕ) (at : ℕ) (code : List Part) : Type 0 where
  pub is : code ≡ part.Marked b mark ∷ []

-- here is the mark
pub record Here (mark : ℕ) (g : Naming) (marks : ℕ → ℕ) (at : ℕ) (code : List Part) : Type 0 where
  pub is : code ≡ []
  pub here : marks mark ≡ at

-- one behind the other
pub record Then (P Q : Meant) (g : Naming) (marks : ℕ → ℕ) (at : ℕ) (code : List Part) : Type 0 where
  pub front : List Part
  pub back : List Part
  pub is : code ≡ front ++ back
  pub first : P g marks at front
  pub second : Q g marks (at + length front) back

-- with some mark
pub record Some_mark (P : ℕ → Meant) (g : Naming) (marks : ℕ → ℕ) (at : ℕ) (code : List Part) : Type 0 where
  pub mark : ℕ
  pub is : P mark g marks at code

-- the first where the value on top converts to true, else the second
abbrev pub Either : Meant → Meant → Meant
Either P Q =
    Some_mark (λ second. Some_mark (λ end.
    Then (Then (Goes_to branch.IfFalse second) (Then P (Goes_to branch.Jump end)))
    (Then (Here second) (Then Q (Here end)))))

-- the value on top stays where this branch is taken by it, or else another takes its place
abbrev pub Short : Branch → Meant → Meant
Short b P = Some_mark (λ end. Then (One Operation.Dup) (Then (Goes_to b end) (Then (One Operation.Pop) (Then P (Here end)))))

-- a loop, whose test leaves a value and whose body may go to its end, or on to its step: label, test, body, step, and back
abbrev pub Rounds : Meant → Meant → (ℕ → ℕ → Meant) → Meant
Rounds test step body =
    Some_mark (λ start. Some_mark (λ end. Some_mark (λ again.
    Then (Here start) (Then (One Operation.Label) (Then test (Then (Goes_to branch.IfFalse end)
    (Then (body end again) (Then (Here again) (Then step (Then (Goes_to branch.Jump start) (Here end)))))))))))

-- the same without a test
abbrev pub Endless : Meant → (ℕ → ℕ → Meant) → Meant
Endless step body =
    Some_mark (λ start. Some_mark (λ end. Some_mark (λ again.
    Then (Here start) (Then (One Operation.Label)
    (Then (body end again) (Then (Here again) (Then step (Then (Goes_to branch.Jump start) (Here end)))))))))

-- the body once before the first test
abbrev pub Rounds_after : Meant → (ℕ → ℕ → Meant) → Meant
Rounds_after test body =
    Some_mark (λ start. Some_mark (λ end. Some_mark (λ again. Some_mark (λ inside.
    Then (Goes_to branch.Jump inside) (Then (Here start) (Then (One Operation.Label) (Then test (Then (Goes_to branch.IfFalse end)
    (Then (Here inside) (Then (body end again) (Then (Here again) (Then (Goes_to branch.Jump start) (Here end)))))))))))))

-- for each of a list, in order
abbrev pub All : {A : Type 0} → (A → Meant) → List A → Meant
All P [] = Nothing
All P (x ∷ xs) = Then (P x) (All P xs)

abbrev pub When : Bool → Meant → Meant
When true P = P
When false P = Nothing

abbrev pub Perhaps : {A : Type 0} → (A → Meant) → Option A → Meant
Perhaps P None = Nothing
Perhaps P (Some x) = P x

-- so many times
abbrev pub Repeated : ℕ → Meant → Meant
Repeated zero P = Nothing
Repeated (suc n) P = Then P (Repeated n P)

abbrev pub branch_to : Branch → ℕ → Operation
branch_to branch.Jump target = Operation.Jump target
branch_to branch.IfTrue target = Operation.Branch true target
branch_to branch.IfFalse target = Operation.Branch false target

-- the operations of a body are those of the parts, one for each, and each branch leads to what stands behind its mark
pub record AreOperations (g : Naming) (parts : List Part) (marks : ℕ → ℕ) (operations : List Operation) : Type 0 where
  pub plain : (k : ℕ) (i : Instruction) → slice_get parts k ≡ Some (part.Plain i) → (to : ℤ → ℕ) × (slice_get operations k ≡ Some (operation g to i))
  pub marked : (k : ℕ) (b : Branch) (mark : ℕ) → slice_get parts k ≡ Some (part.Marked b mark) → slice_get operations k ≡ Some (branch_to b (marks mark))

-- operations that are such code
pub record Spells (g : Naming) (P : Meant) (operations : List Operation) : Type 0 where
  pub parts : List Part
  pub marks : ℕ → ℕ
  pub code : P g marks 0 parts
  pub by : AreOperations g parts marks operations

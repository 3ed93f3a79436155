-- The instructions that are decoded are those of the code, and a branch's target is found by its place.
use Rattle.std.proofs.Common.{◌≡◌, ℕ, zero, suc, ◌+◌, ◌<◌, ◌≤◌, pos, List, [], ◌∷◌, length, Bool, true, false, Some, Ok, Err, slice_get, refl, ap, ◌∙◌, arith, int_eq, nat_lt, ltb-false}
use Rattle.std.specs.Prelude.{if◌then◌else◌}
use Rattle.std.proofs.lemmas.Bool.Decides.{Decides-int_eq}
use Rattle.avm2_code.specs.declared.body.PlacedInstruction.{PlacedInstruction}
use Rattle.avm2_code.specs.declared.instruction.Instruction.{Instruction}
use Rattle.avm2_code.specs.Body.{AreInstructions, AreReadFrom}
use Rattle.avm2_code.specs.Reading.{Reading, instruction_at}
use Rattle.avm2_code.proofs.BodyLaws.{ends_behind, one_list, read_bounds}
use Rattle.avm2_program.specs.Decoding.{decoded_from, instructions, number_at, read_on}

module _ (code : List ℕ) where
  -- what is decoded from a place is read there
  read_from : (fuel place : ℕ) → length code ≤ place + fuel → AreReadFrom code place (decoded_from code fuel place)
  read_from zero place le = ends_behind code place (omega arith)
  read_from (suc fuel) place le = inside (nat_lt place (length code)) refl (λ next more. read_from fuel next more)
    where
      read : (r : Reading (Instruction × ℕ)) → instruction_at code place ≡ r → ((next : ℕ) → length code ≤ next + fuel → AreReadFrom code next (decoded_from code fuel next))
          → AreReadFrom code place (read_on (decoded_from code fuel) place r)
      read (Ok x) e further = (refl, e, further x.1 (let b = read_bounds code place x.0 x.1 e in omega arith))
      read (Err r) e further = record { reason = r; is = e }

      inside : (b : Bool) → nat_lt place (length code) ≡ b → ((next : ℕ) → length code ≤ next + fuel → AreReadFrom code next (decoded_from code fuel next))
          → AreReadFrom code place (if b then read_on (decoded_from code fuel) place (instruction_at code place) else [])
      inside true e further = read (instruction_at code place) refl further
      inside false e further = ends_behind code place (ltb-false _ _ e)

  pub are_instructions : AreInstructions code (instructions code)
  are_instructions = read_from (length code) 0 (omega arith)

-- what is the same under `Some` is the same
pub some_same : {A : Type 0} (x y : A) → Some x ≡ Some y → x ≡ y
some_same x y e = cc

-- nothing stands in an empty list
pub none_stands : {A : Type 0} (k : ℕ) (x : A) → slice_get [] k ≡ Some x → ⊥
none_stands k x e = cc

at_once : (b : Bool) (n : ℕ) → b ≡ true → (if b then 0 else n) ≡ 0
at_once true n e = refl
at_once false n e = absurd cc

pub not_at_once : (b : Bool) (n : ℕ) → b ≡ false → (if b then 0 else n) ≡ n
not_at_once true n e = absurd cc
not_at_once false n e = refl

same_int : (a b : ℕ) → a ≡ b → int_eq (pos a) (pos b) ≡ true
same_int a b e = (Decides-int_eq (pos a) (pos b)).1 (ap pos e)

other_int : (a b : ℕ) → a < b → int_eq (pos a) (pos b) ≡ false
other_int a b lt = grind (arith, Decides-int_eq (pos a) (pos b), lt)

pub numbered : (xs : List PlacedInstruction) (number : ℕ) (it : PlacedInstruction) → slice_get xs number ≡ Some it
    → ((before : ℕ) (y : PlacedInstruction) → before < number → slice_get xs before ≡ Some y → y.place < it.place) → number_at (pos it.place) xs ≡ number
numbered [] number it is earlier = absurd (none_stands number it is)
numbered (x ∷ xs) zero it is earlier = at_once _ _ (same_int x.place it.place (ap (λ z. z.place) (some_same x it is)))
numbered (x ∷ xs) (suc number) it is earlier =
    not_at_once _ _ (other_int x.place it.place (earlier 0 x (omega arith) refl))
    ∙ ap suc (numbered xs number it is (λ before y lt e. earlier (suc before) y (omega arith) e))

-- the number of the item that stands at a place
pub found_at : (code : List ℕ) (xs : List PlacedInstruction) → AreInstructions code xs → (number : ℕ) (it : PlacedInstruction) → slice_get xs number ≡ Some it
    → number_at (pos it.place) xs ≡ number
found_at code xs are number it is = numbered xs number it is (λ before y lt e. one_list.ordered code xs before number y it are lt e is)

-- What each step of a path keeps, each path has.
use Rattle.std.proofs.Common.{◌≡◌, ℕ, zero, suc, List, Option, Some, sym, ap, ◌∙◌, subst}
use Rattle.avm2_code.specs.declared.instruction.Instruction.{Instruction}
use Rattle.avm2_code.specs.Body.{HasInstruction}
use Rattle.verified_code.specs.Paths.{Path, AreKept}

module _ (code : List ℕ) {S : Type 0} (start : S) (after : Instruction → S → S) (Asks : Instruction → S → Type 0) (Passes : Instruction → Type 0) where
  -- a path is at an instruction
  pub path_stands : (count place : ℕ) (s : S) → Path code start after Asks Passes count place s → HasInstruction code place
  path_stands zero place s p = p.0
  path_stands (suc count) place s p = p.3.meets

  -- what each step keeps, each path has
  pub kept_on_paths : (carried : ℕ → Option S) → AreKept code start after Asks Passes carried → (count place : ℕ) (s : S) → Path code start after Asks Passes count place s → carried place ≡ Some s
  kept_on_paths carried kept zero place s p = ap carried p.1 ∙ kept.starts (subst (HasInstruction code) p.1 p.0) ∙ ap Some (sym p.2)
  kept_on_paths carried kept (suc count) place s p = kept.goes_on p.0 p.1 place s (kept_on_paths carried kept count p.0 p.1 p.2) p.3

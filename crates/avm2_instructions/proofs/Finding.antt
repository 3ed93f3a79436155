-- The first that passes a test, in lists that are walked from either end.
use Rattle.std.proofs.Common.{Bool, List, [], ◌∷◌, ◌++◌, ◌≡◌, ◌∙◌, ap, cond, false, refl, reverse, suc, sym, true, ℕ}
use Rattle.std.proofs.lemmas.List.{reverse-append}
use Rattle.std.proofs.lemmas.List.Folds.{find-append}
use Rattle.std.specs.List.{find}
use Rattle.std.specs.Option.{option_or}
use Rattle.std.specs.Prelude.{None, Option, Some}
use Rattle.avm2_meaning.specs.Members.{scripts_and_native}
use Rattle.avm2_meaning.specs.declared.operand.Operand.{Operand}
use Rattle.avm2_meaning.specs.declared.operand.Operand.TheVariants.{ScriptValue}
use Rattle.avm2_program.specs.declared.file.Program.{Program}

module _ {A : Type 0} (f : A → Bool) where
  -- the first of the front is the first of both
  pub found_in_front : (xs ys : List A) (v : A) → Some v ≡ find f xs → Some v ≡ find f (xs ++ ys)
  found_in_front xs ys v is = sym (find-append f xs ys ∙ ap (λ o. option_or o (find f ys)) (sym is))

  -- where the front has none it is that of the rest
  pub found_behind : (xs ys : List A) (r : Option A) → None ≡ find f xs → r ≡ find f ys → r ≡ find f (xs ++ ys)
  found_behind xs ys r none is = is ∙ sym (find-append f xs ys ∙ ap (λ o. option_or o (find f ys)) (sym none))

  met : (x : A) (xs : List A) (b : Bool) → f x ≡ b → find f (x ∷ xs) ≡ cond b (Some x) (find f xs)
  met x xs b is = ap (λ c. cond c (Some x) (find f xs)) is

  -- the last of a list is the first in reverse
  pub last_met : (xs others : List A) (x : A) (b : Bool) → xs ≡ others ++ x ∷ [] → f x ≡ b
      → find f (reverse xs) ≡ cond b (Some x) (find f (reverse others))
  last_met xs others x b is tells =
      ap (λ l. find f (reverse l)) is ∙ (ap (find f) (reverse-append others (x ∷ [])) ∙ met x (reverse others) b tells)

-- the next script
pub script_met : (p : Program) (f : Operand → Bool) (n left m : ℕ) (b : Bool) → left ≡ suc m → f (ScriptValue n) ≡ b
    → find f (scripts_and_native p n left) ≡ cond b (Some (ScriptValue n)) (find f (scripts_and_native p (suc n) m))
script_met p f n left m b one tells = ap (λ l. find f (scripts_and_native p n l)) one ∙ met f (ScriptValue n) (scripts_and_native p (suc n) m) b tells

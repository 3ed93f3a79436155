-- Operands, taken off a stack one after another.
use Rattle.std.proofs.Common.{List, [], ◌∷◌, ◌++◌, ◌<◌, ◌≡◌, ◌≤◌, ◌∙◌, ap, arith, length, refl, reverse, suc, sym, zero, ℕ, ◌+◌}
use Rattle.std.proofs.lemmas.List.{append_assoc, append-nil, length-append, length-reverse, reverse-append, reverse-reverse}
use Rattle.avm2_meaning.specs.Act.{pop_all, pop_operand, taken_off, with_receiver}
use Rattle.avm2_meaning.specs.Effects.{Acted, with_top}
use Rattle.avm2_meaning.specs.Results.{Result, lacks}
use Rattle.avm2_meaning.specs.declared.heap.Heap.{Heap}
use Rattle.avm2_meaning.specs.declared.operand.Operand.{Operand}
use Rattle.avm2_meaning.specs.declared.work.Work.{Work}
use Rattle.avm2_program.specs.declared.file.Program.{Program}
use Rattle.avm2_instructions.specs.Taking.{with_all}

turned : {A : Type 0} (v : A) (us acc : List A) → reverse us ++ v ∷ acc ≡ reverse (v ∷ us) ++ acc
turned v us acc = sym (ap (λ l. l ++ acc) (reverse-append (v ∷ []) us) ∙ append_assoc (reverse us) (v ∷ []) acc)

-- one more is taken
pub one_more : (old w1 w2 : Work) (v : Operand) (vs : List Operand) → old ≡ with_all vs w1 → w1 ≡ with_top v w2 → old ≡ with_all (v ∷ vs) w2
one_more old w1 w2 v vs all one =
    all ∙ (ap (with_all vs) one ∙ ap (λ l. record w2 { stack = l }) (turned v vs w2.stack))

-- none is left
pub all_gone : (old w : Work) (vs : List Operand) → old ≡ with_all vs w → w.stack ≡ [] → length old.stack ≡ length vs
all_gone old w vs all empty =
    ap (λ (x : Work). length x.stack) all ∙ (ap (λ l. length (reverse vs ++ l)) empty ∙ (ap length (append-nil (reverse vs)) ∙ length-reverse vs))

module _ (w : Work) (h : Heap) (k : List Operand → Work → Result (Acted Work)) where
  in_front : (us acc stack : List Operand) → taken_off (length us) acc (us ++ stack) w h k ≡ k (reverse us ++ acc) (record w { stack = stack })
  in_front [] acc stack = refl
  in_front (v ∷ us) acc stack = in_front us (v ∷ acc) stack ∙ ap (λ l. k l (record w { stack = stack })) (turned v us acc)

  too_few : (n : ℕ) (acc stack : List Operand) → length stack < n → taken_off n acc stack w h k ≡ lacks h
  too_few zero acc stack few = absurd (omega (arith, few))
  too_few (suc n) acc [] few = refl
  too_few (suc n) acc (v ∷ stack) few = too_few n (v ∷ acc) stack (omega (arith, few))

module _ (h : Heap) where
  -- so many were on top
  pub all_taken : (n : ℕ) (old new : Work) (vs : List Operand) (k : List Operand → Work → Result (Acted Work))
      → length vs ≡ n → old ≡ with_all vs new → pop_all n old h k ≡ k vs new
  all_taken n old new vs k count is =
      ap (λ m. pop_all m old h k) (sym (length-reverse vs ∙ count))
      ∙ (ap (λ w. pop_all (length (reverse vs)) w h k) is
      ∙ (in_front (with_all vs new) h k (reverse vs) [] new.stack
      ∙ ap (λ l. k l new) (append-nil (reverse (reverse vs)) ∙ reverse-reverse vs)))

  -- there aren't so many
  pub too_few_arguments : (n : ℕ) (old : Work) (k : List Operand → Work → Result (Acted Work)) → length old.stack < n → pop_all n old h k ≡ lacks h
  too_few_arguments n old k few = too_few old h k n [] old.stack few

  -- so many and a receiver below them were on top
  pub call_taken : (p : Program) (n : ℕ) (old new : Work) (receiver : Operand) (vs : List Operand) (k : Operand → List Operand → Work → Result (Acted Work))
      → length vs ≡ n → old ≡ with_all vs (with_top receiver new) → with_receiver p n old h k ≡ k receiver vs new
  call_taken p n old new receiver vs k count is =
      all_taken n old (with_top receiver new) vs (λ arguments w1. pop_operand w1 h (λ r w2. k r arguments w2)) count is

  -- there aren't so many
  pub too_few_for_call : (p : Program) (n : ℕ) (old : Work) (k : Operand → List Operand → Work → Result (Acted Work))
      → length old.stack ≤ n → with_receiver p n old h k ≡ lacks h
  too_few_for_call p n old k few = without_receiver n [] old.stack old k few
    where
      without_receiver : (n : ℕ) (acc stack : List Operand) (w : Work) (k : Operand → List Operand → Work → Result (Acted Work))
          → length stack ≤ n → taken_off n acc stack w h (λ arguments w1. pop_operand w1 h (λ r w2. k r arguments w2)) ≡ lacks h
      without_receiver zero acc [] w k few = refl
      without_receiver zero acc (v ∷ stack) w k few = absurd (omega (arith, few))
      without_receiver (suc n) acc [] w k few = refl
      without_receiver (suc n) acc (v ∷ stack) w k few = without_receiver n (v ∷ acc) stack w k (omega (arith, few))

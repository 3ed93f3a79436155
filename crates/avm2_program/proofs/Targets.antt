-- The instruction at a place, found in the order of places.
use Rattle.std.proofs.Common.{◌≡◌, ℕ, suc, ◌<◌, ◌≤◌, ◌<ℤ◌, ℤ, ◌⊎◌, inl, inr, pos, List, [], ◌∷◌, length, true, false, Option, Some, None, slice_get, refl, sym, ap, ◌∙◌, arith, int_eq, subst, ltb, ltb-true, ltb-false, get_or}
use Rattle.std.specs.List.Sorted.{IsNonDecreasingBy, IsPartitionPoint}
use Rattle.std.proofs.lemmas.Bool.{cases_lt}
use Rattle.std.proofs.lemmas.Bool.Decides.{Decides-int_eq}
use Rattle.std.proofs.lemmas.Option.{get_or_from_slice_get, slice_get-get_or, slice_get_within}
use Rattle.avm2_code.specs.declared.body.PlacedInstruction.{PlacedInstruction}
use Rattle.avm2_code.specs.Body.{AreInstructions}
use Rattle.avm2_code.proofs.BodyLaws.{one_list}
use Rattle.avm2_program.specs.Decoding.{instructions, number_at}
use Rattle.avm2_program.proofs.Decoding.{are_instructions, not_at_once, numbered}

-- no place is negative
pub none_before : (xs : List PlacedInstruction) (place : ℤ) → place <ℤ pos 0 → length xs ≡ number_at place xs
none_before [] place lt = refl
none_before (x ∷ xs) place lt = ap suc (none_before xs place lt) ∙ sym (not_at_once _ _ (grind (arith, Decides-int_eq (pos x.place) place, lt)))

-- the instructions of code are read at places that rise
pub rises : (code : List ℕ) (xs : List PlacedInstruction) → AreInstructions code xs → IsNonDecreasingBy (λ d. d.place) xs
rises code xs are i j d le lt = by (cases_lt i j)
  where
    by : (i < j) ⊎ (j ≤ i) → (get_or xs i d).place ≤ (get_or xs j d).place
    by (inl less) =
        let a = one_list.ordered code xs i j (get_or xs i d) (get_or xs j d) are less (slice_get-get_or xs i d (omega arith)) (slice_get-get_or xs j d lt) in omega arith
    by (inr more) = let same : i ≡ j = omega arith in subst (λ k. (get_or xs i d).place ≤ (get_or xs k d).place) same (omega arith)

-- and there is one list of them
pub are_decoded : (code : List ℕ) (xs : List PlacedInstruction) → AreInstructions code xs → xs ≡ instructions code
are_decoded code xs are = one_list.one code xs (instructions code) are (are_instructions code)

-- the places below one, and those from it on, meet at this number
abbrev pub IsPoint : List PlacedInstruction → ℕ → ℕ → Type 0
IsPoint xs place n = IsPartitionPoint (λ y. ltb y.place place ≡ true) (λ y. ltb y.place place ≡ false) xs n

other_place : (a b : ℕ) → (a ≡ b → ⊥) → int_eq (pos a) (pos b) ≡ false
other_place a b ne = grind (arith, Decides-int_eq (pos a) (pos b), ne)

absent : (xs : List PlacedInstruction) (place : ℕ) → ((k : ℕ) (y : PlacedInstruction) → slice_get xs k ≡ Some y → y.place ≡ place → ⊥) → length xs ≡ number_at (pos place) xs
absent [] place none = refl
absent (x ∷ xs) place none =
    ap suc (absent xs place (λ k y e. none (suc k) y e)) ∙ sym (not_at_once _ _ (other_place x.place place (none 0 x refl)))

no_item : {x : PlacedInstruction} (o : Option PlacedInstruction) → o ≡ None → o ≡ Some x → ⊥
no_item o a b = cc

module _ (xs : List PlacedInstruction) (place n : ℕ) (point : IsPoint xs place n) where
  below : (k : ℕ) (y : PlacedInstruction) → slice_get xs k ≡ Some y → k < n → y.place < place
  below k y e lt = ltb-true _ _ (subst (λ z. ltb z.place place ≡ true) (get_or_from_slice_get xs k y y e) (point.0 k y (omega arith) lt))

  from_on : (k : ℕ) (y : PlacedInstruction) → slice_get xs k ≡ Some y → n ≤ k → place ≤ y.place
  from_on k y e le = ltb-false _ _ (subst (λ z. ltb z.place place ≡ false) (get_or_from_slice_get xs k y y e) (point.1 k y le (slice_get_within xs k y e)))

  -- the one there stands at the place
  pub stands : (it : PlacedInstruction) → slice_get xs n ≡ Some it → it.place ≡ place → n ≡ number_at (pos place) xs
  stands it is at =
      sym (subst (λ p. number_at (pos p) xs ≡ n) at (numbered xs n it is (λ before y lt e. subst (λ p. y.place < p) (sym at) (below before y e lt))))

  -- the one there stands behind the place
  pub stands_behind : IsNonDecreasingBy (λ d. d.place) xs → (it : PlacedInstruction) → slice_get xs n ≡ Some it → (it.place ≡ place → ⊥) → length xs ≡ number_at (pos place) xs
  stands_behind rises it is not = absent xs place (λ k y e at. not (met k y e at (cases_lt k n)))
    where
      met : (k : ℕ) (y : PlacedInstruction) → slice_get xs k ≡ Some y → y.place ≡ place → (k < n) ⊎ (n ≤ k) → it.place ≡ place
      met k y e at (inl lt) = absurd (let b = below k y e lt in omega arith)
      met k y e at (inr le) =
          let a = subst (λ z. z.place ≤ (get_or xs k y).place) (get_or_from_slice_get xs n it y is) (rises n k y le (slice_get_within xs k y e)) in
          let b = subst (λ z. it.place ≤ z.place) (get_or_from_slice_get xs k y y e) a in
          let c = from_on n it is (omega arith) in
          omega arith

  -- none stands there
  pub stands_nowhere : slice_get xs n ≡ None → length xs ≡ number_at (pos place) xs
  stands_nowhere none = absent xs place (λ k y e at. no k y e at (cases_lt k n))
    where
      no : (k : ℕ) (y : PlacedInstruction) → slice_get xs k ≡ Some y → y.place ≡ place → (k < n) ⊎ (n ≤ k) → ⊥
      no k y e at (inl lt) = let b = below k y e lt in omega arith
      no k y e at (inr le) = no_item (slice_get xs n) none (slice_get-get_or xs n y (let b = slice_get_within xs k y e in omega arith))

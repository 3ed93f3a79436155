-- The items of a list from a place on, made from the last to the first.
use Rattle.std.proofs.Common.{List, [], ◌∷◌, ◌≡◌, ◌≤◌, ◌∙◌, ap, arith, length, map, suc, sym, zero, ℕ}
use Rattle.std.specs.Prelude.{None, Some, drop, slice_get}

dropped : {A B : Type 0} (f : A → B) (items : List A) (n : ℕ) (x : A)
    → slice_get items n ≡ Some x → map f (drop n items) ≡ f x ∷ map f (drop (suc n) items)
dropped f [] n x is = absurd (cc)
dropped f (y ∷ items) zero x is = ap (λ z. f z ∷ map f items) (cc)
dropped f (y ∷ items) (suc n) x is = dropped f items n x is

-- the item in front of those that were made is made
pub next_made : {A B : Type 0} (f : A → B) (items : List A) (left n : ℕ) (x : A) (made : List B)
    → left ≡ suc n → made ≡ map f (drop left items) → Some x ≡ slice_get items n → f x ∷ made ≡ map f (drop n items)
next_made f items left n x made one is at =
    ap (λ l. f x ∷ l) (is ∙ ap (λ m. map f (drop m items)) one) ∙ sym (dropped f items n x (sym at))

-- such an item is there
pub is_there : {A : Type 0} (items : List A) (n : ℕ) → suc n ≤ length items → None ≡ slice_get items n → ⊥
is_there [] n within is = absurd (omega (arith, within))
is_there (x ∷ items) zero within is = absurd (cc)
is_there (x ∷ items) (suc n) within is = is_there items n (omega (arith, within)) is

-- Lists by their numbers of items.
use Rattle.std.proofs.Common.{List, [], arith, length, refl, suc, sym, zero, ℕ, ◌-◌, ◌<◌, ◌≡◌, ◌≤◌, ◌∙◌, ◌∷◌, ap}
use Rattle.std.specs.Prelude.{None, Some, drop, slice_get}
use Rattle.component_catalog.specs.declared.method.Parameter.{Parameter}
use Rattle.component_catalog.specs.declared.method.Parameter.TheVariants.{Listener, Optional, Required}
use Rattle.flex_world.specs.Conversions.{accepts}

dropped : {A : Type 0} (items : List A) (n : ℕ) (x : A) → slice_get items n ≡ Some x → drop n items ≡ x ∷ drop (suc n) items
dropped [] n x is = absurd (cc)
dropped (y ∷ items) zero x is = ap (λ z. z ∷ items) (cc)
dropped (y ∷ items) (suc n) x is = dropped items n x is

-- the item in front of those that were put is put
pub next_put : {A : Type 0} (items : List A) (left n : ℕ) (x : A) (made : List A)
    → left ≡ suc n → made ≡ drop left items → Some x ≡ slice_get items n → x ∷ made ≡ drop n items
next_put items left n x made one is at = ap (λ l. x ∷ l) (is ∙ ap (λ m. drop m items) one) ∙ sym (dropped items n x (sym at))

-- such an item is there
pub is_there : {A : Type 0} (items : List A) (n : ℕ) → suc n ≤ length items → None ≡ slice_get items n → ⊥
is_there [] n within is = absurd (omega (arith, within))
is_there (x ∷ items) zero within is = absurd (cc)
is_there (x ∷ items) (suc n) within is = is_there items n (omega (arith, within)) is

taken : (t : Parameter) (ts : List Parameter) (n : ℕ) → accepts (t ∷ ts) (suc n) ≡ accepts ts n
taken (Required kind) ts n = refl
taken (Optional kind start) ts n = refl
taken Listener ts n = refl

-- an argument goes to the first parameter
pub one_accepted : (t : Parameter) (ts : List Parameter) (n : ℕ) → 0 < n → accepts (t ∷ ts) n ≡ accepts ts (n - 1)
one_accepted t ts zero some = absurd (omega (arith, some))
one_accepted t ts (suc n) some = taken t ts n ∙ ap (accepts ts) (omega arith)

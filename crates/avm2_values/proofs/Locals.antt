-- Lists of which the item of a number is changed.
use Rattle.std.proofs.Common.{List, [], ◌∷◌, ◌≡◌, ap, refl, suc, zero, ℕ}
use Rattle.std.specs.Prelude.{Some, slice_get, slice_set}
use Rattle.flex_base.specs.Lists.{changed_at}

pub set_changed : {A : Type 0} (items : List A) (n : ℕ) (x y : A) → slice_get items n ≡ Some x → slice_set items n y ≡ changed_at (λ _. y) items n
set_changed [] n x y is = absurd (cc)
set_changed (z ∷ items) zero x y is = refl
set_changed (z ∷ items) (suc n) x y is = ap (λ l. z ∷ l) (set_changed items n x y is)

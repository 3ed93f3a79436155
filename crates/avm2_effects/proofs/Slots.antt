-- Lists of which the item of a number is changed.
use Rattle.std.proofs.Common.{List, [], ◌∷◌, ◌≡◌, ◌∙◌, ap, refl, suc, sym, zero, ℕ}
use Rattle.std.specs.Prelude.{None, Some, slice_get, slice_set}
use Rattle.flex_base.specs.Lists.{changed_at}

pub set_changed : {A : Type 0} (items : List A) (n : ℕ) (y : A) → slice_set items n y ≡ changed_at (λ _. y) items n
set_changed [] n y = refl
set_changed (z ∷ items) zero y = refl
set_changed (z ∷ items) (suc n) y = ap (λ l. z ∷ l) (set_changed items n y)

applied : {A : Type 0} (f : A → A) (items : List A) (n : ℕ) (x : A) → slice_get items n ≡ Some x → slice_set items n (f x) ≡ changed_at f items n
applied f [] n x is = absurd (cc)
applied f (z ∷ items) zero x is = ap (λ y. f y ∷ items) (cc)
applied f (z ∷ items) (suc n) x is = ap (λ l. z ∷ l) (applied f items n x is)

-- an item that is there is put back changed
pub set_applied : {A : Type 0} (f : A → A) (items : List A) (n : ℕ) (x y : A)
    → Some x ≡ slice_get items n → y ≡ f x → slice_set items n y ≡ changed_at f items n
set_applied f items n x y is new = ap (slice_set items n) new ∙ applied f items n x (sym is)

-- behind the last nothing changes
pub unchanged : {A : Type 0} (f : A → A) (items : List A) (n : ℕ) → slice_get items n ≡ None → items ≡ changed_at f items n
unchanged f [] n is = refl
unchanged f (z ∷ items) zero is = absurd (cc)
unchanged f (z ∷ items) (suc n) is = ap (λ l. z ∷ l) (unchanged f items n is)

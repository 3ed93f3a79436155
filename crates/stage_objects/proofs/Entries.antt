-- Lists of which the item of a number is changed.
use Rattle.std.proofs.Common.{List, [], ◌∷◌, ◌≡◌, ap, refl, suc, sym, zero, ℕ, ◌∙◌}
use Rattle.std.specs.Prelude.{None, Some, slice_get, slice_set}
use Rattle.flex_base.specs.Lists.{changed_at, changed_entry, entry}
use Rattle.stage_objects.specs.Entries.{with_entry}

set_changed : {A : Type 0} (f : A → A) (items : List A) (n : ℕ) (x : A) → slice_get items n ≡ Some x → slice_set items n (f x) ≡ changed_at f items n
set_changed f [] n x is = absurd (cc)
set_changed f (y ∷ items) zero x is = ap (λ z. f z ∷ items) (cc)
set_changed f (y ∷ items) (suc n) x is = ap (λ l. y ∷ l) (set_changed f items n x is)

nothing_changed : {A : Type 0} (f : A → A) (items : List A) (n : ℕ) → slice_get items n ≡ None → changed_at f items n ≡ items
nothing_changed f [] n is = refl
nothing_changed f (y ∷ items) zero is = absurd (cc)
nothing_changed f (y ∷ items) (suc n) is = ap (λ l. y ∷ l) (nothing_changed f items n is)

-- the item of a number is put where it stood, changed
pub entry_changed : {A : Type 0} (f : A → A) (items : List A) (n : ℕ) (x y : A) → Some x ≡ entry items n → y ≡ f x → with_entry items n y ≡ changed_entry f items n
entry_changed f items zero x y is new = refl
entry_changed f items (suc n) x y is new = ap (slice_set items n) new ∙ set_changed f items n x (sym is)

-- where no item has the number, nothing changes
pub no_entry_changed : {A : Type 0} (f : A → A) (items : List A) (n : ℕ) → entry items n ≡ None → changed_entry f items n ≡ items
no_entry_changed f items zero is = refl
no_entry_changed f items (suc n) is = nothing_changed f items n is

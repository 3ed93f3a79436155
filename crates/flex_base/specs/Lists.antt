-- Lists whose items are known by numbers.
use Rattle.std.specs.Prelude.{ℕ, zero, suc, List, [], ◌∷◌, Option, Some, None, slice_get}

-- the item of a number, which counts from 1
abbrev pub entry : {A : Type 0} → List A → ℕ → Option A
entry items zero = None
entry items (suc n) = slice_get items n

-- the items, of which the one at an index is changed
abbrev pub changed_at : {A : Type 0} → (A → A) → List A → ℕ → List A
changed_at f [] n = []
changed_at f (x ∷ items) zero = f x ∷ items
changed_at f (x ∷ items) (suc n) = x ∷ changed_at f items n

-- the items, of which the one of a number is changed
abbrev pub changed_entry : {A : Type 0} → (A → A) → List A → ℕ → List A
changed_entry f items zero = items
changed_entry f items (suc n) = changed_at f items n

-- the index behind another
abbrev pub one_later : Option ℕ → Option ℕ
one_later None = None
one_later (Some n) = Some (suc n)

-- Lists whose items are known by numbers from 1, with one of them put in another's place.
use Rattle.std.specs.Prelude.{List, slice_set, suc, zero, ℕ}

abbrev pub with_entry : {A : Type 0} → List A → ℕ → A → List A
with_entry items zero x = items
with_entry items (suc n) x = slice_set items n x

-- Tests of the items of a list in reverse.
use Rattle.std.proofs.Common.{Bool, List, [], ap, false, refl, sym, true, ◌++◌, ◌||◌, ◌∙◌, ◌∷◌, ◌≡◌}
use Rattle.std.proofs.lemmas.List.Folds.{list_any-append}
use Rattle.std.proofs.lemmas.List.{reverse-append}
use Rattle.std.specs.List.{list_any}
use Rattle.std.specs.Prelude.{reverse}

turned : (a b : Bool) → (a || (b || false)) ≡ (b || a)
turned true true = refl
turned true false = refl
turned false true = refl
turned false false = refl

-- whether an item passes is the same in reverse
pub any_reversed : {A : Type 0} (f : A → Bool) (items : List A) → list_any f (reverse items) ≡ list_any f items
any_reversed f [] = refl
any_reversed f (x ∷ items) =
    ap (list_any f) (reverse-append (x ∷ []) items)
    ∙ (list_any-append f (reverse items) (x ∷ []) ∙ (turned (list_any f (reverse items)) (f x) ∙ ap (λ b. f x || b) (any_reversed f items)))

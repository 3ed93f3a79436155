-- The items of a list that is written or gets one more.
use Rattle.std.proofs.Common.{◌≡◌, ℕ, zero, suc, ◌<◌, ◌⊎◌, inl, inr, List, [], ◌∷◌, ◌++◌, length, Some, slice_get, refl, ap, arith}
use Rattle.std.specs.Prelude.{slice_set}
use Rattle.std.proofs.Math.ListN.{replicate}

pub get_set_same : {A : Type 0} (xs : List A) (i : ℕ) (v : A) → i < length xs → slice_get (slice_set xs i v) i ≡ Some v
get_set_same [] i v lt = absurd (omega arith)
get_set_same (x ∷ xs) zero v lt = refl
get_set_same (x ∷ xs) (suc i) v lt = get_set_same xs i v (omega arith)

pub get_set_other : {A : Type 0} (xs : List A) (i j : ℕ) (v : A) → (i ≡ j → ⊥) → slice_get (slice_set xs i v) j ≡ slice_get xs j
get_set_other [] i j v ne = refl
get_set_other (x ∷ xs) zero zero v ne = absurd (ne refl)
get_set_other (x ∷ xs) zero (suc j) v ne = refl
get_set_other (x ∷ xs) (suc i) zero v ne = refl
get_set_other (x ∷ xs) (suc i) (suc j) v ne = get_set_other xs i j v (λ e. ne (ap suc e))

-- what stood at a place, or what was written there
pub get_set_cases : {A : Type 0} (xs : List A) (i j : ℕ) (v y : A) → slice_get (slice_set xs i v) j ≡ Some y → (slice_get xs j ≡ Some y) ⊎ ((i ≡ j) × (v ≡ y))
get_set_cases [] i j v y e = inl e
get_set_cases (x ∷ xs) zero zero v y e = inr (refl, cc)
get_set_cases (x ∷ xs) zero (suc j) v y e = inl e
get_set_cases (x ∷ xs) (suc i) zero v y e = inl e
get_set_cases (x ∷ xs) (suc i) (suc j) v y e = step (get_set_cases xs i j v y e)
  where
    step : (slice_get xs j ≡ Some y) ⊎ ((i ≡ j) × (v ≡ y)) → (slice_get xs j ≡ Some y) ⊎ ((suc i ≡ suc j) × (v ≡ y))
    step (inl h) = inl h
    step (inr h) = inr (ap suc h.0, h.1)

pub get_old : {A : Type 0} (xs ys : List A) (i : ℕ) (v : A) → slice_get xs i ≡ Some v → slice_get (xs ++ ys) i ≡ Some v
get_old [] ys i v e = absurd (cc)
get_old (x ∷ xs) ys zero v e = e
get_old (x ∷ xs) ys (suc i) v e = get_old xs ys i v e

pub get_push : {A : Type 0} (xs : List A) (y : A) (i : ℕ) (v : A) → slice_get (xs ++ y ∷ []) i ≡ Some v → (slice_get xs i ≡ Some v) ⊎ ((i ≡ length xs) × (y ≡ v))
get_push [] y zero v e = inr (refl, cc)
get_push [] y (suc i) v e = absurd (cc)
get_push (x ∷ xs) y zero v e = inl e
get_push (x ∷ xs) y (suc i) v e = step (get_push xs y i v e)
  where
    step : (slice_get xs i ≡ Some v) ⊎ ((i ≡ length xs) × (y ≡ v)) → (slice_get xs i ≡ Some v) ⊎ ((suc i ≡ suc (length xs)) × (y ≡ v))
    step (inl h) = inl h
    step (inr h) = inr (ap suc h.0, h.1)

pub get_new : {A : Type 0} (xs : List A) (y : A) → slice_get (xs ++ y ∷ []) (length xs) ≡ Some y
get_new [] y = refl
get_new (x ∷ xs) y = get_new xs y

pub get_replicate : {A : Type 0} (n : ℕ) (x : A) (i : ℕ) (y : A) → slice_get (replicate n x) i ≡ Some y → x ≡ y
get_replicate zero x i y e = absurd (cc)
get_replicate (suc n) x zero y e = cc
get_replicate (suc n) x (suc i) y e = get_replicate n x i y e

-- Places in lists, and lists without the first item that passes a test.
use Rattle.std.proofs.Common.{List, [], ◌∷◌, ◌≡◌, ◌∙◌, Bool, true, false, map, ℕ, refl, ap, sym, subst, zero, suc, take, ◌++◌, ◌+◌, ◌≤◌, arith, length, cond}
use Rattle.std.proofs.lemmas.Bool.Decides.{nat_tests}
use Rattle.std.specs.List.{insert, position, position_or_len, remove}
use Rattle.std.specs.Prelude.{None, Option, Some, nat_lt, not, slice_get, unwrap_or}
use Rattle.flex_base.specs.Lists.{one_later}

lifted : (n : ℕ) (b : Bool) → cond b (Some (suc n)) None ≡ one_later (cond b (Some n) None)
lifted n true = refl
lifted n false = refl

later : (n l : ℕ) → cond (nat_lt (1 + n) (suc l)) (Some (1 + n)) None ≡ one_later (cond (nat_lt n l) (Some n) None)
later n l =
    let e : 1 + n ≡ suc n = omega arith in
    let t : nat_lt (suc n) (suc l) ≡ nat_lt n l = grind (arith, nat_tests) in
    subst (λ m. cond (nat_lt m (suc l)) (Some m) None ≡ one_later (cond (nat_lt n l) (Some n) None)) (sym e)
    (subst (λ b. cond b (Some (suc n)) None ≡ one_later (cond (nat_lt n l) (Some n) None)) (sym t) (lifted n (nat_lt n l)))

-- the list without the item of a place, if there is one
abbrev pub cut : {X : Type 0} → List X → Option ℕ → List X
cut xs None = xs
cut xs (Some n) = remove xs n

pub cut_later : {X : Type 0} (x : X) (xs : List X) (r : Option ℕ) → cut (x ∷ xs) (one_later r) ≡ x ∷ cut xs r
cut_later x xs None = refl
cut_later x xs (Some n) = refl

module _ {X : Type 0} (p : X → Bool) where
  pub position_step : (x : X) (xs : List X) → position p (x ∷ xs) ≡ cond (p x) (Some 0) (one_later (position p xs))
  position_step x xs = by (p x)
    where
      by : (b : Bool)
          → cond (nat_lt (cond (not b) (1 + position_or_len p xs) 0) (suc (length xs))) (Some (cond (not b) (1 + position_or_len p xs) 0)) None
          ≡ cond b (Some 0) (one_later (position p xs))
      by true = let t : nat_lt 0 (suc (length xs)) ≡ true = grind (arith, nat_tests) in ap (λ b. cond b (Some 0) None) t
      by false = later (position_or_len p xs) (length xs)

  pub place_within : (xs : List X) → position_or_len p xs ≤ length xs
  place_within [] = omega arith
  place_within (y ∷ ys) = by (place_within ys) (p y)
    where
      by : position_or_len p ys ≤ length ys → (b : Bool) → cond (not b) (1 + position_or_len p ys) 0 ≤ suc (length ys)
      by within true = omega arith
      by within false = omega arith

  module _ (w : List X → List X) (nil : w [] ≡ []) (step : (x : X) (xs : List X) → w (x ∷ xs) ≡ cond (p x) xs (x ∷ w xs)) where
    -- the item at the first place that passes is the one that is left out
    pub cut_first : (xs : List X) → cut xs (position p xs) ≡ w xs
    cut_first [] = sym nil
    cut_first (x ∷ xs) = subst (λ r. cut (x ∷ xs) r ≡ w (x ∷ xs)) (sym (position_step x xs)) (by (cut_first xs) (p x) ∙ sym (step x xs))
      where
        by : cut xs (position p xs) ≡ w xs → (b : Bool) → cut (x ∷ xs) (cond b (Some 0) (one_later (position p xs))) ≡ cond b xs (x ∷ w xs)
        by rest true = refl
        by rest false = cut_later x xs (position p xs) ∙ ap (λ l. x ∷ l) rest

  module _ (x : X) (w : List X → List X) (nil : w [] ≡ x ∷ []) (step : (y : X) (ys : List X) → w (y ∷ ys) ≡ cond (p y) (x ∷ y ∷ ys) (y ∷ w ys)) where
    -- an item is put before the first that passes
    pub insert_first : (xs : List X) → insert xs (position_or_len p xs) x ≡ w xs
    insert_first [] = sym nil
    insert_first (y ∷ ys) = by (insert_first ys) (p y) ∙ sym (step y ys)
      where
        by : insert ys (position_or_len p ys) x ≡ w ys → (b : Bool) → insert (y ∷ ys) (cond (not b) (1 + position_or_len p ys) 0) x ≡ cond b (x ∷ y ∷ ys) (y ∷ w ys)
        by rest true = refl
        by rest false =
            let e : 1 + position_or_len p ys ≡ suc (position_or_len p ys) = omega arith in
            subst (λ n. insert (y ∷ ys) n x ≡ y ∷ w ys) (sym e) (ap (λ l. y ∷ l) rest)

module _ {E X Y : Type 0} (f : E → X) (g : E → Y) (p : X → Bool) (q : Y → Bool) (alike : (e : E) → p (f e) ≡ q (g e)) where
  pub same_place : (es : List E) → position p (map f es) ≡ position q (map g es)
  same_place [] = refl
  same_place (e ∷ es) =
      position_step p (f e) (map f es)
      ∙ ap (λ b. cond b (Some 0) (one_later (position p (map f es)))) (alike e)
      ∙ ap (λ r. cond (q (g e)) (Some 0) (one_later r)) (same_place es)
      ∙ sym (position_step q (g e) (map g es))

abbrev pub one_of : {X : Type 0} → Option X → List X
one_of None = []
one_of (Some x) = x ∷ []

-- one item more of a list, where there is one
pub take_step : {X : Type 0} (xs : List X) (n : ℕ) → take (suc n) xs ≡ take n xs ++ one_of (slice_get xs n)
take_step [] zero = refl
take_step [] (suc n) = refl
take_step (x ∷ xs) zero = refl
take_step (x ∷ xs) (suc n) = ap (λ l. x ∷ l) (take_step xs n)

pub found_or_last : (n l : ℕ) → n ≤ l → unwrap_or (cond (nat_lt n l) (Some n) None) l ≡ n
found_or_last n l h = grind (arith, nat_tests)

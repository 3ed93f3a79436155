-- The place of a pair among pairs in order.
use Rattle.std.proofs.Common.{List, [], ◌∷◌, ◌≡◌, Bool, true, false, ℕ, refl, ap, sym, subst, suc, ◌+◌, ◌≤◌, arith, length, cond}
use Rattle.std.proofs.lemmas.Bool.Decides.{nat_tests}
use Rattle.std.specs.List.{insert, position_or_len, slice_get}
use Rattle.std.specs.Prelude.{None, Some, if◌then◌else◌, nat_lt, not, unwrap_or}
use Rattle.flex_base.specs.declared.value.ObjId.{ObjId}
use Rattle.watch_table.specs.Affected.{is_before, is_not_behind, with_pair}

-- the place of the first pair that isn't before this one
abbrev pub place_of : ObjId × ℕ → List (ObjId × ℕ) → ℕ
place_of p qs = position_or_len (λ q. not (is_before q p)) qs

abbrev pub put : ObjId × ℕ → ℕ → List (ObjId × ℕ) → List (ObjId × ℕ)
put p n qs = if is_not_behind p (slice_get qs n) then qs else insert qs n p

put_later : (p q : ObjId × ℕ) (n : ℕ) (qs : List (ObjId × ℕ)) → put p (suc n) (q ∷ qs) ≡ q ∷ put p n qs
put_later p q n qs = by (is_not_behind p (slice_get qs n))
  where
    by : (b : Bool) → (if b then q ∷ qs else q ∷ insert qs n p) ≡ q ∷ (if b then qs else insert qs n p)
    by true = refl
    by false = refl

pub put_is_with : (p : ObjId × ℕ) (qs : List (ObjId × ℕ)) → put p (place_of p qs) qs ≡ with_pair qs p
put_is_with p [] = refl
put_is_with p (q ∷ qs) = by (put_is_with p qs) (is_before q p)
  where
    here : (b : Bool) → (if not b then q ∷ qs else p ∷ q ∷ qs) ≡ (if b then p ∷ q ∷ qs else q ∷ qs)
    here true = refl
    here false = refl

    by : put p (place_of p qs) qs ≡ with_pair qs p → (b : Bool) → put p (cond (not (not b)) (1 + place_of p qs) 0) (q ∷ qs) ≡ (if b then q ∷ with_pair qs p else if is_before p q then p ∷ q ∷ qs else q ∷ qs)
    by later true =
        let e : 1 + place_of p qs ≡ suc (place_of p qs) = omega arith in
        subst (λ n. put p n (q ∷ qs) ≡ q ∷ with_pair qs p) (sym e) (subst (λ l. l ≡ q ∷ with_pair qs p) (sym (put_later p q (place_of p qs) qs)) (ap (λ l. q ∷ l) later))
    by later false = here (is_before p q)

pub place_within : (p : ObjId × ℕ) (qs : List (ObjId × ℕ)) → place_of p qs ≤ length qs
place_within p [] = omega arith
place_within p (q ∷ qs) = by (place_within p qs) (is_before q p)
  where
    by : place_of p qs ≤ length qs → (b : Bool) → cond (not (not b)) (1 + place_of p qs) 0 ≤ suc (length qs)
    by later true = omega arith
    by later false = omega arith

pub found_or_last : (n l : ℕ) → n ≤ l → unwrap_or (cond (nat_lt n l) (Some n) None) l ≡ n
found_or_last n l h = grind (arith, nat_tests)

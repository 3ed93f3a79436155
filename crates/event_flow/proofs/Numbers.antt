-- Texts that stand once each, by their places.
use Rattle.std.proofs.Common.{List, [], ◌∷◌, ◌++◌, ◌+◌, ◌<◌, ◌≡◌, ◌∙◌, Bool, true, false, ◌&&◌, map, ℕ, refl, ap, sym, subst, suc, zero, arith, length, cond}
use Rattle.std.proofs.lemmas.Bool.Decides.{nat_tests}
use Rattle.std.proofs.lemmas.List.{length-map, map-append}
use Rattle.std.proofs.lemmas.Map.Keys.{IsDistinct-head, IsDistinct-tail, any_passes_from_place}
use Rattle.std.proofs.lemmas.Option.{slice_get-map, slice_get_within}
use Rattle.std.proofs.lemmas.Slice.Eq.{bytes_eq-Decides}
use Rattle.std.specs.List.{AllByRecursion, IsDistinct, list_any, position, position_or_len}
use Rattle.std.specs.Prelude.{None, Some, if◌then◌else◌, nat_lt, not, option_map, slice_get, ◌||◌}
use Rattle.std.specs.Str.{bytes_eq}
use Rattle.event_flow.specs.Registered.{with_kind}

pub same_text : (a b : List ℕ) → bytes_eq a b ≡ true → a ≡ b
same_text a b = (bytes_eq-Decides a b).0

pub text_same : (a b : List ℕ) → a ≡ b → bytes_eq a b ≡ true
text_same a b = (bytes_eq-Decides a b).1

-- both of two tests pass
pub both : (a b : Bool) → (a && b) ≡ true → (a ≡ true) × (b ≡ true)
both true b e = (refl, e)
both false b e = absurd (cc)

pub the_same : {n m : ℕ} → Some n ≡ Some m → n ≡ m
the_same e = cc

within : (n l m : ℕ) → cond (nat_lt n l) (Some n) None ≡ Some m → (n < l) × (n ≡ m)
within n l m e = by (nat_lt n l) refl e
  where
    by : (b : Bool) → nat_lt n l ≡ b → cond b (Some n) None ≡ Some m → (n < l) × (n ≡ m)
    by true is e = (grind (arith, nat_tests), cc)
    by false is e = absurd (cc)

module _ {X : Type 0} (v : X → List ℕ) (kind : List ℕ) where
  abbrev pub stands : X → Bool
  stands x = bytes_eq kind (v x)

  found : (xs : List X) (n : ℕ) → position_or_len stands xs ≡ n → n < length xs → slice_get (map v xs) n ≡ Some kind
  found [] n is h = absurd (omega arith)
  found (x ∷ xs) n is h = by (found xs) (stands x) refl is
    where
      by : ((m : ℕ) → position_or_len stands xs ≡ m → m < length xs → slice_get (map v xs) m ≡ Some kind)
          → (b : Bool) → stands x ≡ b → cond (not b) (1 + position_or_len stands xs) 0 ≡ n → slice_get (map v (x ∷ xs)) n ≡ Some kind
      by rest true t is = subst (λ m. slice_get (map v (x ∷ xs)) m ≡ Some kind) is (ap (λ k. Some k) (sym (same_text kind (v x) t)))
      by rest false t is =
          let e : suc (position_or_len stands xs) ≡ n = omega (arith, is) in
          subst (λ m. slice_get (map v (x ∷ xs)) m ≡ Some kind) e (rest (position_or_len stands xs) refl (omega (arith, h, e)))

  apart : (x : X) (xs : List X) (n : ℕ) → AllByRecursion (λ y. bytes_eq (v x) (v y) ≡ false) xs → slice_get (map v xs) n ≡ Some kind → bytes_eq (v x) kind ≡ false
  apart x [] n all is = absurd (cc)
  apart x (y ∷ ys) zero all is = let e : v y ≡ kind = cc in subst (λ k. bytes_eq (v x) k ≡ false) e all.0
  apart x (y ∷ ys) (suc n) all is = apart x ys n all.1 is

  only : (xs : List X) (n : ℕ) → IsDistinct (λ x y. bytes_eq (v x) (v y)) xs → slice_get (map v xs) n ≡ Some kind → position_or_len stands xs ≡ n
  only [] n d is = absurd (cc)
  only (x ∷ xs) zero d is =
      let e : kind ≡ v x = cc in
      ap (λ b. cond (not b) (1 + position_or_len stands xs) 0) (text_same kind (v x) e)
  only (x ∷ xs) (suc n) d is =
      let e : 1 + position_or_len stands xs ≡ suc n = omega (arith, only xs n (IsDistinct-tail _ x xs d) is) in
      by (stands x) refl e
    where
      by : (b : Bool) → stands x ≡ b → 1 + position_or_len stands xs ≡ suc n → cond (not b) (1 + position_or_len stands xs) 0 ≡ suc n
      by false t e = e
      by true t e =
          let f : bytes_eq (v x) kind ≡ false = apart x xs n (IsDistinct-head _ x xs d) is in
          let g : bytes_eq (v x) kind ≡ true = text_same (v x) kind (sym (same_text kind (v x) t)) in
          absurd (cc)

  pub number_found : (xs : List X) (n : ℕ) → position stands xs ≡ Some n → slice_get (map v xs) n ≡ Some kind
  number_found xs n is = let h = within (position_or_len stands xs) (length xs) n is in found xs n h.1 (subst (λ m. m < length xs) h.1 h.0)

  pub place_found : (xs : List X) (n : ℕ) → IsDistinct (λ x y. bytes_eq (v x) (v y)) xs → slice_get (map v xs) n ≡ Some kind → position stands xs ≡ Some n
  place_found xs n d is =
      let e : position_or_len stands xs ≡ n = only xs n d is in
      let h : n < length xs = subst (λ l. n < l) (length-map xs v) (slice_get_within (map v xs) n kind is) in
      let t : nat_lt n (length xs) ≡ true = grind (arith, nat_tests) in
      subst (λ m. cond (nat_lt m (length xs)) (Some m) None ≡ Some n) (sym e) (ap (λ b. cond b (Some n) None) t)

-- a text that has a place stands there
pub any_text : (kind : List ℕ) (kinds : List (List ℕ)) (n : ℕ) → slice_get kinds n ≡ Some kind → list_any (bytes_eq kind) kinds ≡ true
any_text kind kinds n is = any_passes_from_place (bytes_eq kind) kinds n kind is (text_same kind kind refl)

pub text_at : {X : Type 0} (v : X → List ℕ) (kind : List ℕ) (xs : List X) (n : ℕ) (x : X) → slice_get xs n ≡ Some x → bytes_eq kind (v x) ≡ true → slice_get (map v xs) n ≡ Some kind
text_at v kind xs n x is same = slice_get-map v xs n ∙ ap (option_map v) is ∙ ap (λ k. Some k) (sym (same_text kind (v x) same))

any_of : {X : Type 0} (v : X → List ℕ) (kind : List ℕ) (xs : List X) → list_any (λ y. bytes_eq kind (v y)) xs ≡ list_any (bytes_eq kind) (map v xs)
any_of v kind [] = refl
any_of v kind (x ∷ xs) = ap (λ b. bytes_eq kind (v x) || b) (any_of v kind xs)

pub kind_inserted : {X : Type 0} (v : X → List ℕ) (x : X) (xs : List X)
    → map v (if list_any (λ y. bytes_eq (v x) (v y)) xs then xs else xs ++ x ∷ []) ≡ with_kind (v x) (map v xs)
kind_inserted v x xs = by (list_any (λ y. bytes_eq (v x) (v y)) xs) ∙ ap (λ b. if b then map v xs else map v xs ++ v x ∷ []) (any_of v (v x) xs)
  where
    by : (b : Bool) → map v (if b then xs else xs ++ x ∷ []) ≡ (if b then map v xs else map v xs ++ v x ∷ [])
    by true = refl
    by false = map-append v xs (x ∷ [])

-- A listener that comes last is put before the first one of a lower priority.
use Rattle.std.proofs.Common.{List, [], ◌∷◌, ◌≡◌, ◌∙◌, Bool, true, false, ◌&&◌, map, ℕ, ℤ, refl, ap, suc, arith, length, cond, int_lt}
use Rattle.std.proofs.lemmas.Bool.Decides.{nat_tests}
use Rattle.std.specs.BTreeMap.{insert_entry}
use Rattle.std.specs.List.{list_all}
use Rattle.std.specs.Ordering.{int_cmp, match_ordering, nat_cmp, ordering_then}
use Rattle.std.specs.Prelude.{Err, Ok, OnErr, OnOk, Result, nat_lt, ◌==◌}
use Rattle.std.specs.declared.cmp.Ordering.{Ordering}
use Rattle.std.specs.declared.cmp.Ordering.TheVariants.{Equal, Greater, Less}
use Rattle.std.specs.declared.cmp.Reverse.{Reverse}
use Rattle.flex_base.specs.declared.value.ObjId.{ObjId}
use Rattle.event_flow.proofs.Numbers.{both}
use Rattle.event_flow.specs.Hearers.{Hearer, listeners, with_hearer}

abbrev pub Rank : Type 0
Rank = Reverse ℤ × ℕ

abbrev pub Ranked : Type 0
Ranked = Rank × (ObjId × ℕ)

abbrev pub by_rank : Rank → Rank → Ordering
by_rank x y = ordering_then (int_cmp y.0.0 x.0.0) (nat_cmp x.1 y.1)

abbrev pub hearer : Ranked → Hearer
hearer e = (e.0.0.0, e.1)

abbrev pub are_below : ℕ → List Ranked → Bool
are_below n es = list_all (λ (e : Ranked). nat_lt e.0.1 n) es

-- one of a higher number stands before those of a lower priority alone
later : (r : Reverse ℤ) (n : ℕ) (other : Rank) → nat_lt other.1 n ≡ true → by_rank (r, n) other ≡ cond (int_lt other.0.0 r.0) Less Greater
later r n other t = by (int_lt other.0.0 r.0) (int_lt r.0 other.0.0)
  where
    greater : nat_cmp n other.1 ≡ Greater
    greater =
        let no : nat_lt n other.1 ≡ false = grind (arith, nat_tests) in
        let differ : (n == other.1) ≡ false = grind (arith, nat_tests) in
        ap (λ b. cond b Less (cond (n == other.1) Equal Greater)) no ∙ ap (λ b. cond b Equal Greater) differ

    by : (a b : Bool) → ordering_then (cond a Less (cond b Greater Equal)) (nat_cmp n other.1) ≡ cond a Less Greater
    by true b = refl
    by false true = refl
    by false false = greater

module _ (r : Reverse ℤ) (n : ℕ) (l : ObjId × ℕ) where
  abbrev pub with_last : List Ranked → List Ranked
  with_last es = insert_entry by_rank es (r, n) l

  step : (e : Ranked) (es : List Ranked) → nat_lt e.0.1 n ≡ true → with_last (e ∷ es) ≡ cond (int_lt e.0.0.0 r.0) (((r, n), l) ∷ e ∷ es) (e ∷ with_last es)
  step e es t = ap (λ o. match_ordering o (((r, n), l) ∷ e ∷ es) ((e.0, l) ∷ es) (e ∷ with_last es)) (later r n e.0 t) ∙ by (int_lt e.0.0.0 r.0)
    where
      by : (b : Bool) → match_ordering (cond b Less Greater) (((r, n), l) ∷ e ∷ es) ((e.0, l) ∷ es) (e ∷ with_last es) ≡ cond b (((r, n), l) ∷ e ∷ es) (e ∷ with_last es)
      by true = refl
      by false = refl

  pub inserted : (es : List Ranked) → are_below n es ≡ true → map hearer (with_last es) ≡ with_hearer r.0 l (map hearer es)
  inserted [] below = refl
  inserted (e ∷ es) below =
      let now = both (nat_lt e.0.1 n) (are_below n es) below in
      ap (map hearer) (step e es now.0) ∙ by (inserted es now.1) (int_lt e.0.0.0 r.0)
    where
      by : map hearer (with_last es) ≡ with_hearer r.0 l (map hearer es)
          → (b : Bool) → map hearer (cond b (((r, n), l) ∷ e ∷ es) (e ∷ with_last es)) ≡ cond b ((r.0, l) ∷ hearer e ∷ map hearer es) (hearer e ∷ with_hearer r.0 l (map hearer es))
      by rest true = refl
      by rest false = ap (λ hs. hearer e ∷ hs) rest

  one_more : (es : List Ranked) → are_below n es ≡ true → length (with_last es) ≡ suc (length es)
  one_more [] below = refl
  one_more (e ∷ es) below =
      let now = both (nat_lt e.0.1 n) (are_below n es) below in
      ap length (step e es now.0) ∙ by (one_more es now.1) (int_lt e.0.0.0 r.0)
    where
      by : length (with_last es) ≡ suc (length es) → (b : Bool) → length (cond b (((r, n), l) ∷ e ∷ es) (e ∷ with_last es)) ≡ suc (suc (length es))
      by rest true = refl
      by rest false = ap suc rest

  below_next : (es : List Ranked) → are_below n es ≡ true → are_below (suc n) es ≡ true
  below_next [] below = refl
  below_next (e ∷ es) below =
      let now = both (nat_lt e.0.1 n) (are_below n es) below in
      let t : nat_lt e.0.1 (suc n) ≡ true = let h = now.0 in grind (arith, nat_tests) in
      ap (λ b. b && are_below (suc n) es) t ∙ below_next es now.1

  still_below : (es : List Ranked) → are_below n es ≡ true → are_below (suc n) (with_last es) ≡ true
  still_below [] below = let t : nat_lt n (suc n) ≡ true = grind (arith, nat_tests) in ap (λ b. b && true) t
  still_below (e ∷ es) below =
      let now = both (nat_lt e.0.1 n) (are_below n es) below in
      let t : nat_lt e.0.1 (suc n) ≡ true = let h = now.0 in grind (arith, nat_tests) in
      let last : nat_lt n (suc n) ≡ true = grind (arith, nat_tests) in
      ap (are_below (suc n)) (step e es now.0) ∙ by t last (below_next es now.1) (still_below es now.1) (int_lt e.0.0.0 r.0)
    where
      by : nat_lt e.0.1 (suc n) ≡ true → nat_lt n (suc n) ≡ true → are_below (suc n) es ≡ true → are_below (suc n) (with_last es) ≡ true
          → (b : Bool) → are_below (suc n) (cond b (((r, n), l) ∷ e ∷ es) (e ∷ with_last es)) ≡ true
      by t last others rest true = ap (λ b. b && (nat_lt e.0.1 (suc n) && are_below (suc n) es)) last ∙ ap (λ b. b && are_below (suc n) es) t ∙ others
      by t last others rest false = ap (λ b. b && are_below (suc n) (with_last es)) t ∙ rest

pub counted : (r : Reverse ℤ) (l : ObjId × ℕ) (es : List Ranked) → are_below (length es) es ≡ true
    → are_below (length (with_last r (length es) l es)) (with_last r (length es) l es) ≡ true
counted r l es below = ap (λ m. are_below m (with_last r (length es) l es)) (one_more r (length es) l es below) ∙ still_below r (length es) l es below

-- the same after a try, which may leave them as they were
pub still_counted : {A E : Type 0} (r : Reverse ℤ) (l : ObjId × ℕ) (es after : List Ranked) (answer : Result A E) → are_below (length es) es ≡ true
    → OnOk answer (after ≡ with_last r (length es) l es) → OnErr answer (after ≡ es) → are_below (length after) after ≡ true
still_counted r l es after (Ok a) below put kept = ap (λ xs. are_below (length xs) xs) put ∙ counted r l es below
still_counted r l es after (Err e) below put kept = ap (λ xs. are_below (length xs) xs) kept ∙ below

pub without_ranks : (es : List Ranked) → map (λ (e : Ranked). e.1) es ≡ listeners (map hearer es)
without_ranks [] = refl
without_ranks (e ∷ es) = ap (λ ls. e.1 ∷ ls) (without_ranks es)

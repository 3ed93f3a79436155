-- The first class that owns a method.
use Rattle.std.proofs.Common.{◌≡◌, ℕ, zero, suc, ◌+◌, arith, Bool, true, false, List, [], ◌∷◌, Some, None, drop, slice_get, refl, sym, ap, ◌∙◌}
use Rattle.std.specs.Prelude.{if◌then◌else◌}
use Rattle.abc_format.specs.declared.records.ClassInfo.{ClassInfo}
use Rattle.abc_format.specs.declared.records.InstanceInfo.{InstanceInfo}
use Rattle.avm2_program.specs.Resolving.{owner_from, owns}

some_same : {A : Type 0} (x y : A) → Some x ≡ Some y → x ≡ y
some_same x y e = cc

pub drop_some : {A : Type 0} (xs : List A) (n : ℕ) (x : A) → slice_get xs n ≡ Some x → drop n xs ≡ x ∷ drop (suc n) xs
drop_some [] n x e = absurd cc
drop_some (y ∷ ys) zero x e = ap (λ z. z ∷ ys) (some_same y x e)
drop_some (y ∷ ys) (suc n) x e = drop_some ys n x e

pub drop_none : {A : Type 0} (xs : List A) (n : ℕ) → slice_get xs n ≡ None → drop n xs ≡ []
drop_none [] zero e = refl
drop_none [] (suc n) e = refl
drop_none (y ∷ ys) zero e = absurd cc
drop_none (y ∷ ys) (suc n) e = drop_none ys n e

module _ (m : ℕ) where
  no_more : (k : ℕ) (instances : List InstanceInfo) → owner_from m k instances [] ≡ None
  no_more k [] = refl
  no_more k (i ∷ instances) = refl

  -- no class stands at the number
  pub none_left : (k : ℕ) (instances : List InstanceInfo) (classes : List ClassInfo) → slice_get classes k ≡ None → None ≡ owner_from m k instances (drop k classes)
  none_left k instances classes e = sym (ap (owner_from m k instances) (drop_none classes k e) ∙ no_more k instances)

  by : (k : ℕ) (i : InstanceInfo) (instances : List InstanceInfo) (c : ClassInfo) (classes : List ClassInfo) (b : Bool) → owns m i c ≡ b
      → owner_from m k (i ∷ instances) (c ∷ classes) ≡ (if b then Some k else owner_from m (suc k) instances classes)
  by k i instances c classes b e = ap (λ t. if t then Some k else owner_from m (suc k) instances classes) e

  -- the class at the number owns the method
  found : (k : ℕ) (i : InstanceInfo) (instances : List InstanceInfo) (c : ClassInfo) (classes : List ClassInfo) → slice_get classes k ≡ Some c → owns m i c ≡ true
      → Some k ≡ owner_from m k (i ∷ instances) (drop k classes)
  found k i instances c classes at e = sym (ap (owner_from m k (i ∷ instances)) (drop_some classes k c at) ∙ by k i instances c (drop (suc k) classes) true e)

  -- it doesn't
  passed : (k : ℕ) (i : InstanceInfo) (instances : List InstanceInfo) (c : ClassInfo) (classes : List ClassInfo) → slice_get classes k ≡ Some c → owns m i c ≡ false
      → owner_from m (suc k) instances (drop (suc k) classes) ≡ owner_from m k (i ∷ instances) (drop k classes)
  passed k i instances c classes at e = sym (ap (owner_from m k (i ∷ instances)) (drop_some classes k c at) ∙ by k i instances c (drop (suc k) classes) false e)

  module _ (instances : List InstanceInfo) (place : ℕ) (i : InstanceInfo) (at : slice_get instances place ≡ Some i) (k : ℕ) (c : ClassInfo) (classes : List ClassInfo)
      (here : slice_get classes k ≡ Some c) where
    pub found_on : owns m i c ≡ true → Some k ≡ owner_from m k (drop place instances) (drop k classes)
    found_on e = found k i (drop (suc place) instances) c classes here e ∙ ap (λ is. owner_from m k is (drop k classes)) (sym (drop_some instances place i at))

    pub passed_on : (next : ℕ) → next ≡ k + 1 → owns m i c ≡ false
        → owner_from m next (drop (place + 1) instances) (drop next classes) ≡ owner_from m k (drop place instances) (drop k classes)
    passed_on next is e =
        let a : place + 1 ≡ suc place = omega arith in
        let b : next ≡ suc k = omega arith in
        ap (λ n. owner_from m next (drop n instances) (drop next classes)) a
        ∙ (ap (λ n. owner_from m n (drop (suc place) instances) (drop n classes)) b
        ∙ (passed k i (drop (suc place) instances) c classes here e ∙ ap (λ is. owner_from m k is (drop k classes)) (sym (drop_some instances place i at))))

-- What follows where a look-up finds something, or a test passes.
use Rattle.std.proofs.Common.{List, [], ap, not, refl, subst, suc, sym, true≢false, zero, ℕ, ◌&&◌, ◌++◌, ◌∙◌, ◌∷◌, ◌≡◌}
use Rattle.std.specs.List.{filter, find, list_all}
use Rattle.std.specs.Prelude.{Bool, None, Option, Some, false, if◌then◌else◌, is_some, option_and_then, option_map, slice_get, true, unwrap_or}
use Rattle.flex_world.specs.declared.kind.Class.{Class}
use Rattle.flex_world.specs.declared.kind.StaticType.{StaticType}
use Rattle.flex_program.specs.Fine.{class_of_type, for_class, when}

pub same_some : {A : Type 0} (a b : A) → Some a ≡ Some b → a ≡ b
same_some a b e = ap (λ o. unwrap_or o a) e

pub not_both_ways : (b : Bool) → b ≡ true → b ≡ false → ⊥
not_both_ways b e h = true≢false (sym e ∙ h)

pub some_is : {A : Type 0} (x : Option A) → is_some x ≡ true → (y : A) × (x ≡ Some y)
some_is None e = absurd (true≢false (sym e))
some_is (Some y) e = (y, refl)

pub is_some_of : {A : Type 0} (x : Option A) (y : A) → x ≡ Some y → is_some x ≡ true
is_some_of x y e = ap is_some e

pub map_is : {A B : Type 0} (f : A → B) (x : Option A) (z : B) → option_map f x ≡ Some z → (y : A) × (x ≡ Some y) × (f y ≡ z)
map_is f None z e = absurd (cc)
map_is f (Some y) z e = (y, refl, same_some (f y) z e)

pub then_is : {A B : Type 0} (f : A → Option B) (x : Option A) (z : B) → option_and_then f x ≡ Some z → (y : A) × (x ≡ Some y) × (f y ≡ Some z)
then_is f None z e = absurd (cc)
then_is f (Some y) z e = (y, refl, e)

pub when_is : (b : Bool) (t u : StaticType) → when b t ≡ Some u → (b ≡ true) × (t ≡ u)
when_is true t u e = (refl, same_some t u e)
when_is false t u e = absurd (cc)

class_of_type_is : (t : StaticType) (c : Class) → class_of_type t ≡ Some c → t ≡ StaticType.Object c
class_of_type_is (StaticType.Object d) c e = ap StaticType.Object (same_some d c e)
class_of_type_is _ c e = absurd (cc)

-- a value of a class, for which something is found
pub for_class_is : {A : Type 0} (x : Option StaticType) (f : Class → Option A) (z : A) → for_class x f ≡ Some z → (c : Class) × (x ≡ Some (StaticType.Object c)) × (f c ≡ Some z)
for_class_is None f z e = absurd (cc)
for_class_is (Some t) f z e =
    let c : (c : Class) × (class_of_type t ≡ Some c) × (f c ≡ Some z) = then_is f (class_of_type t) z e in
    (c.0, ap Some (class_of_type_is t c.0 c.1), c.2)

pub if_is : {A : Type 0} (b : Bool) (x : Option A) (z : A) → (if b then x else None) ≡ Some z → (b ≡ true) × (x ≡ Some z)
if_is true x z e = (refl, e)
if_is false x z e = absurd (cc)

pub not_is : (b : Bool) → not b ≡ true → b ≡ false
not_is true e = absurd (true≢false (sym e))
not_is false e = refl

-- each item of a list
abbrev pub All : {A : Type 0} → (A → Type 0) → List A → Type 0
All P [] = Unit {0}
All P (x ∷ xs) = P x × All P xs

pub all_map : {A : Type 0} (P Q : A → Type 0) (xs : List A) → ((x : A) → P x → Q x) → All P xs → All Q xs
all_map P Q [] f h = tt
all_map P Q (x ∷ xs) f h = (f x h.0, all_map P Q xs f h.1)

pub all_get : {A : Type 0} (P : A → Type 0) (xs : List A) (n : ℕ) (x : A) → slice_get xs n ≡ Some x → All P xs → P x
all_get P [] n x e h = absurd (cc)
all_get P (y ∷ xs) zero x e h = subst P (same_some y x e) h.0
all_get P (y ∷ xs) (suc n) x e h = all_get P xs n x e h.1

pub all_append : {A : Type 0} (P : A → Type 0) (xs ys : List A) → All P xs → All P ys → All P (xs ++ ys)
all_append P [] ys h k = k
all_append P (x ∷ xs) ys h k = (h.0, all_append P xs ys h.1 k)

pub all_passing : {A : Type 0} (test : A → Bool) (xs : List A) → list_all test xs ≡ true → All (λ x. test x ≡ true) xs
all_passing test [] e = tt
all_passing test (x ∷ xs) e = by (test x) refl e (all_passing test xs)
  where
    by : (b : Bool) → test x ≡ b → (b && list_all test xs) ≡ true → (list_all test xs ≡ true → All (λ y. test y ≡ true) xs) → (test x ≡ true) × All (λ y. test y ≡ true) xs
    by true h e1 rest = (h, rest e1)
    by false h e1 rest = absurd (true≢false (sym e1))

pub all_found : {A : Type 0} (P : A → Type 0) (test : A → Bool) (xs : List A) (x : A) → find test xs ≡ Some x → All P xs → P x × (test x ≡ true)
all_found P test [] x e h = absurd (cc)
all_found P test (y ∷ xs) x e h = by (test y) refl e (λ f. all_found P test xs x f h.1)
  where
    by : (b : Bool) → test y ≡ b → (if b then Some y else find test xs) ≡ Some x → (find test xs ≡ Some x → P x × (test x ≡ true)) → P x × (test x ≡ true)
    by true t f rest = (subst P (same_some y x f) h.0, subst (λ z. test z ≡ true) (same_some y x f) t)
    by false t f rest = rest f

pub all_filtered : {A : Type 0} (P : A → Type 0) (test : A → Bool) (xs : List A) → All P xs → All P (filter test xs)
all_filtered P test [] h = tt
all_filtered P test (x ∷ xs) h = by (test x) (all_filtered P test xs h.1)
  where
    by : (b : Bool) → All P (filter test xs) → All P (if b then x ∷ filter test xs else filter test xs)
    by true rest = (h.0, rest)
    by false rest = rest

-- Pairs in order: two lists of the same pairs in order are one.
use Rattle.std.proofs.Common.{◌≡◌, ◌⊎◌, inl, inr, refl, sym, ap, ◌∙◌, subst, arith}
use Rattle.std.proofs.lemmas.Bool.{ltb-false, ltb-true}
use Rattle.std.proofs.lemmas.List.Concat.{flat_map-cons}
use Rattle.std.specs.List.{filter, flat_map, fold, list_any}
use Rattle.std.specs.Prelude.{Bool, List, Some, [], false, if◌then◌else◌, map, nat_lt, slice_get, suc, true, ℕ, ◌&&◌, ◌++◌, ◌<◌, ◌≤◌, ◌==◌, ◌||◌, ◌∷◌}
use Rattle.flex_base.specs.Value.{is_object}
use Rattle.flex_base.specs.declared.value.ObjId.{ObjId}
use Rattle.watch_table.specs.Affected.{is_before, with_pair}

abbrev pub Pair : Type 0
Pair = ObjId × ℕ

-- by the numbers of documents, and then by those of bindings
abbrev pub Before : Pair → Pair → Type 0
Before p q = (p.0.0 < q.0.0) ⊎ ((p.0.0 ≡ q.0.0) × (p.1 < q.1))

pub same_number : (a b : ℕ) → (a == b) ≡ true → a ≡ b
same_number a b e = grind arith

pub is_same : (a : ℕ) → (a == a) ≡ true
is_same a = grind arith

before_is : (p q : Pair) → is_before p q ≡ true → Before p q
before_is p q e = by (nat_lt p.0.0 q.0.0) refl (is_object p.0 q.0) refl e
  where
    by : (a : Bool) → nat_lt p.0.0 q.0.0 ≡ a → (b : Bool) → is_object p.0 q.0 ≡ b → (a || (b && nat_lt p.1 q.1)) ≡ true → Before p q
    by true is_a b is_b e1 = inl (ltb-true p.0.0 q.0.0 is_a)
    by false is_a true is_b e1 = inr (same_number p.0.0 q.0.0 is_b, ltb-true p.1 q.1 e1)
    by false is_a false is_b e1 = absurd cc

transitive : (p q r : Pair) → Before p q → Before q r → Before p r
transitive p q r (inl a) (inl b) = inl (omega (arith, a, b))
transitive p q r (inl a) (inr b) = let e = b.0 in inl (omega (arith, a, e))
transitive p q r (inr a) (inl b) = let e = a.0 in inl (omega (arith, e, b))
transitive p q r (inr a) (inr b) = let e = a.0 in let f = b.0 in let l = a.1 in let m = b.1 in inr (omega (arith, e, f), omega (arith, l, m))

not_itself : (p : Pair) → Before p p → ⊥
not_itself p (inl a) = omega (arith, a)
not_itself p (inr a) = let l = a.1 in omega (arith, l)

same_pair : (p q : Pair) → p.0.0 ≡ q.0.0 → p.1 ≡ q.1 → p ≡ q
same_pair p q e f = λ i. (record { 0 = e i }, f i)

-- where neither is before the other they are one
neither : (p q : Pair) → is_before p q ≡ false → is_before q p ≡ false → p ≡ q
neither p q a b = same_pair p q documents numbers
  where
    or_first : (x y : Bool) → (x || y) ≡ false → x ≡ false
    or_first true y e = e
    or_first false y e = refl

    or_second : (x y : Bool) → (x || y) ≡ false → y ≡ false
    or_second true y e = absurd cc
    or_second false y e = e

    documents : p.0.0 ≡ q.0.0
    documents = let l = ltb-false p.0.0 q.0.0 (or_first (nat_lt p.0.0 q.0.0) (is_object p.0 q.0 && nat_lt p.1 q.1) a) in let m = ltb-false q.0.0 p.0.0 (or_first (nat_lt q.0.0 p.0.0) (is_object q.0 p.0 && nat_lt q.1 p.1) b) in omega (arith, l, m)

    within : (x y : ℕ) (c d : ℕ) → x ≡ y → (nat_lt x y || ((x == y) && nat_lt c d)) ≡ false → d ≤ c
    within x y c d same e =
        ltb-false c d (ap (λ z. z && nat_lt c d) (sym (subst (λ z. (x == z) ≡ true) same (is_same x))) ∙ or_second (nat_lt x y) ((x == y) && nat_lt c d) e)

    numbers : p.1 ≡ q.1
    numbers = let l = within p.0.0 q.0.0 p.1 q.1 documents a in let m = within q.0.0 p.0.0 q.1 p.1 (sym documents) b in omega (arith, l, m)

-- among the items of a list
abbrev pub In : {A : Type 0} → A → List A → Type 0
In x [] = ⊥
In x (y ∷ ys) = (x ≡ y) ⊎ In x ys

abbrev pub Behind : Pair → List Pair → Type 0
Behind p qs = (q : Pair) → In q qs → Before p q

-- each before those behind it
abbrev pub Ordered : List Pair → Type 0
Ordered [] = Unit {0}
Ordered (p ∷ ps) = Behind p ps × Ordered ps

-- the same pairs in order are one list
pub same_ordered : (ps qs : List Pair) → Ordered ps → Ordered qs → ((p : Pair) → In p ps → In p qs) → ((p : Pair) → In p qs → In p ps) → ps ≡ qs
same_ordered [] [] a b there back = refl
same_ordered [] (q ∷ qs) a b there back = absurd (back q (inl refl))
same_ordered (p ∷ ps) [] a b there back = absurd (there p (inl refl))
same_ordered (p ∷ ps) (q ∷ qs) a b there back =
    let rest = same_ordered ps qs a.1 b.1 (λ r x. later r x (there r (inr x))) (λ r x. earlier r x (back r (inr x))) in λ i. heads i ∷ rest i
  where
    first : In p (q ∷ qs) → In q (p ∷ ps) → p ≡ q
    first (inl e) y = e
    first (inr x) (inl e) = sym e
    first (inr x) (inr y) = absurd (not_itself p (transitive p q p (a.0 q y) (b.0 p x)))

    heads : p ≡ q
    heads = first (there p (inl refl)) (back q (inl refl))

    later : (r : Pair) → In r ps → In r (q ∷ qs) → In r qs
    later r x (inl e) = absurd (not_itself p (subst (λ z. Before p z) (e ∙ sym heads) (a.0 r x)))
    later r x (inr y) = y

    earlier : (r : Pair) → In r qs → In r (p ∷ ps) → In r ps
    earlier r x (inl e) = absurd (not_itself q (subst (λ z. Before q z) (e ∙ heads) (b.0 r x)))
    earlier r x (inr y) = y

-- a pair that is put in its place
pub put_in : (qs : List Pair) (p r : Pair) → In r (with_pair qs p) → (r ≡ p) ⊎ In r qs
put_in [] p r (inl e) = inl e
put_in [] p r (inr x) = inr x
put_in (q ∷ qs) p r x = by (is_before q p) (is_before p q) x (put_in qs p r)
  where
    later : (r ≡ p) ⊎ In r qs → (r ≡ p) ⊎ In r (q ∷ qs)
    later (inl e) = inl e
    later (inr y) = inr (inr y)

    by : (a b : Bool) → In r (if a then q ∷ with_pair qs p else if b then p ∷ q ∷ qs else q ∷ qs) → (In r (with_pair qs p) → (r ≡ p) ⊎ In r qs) → (r ≡ p) ⊎ In r (q ∷ qs)
    by true b (inl e) rest = inr (inl e)
    by true b (inr y) rest = later (rest y)
    by false true (inl e) rest = inl e
    by false true (inr y) rest = inr y
    by false false y rest = inr y

pub in_put : (qs : List Pair) (p r : Pair) → (r ≡ p) ⊎ In r qs → In r (with_pair qs p)
in_put [] p r (inl e) = inl e
in_put [] p r (inr x) = absurd x
in_put (q ∷ qs) p r x = by (is_before q p) refl (is_before p q) refl x (in_put qs p r)
  where
    by : (a : Bool) → is_before q p ≡ a → (b : Bool) → is_before p q ≡ b → (r ≡ p) ⊎ In r (q ∷ qs) → ((r ≡ p) ⊎ In r qs → In r (with_pair qs p)) → In r (if a then q ∷ with_pair qs p else if b then p ∷ q ∷ qs else q ∷ qs)
    by true is_a b is_b (inl e) rest = inr (rest (inl e))
    by true is_a b is_b (inr (inl e)) rest = inl e
    by true is_a b is_b (inr (inr y)) rest = inr (rest (inr y))
    by false is_a true is_b (inl e) rest = inl e
    by false is_a true is_b (inr y) rest = inr y
    by false is_a false is_b (inl e) rest = inl (e ∙ sym (neither q p is_a is_b))
    by false is_a false is_b (inr y) rest = y

put_ordered : (qs : List Pair) (p : Pair) → Ordered qs → Ordered (with_pair qs p)
put_ordered [] p a = (λ q x. absurd x, tt)
put_ordered (q ∷ qs) p a = by (is_before q p) refl (is_before p q) refl (put_ordered qs p a.1)
  where
    behind : Before q p → (r : Pair) → (r ≡ p) ⊎ In r qs → Before q r
    behind less r (inl e) = subst (λ z. Before q z) (sym e) less
    behind less r (inr x) = a.0 r x

    before : Before p q → (r : Pair) → In r (q ∷ qs) → Before p r
    before less r (inl e) = subst (λ z. Before p z) (sym e) less
    before less r (inr x) = transitive p q r less (a.0 r x)

    by : (t : Bool) → is_before q p ≡ t → (b : Bool) → is_before p q ≡ b → Ordered (with_pair qs p) → Ordered (if t then q ∷ with_pair qs p else if b then p ∷ q ∷ qs else q ∷ qs)
    by true is_t b is_b rest = (λ r x. behind (before_is q p is_t) r (put_in qs p r x), rest)
    by false is_t true is_b rest = (λ r x. before (before_is p q is_b) r x, a)
    by false is_t false is_b rest = a

-- pairs that are put in their places one after another
pub folded_ordered : (qs ps : List Pair) → Ordered qs → Ordered (fold with_pair qs ps)
folded_ordered qs [] a = a
folded_ordered qs (p ∷ ps) a = folded_ordered (with_pair qs p) ps (put_ordered qs p a)

pub folded_in : (qs ps : List Pair) (r : Pair) → In r (fold with_pair qs ps) → In r qs ⊎ In r ps
folded_in qs [] r x = inl x
folded_in qs (p ∷ ps) r x = by (folded_in (with_pair qs p) ps r x)
  where
    first : (r ≡ p) ⊎ In r qs → In r qs ⊎ In r (p ∷ ps)
    first (inl e) = inr (inl e)
    first (inr y) = inl y

    by : In r (with_pair qs p) ⊎ In r ps → In r qs ⊎ In r (p ∷ ps)
    by (inl y) = first (put_in qs p r y)
    by (inr y) = inr (inr y)

pub in_folded : (qs ps : List Pair) (r : Pair) → In r qs ⊎ In r ps → In r (fold with_pair qs ps)
in_folded qs [] r (inl x) = x
in_folded qs [] r (inr x) = absurd x
in_folded qs (p ∷ ps) r (inl x) = in_folded (with_pair qs p) ps r (inl (in_put qs p r (inr x)))
in_folded qs (p ∷ ps) r (inr (inl e)) = in_folded (with_pair qs p) ps r (inl (in_put qs p r (inl e)))
in_folded qs (p ∷ ps) r (inr (inr y)) = in_folded (with_pair qs p) ps r (inr y)

pub in_appended : {A : Type 0} (xs ys : List A) (x : A) → In x (xs ++ ys) → In x xs ⊎ In x ys
in_appended [] ys x i = inr i
in_appended (z ∷ xs) ys x (inl e) = inl (inl e)
in_appended (z ∷ xs) ys x (inr i) = by (in_appended xs ys x i)
  where
    by : In x xs ⊎ In x ys → In x (z ∷ xs) ⊎ In x ys
    by (inl j) = inl (inr j)
    by (inr j) = inr j

pub appended_in : {A : Type 0} (xs ys : List A) (x : A) → In x xs ⊎ In x ys → In x (xs ++ ys)
appended_in [] ys x (inl i) = absurd i
appended_in [] ys x (inr i) = i
appended_in (z ∷ xs) ys x (inl (inl e)) = inl e
appended_in (z ∷ xs) ys x (inl (inr i)) = inr (appended_in xs ys x (inl i))
appended_in (z ∷ xs) ys x (inr i) = inr (appended_in xs ys x (inr i))

pub in_filtered : {A : Type 0} (f : A → Bool) (xs : List A) (x : A) → In x (filter f xs) → In x xs × (f x ≡ true)
in_filtered f [] x i = absurd i
in_filtered f (y ∷ xs) x i = by (f y) refl i (in_filtered f xs x)
  where
    later : In x xs × (f x ≡ true) → In x (y ∷ xs) × (f x ≡ true)
    later r = (inr r.0, r.1)

    by : (b : Bool) → f y ≡ b → In x (if b then y ∷ filter f xs else filter f xs) → (In x (filter f xs) → In x xs × (f x ≡ true)) → In x (y ∷ xs) × (f x ≡ true)
    by true is (inl e) rest = (inl e, subst (λ z. f z ≡ true) (sym e) is)
    by true is (inr j) rest = later (rest j)
    by false is j rest = later (rest j)

pub filtered_in : {A : Type 0} (f : A → Bool) (xs : List A) (x : A) → In x xs → f x ≡ true → In x (filter f xs)
filtered_in f [] x i t = absurd i
filtered_in f (y ∷ xs) x (inl e) t = subst (λ b. In x (if b then y ∷ filter f xs else filter f xs)) (sym (subst (λ z. f z ≡ true) e t)) (inl e)
filtered_in f (y ∷ xs) x (inr i) t = by (f y) (filtered_in f xs x i t)
  where
    by : (b : Bool) → In x (filter f xs) → In x (if b then y ∷ filter f xs else filter f xs)
    by true j = inr j
    by false j = j

pub in_mapped : {A B : Type 0} (f : A → B) (xs : List A) (y : B) → In y (map f xs) → (x : A) × In x xs × (y ≡ f x)
in_mapped f [] y i = absurd i
in_mapped f (x ∷ xs) y (inl e) = (x, inl refl, e)
in_mapped f (x ∷ xs) y (inr i) = let r = in_mapped f xs y i in (r.0, inr r.1, r.2)

pub mapped_in : {A B : Type 0} (f : A → B) (xs : List A) (x : A) → In x xs → In (f x) (map f xs)
mapped_in f [] x i = absurd i
mapped_in f (y ∷ xs) x (inl e) = inl (ap f e)
mapped_in f (y ∷ xs) x (inr i) = inr (mapped_in f xs x i)

pub in_flat : {A B : Type 0} (f : A → List B) (xs : List A) (y : B) → In y (flat_map f xs) → (x : A) × In x xs × In y (f x)
in_flat f [] y i = absurd i
in_flat f (x ∷ xs) y i = by (in_appended (f x) (flat_map f xs) y (subst (λ l. In y l) (flat_map-cons f x xs) i)) (in_flat f xs y)
  where
    by : In y (f x) ⊎ In y (flat_map f xs) → (In y (flat_map f xs) → (z : _) × In z xs × In y (f z)) → (z : _) × In z (x ∷ xs) × In y (f z)
    by (inl j) rest = (x, inl refl, j)
    by (inr j) rest = let r = rest j in (r.0, inr r.1, r.2)

pub flat_in : {A B : Type 0} (f : A → List B) (xs : List A) (y : B) (x : A) → In x xs → In y (f x) → In y (flat_map f xs)
flat_in f [] y x i j = absurd i
flat_in f (z ∷ xs) y x (inl e) j = subst (λ l. In y l) (sym (flat_map-cons f z xs)) (appended_in (f z) (flat_map f xs) y (inl (subst (λ u. In y (f u)) e j)))
flat_in f (z ∷ xs) y x (inr i) j = subst (λ l. In y l) (sym (flat_map-cons f z xs)) (appended_in (f z) (flat_map f xs) y (inr (flat_in f xs y x i j)))

-- what some item passes
pub in_any : {A : Type 0} (f : A → Bool) (xs : List A) → list_any f xs ≡ true → (x : A) × In x xs × (f x ≡ true)
in_any f [] e = absurd cc
in_any f (x ∷ xs) e = by (f x) refl e (in_any f xs)
  where
    by : (b : Bool) → f x ≡ b → (b || list_any f xs) ≡ true → (list_any f xs ≡ true → (z : _) × In z xs × (f z ≡ true)) → (z : _) × In z (x ∷ xs) × (f z ≡ true)
    by true is e1 rest = (x, inl refl, is)
    by false is e1 rest = let r = rest e1 in (r.0, inr r.1, r.2)

pub any_in : {A : Type 0} (f : A → Bool) (xs : List A) (x : A) → In x xs → f x ≡ true → list_any f xs ≡ true
any_in f [] x i t = absurd i
any_in f (y ∷ xs) x (inl e) t = ap (λ b. b || list_any f xs) (subst (λ z. f z ≡ true) e t)
any_in f (y ∷ xs) x (inr i) t = by (f y) (any_in f xs x i t)
  where
    by : (b : Bool) → list_any f xs ≡ true → (b || list_any f xs) ≡ true
    by true e = refl
    by false e = e

-- one list in order behind another
pub appended_ordered : (ps qs : List Pair) → Ordered ps → Ordered qs → ((p q : Pair) → In p ps → In q qs → Before p q) → Ordered (ps ++ qs)
appended_ordered [] qs a b less = b
appended_ordered (p ∷ ps) qs a b less = ((λ r x. behind r (in_appended ps qs r x)), appended_ordered ps qs a.1 b (λ p1 q1 x y. less p1 q1 (inr x) y))
  where
    behind : (r : Pair) → In r ps ⊎ In r qs → Before p r
    behind r (inl x) = a.0 r x
    behind r (inr x) = less p r (inl refl) x

-- an item has a place
pub in_place : {A : Type 0} (xs : List A) (x : A) → In x xs → (n : ℕ) × (slice_get xs n ≡ Some x)
in_place [] x i = absurd i
in_place (y ∷ xs) x (inl e) = (0, ap Some (sym e))
in_place (y ∷ xs) x (inr i) = let r = in_place xs x i in (suc r.0, r.1)

-- Children that stand once each, as one is put among them and taken out.
use Rattle.std.proofs.Common.{List, [], ◌∷◌, ◌≡◌, ◌∙◌, Bool, true, false, ◌&&◌, ℕ, zero, suc, refl, ap, sym, arith, cond}
use Rattle.std.proofs.lemmas.Bool.Decides.{Decides-eqb, nat_tests}
use Rattle.std.specs.HashSet.{HashSet, contains}
use Rattle.std.specs.List.{insert, list_any, position}
use Rattle.std.specs.Prelude.{None, Option, Some, if◌then◌else◌, is_some, nat_eq, not, slice_get, ◌==◌, ◌||◌}
use Rattle.flex_base.specs.Lists.{one_later}
use Rattle.flex_base.specs.Value.{is_object}
use Rattle.flex_base.specs.declared.value.ObjId.{ObjId}
use Rattle.flex_objects.specs.Once.{are_apart, are_noted, is_held, stand_once}
use Rattle.flex_objects.proofs.Booleans.{both, denied, neither}
use Rattle.flex_objects.proofs.Positions.{position_step}
use Rattle.flex_world.specs.Children.{without_child}

-- what was added wasn't there
pub fresh : (there added new : Bool) → new ≡ true → new ≡ added → added ≡ not there → there ≡ false
fresh false added new is same was = refl
fresh true added new is same was = let e : true ≡ false = sym is ∙ same ∙ was in absurd (cc)

turned : (a b : ObjId) → is_object a b ≡ is_object b a
turned a b = grind (arith, nat_tests)

-- an object that isn't among some is at no place there
not_at : (o child : ObjId) (os : List ObjId) (n : ℕ) → list_any (is_object o) os ≡ false → is_held child (slice_get os n) ≡ true → is_object o child ≡ false
not_at o child [] n none held = absurd (cc)
not_at o child (x ∷ os) zero none held =
    let apart = (neither (is_object o x) (list_any (is_object o) os) none).0 in
    by (is_object o child) refl apart
  where
    by : (b : Bool) → is_object o child ≡ b → is_object o x ≡ false → b ≡ false
    by false t apart = refl
    by true t apart =
        let same : o.0 ≡ child.0 = (Decides-eqb o.0 child.0).0 t in
        let also : x.0 ≡ child.0 = (Decides-eqb x.0 child.0).0 held in
        let u : is_object o x ≡ true = (Decides-eqb o.0 x.0).1 (same ∙ sym also) in
        absurd (cc)
not_at o child (x ∷ os) (suc n) none held = not_at o child os n (neither (is_object o x) (list_any (is_object o) os) none).1 held

-- where children stand once each, a place of a child is the first one
pub first_place : (child : ObjId) (os : List ObjId) (n : ℕ) → are_apart os ≡ true → is_held child (slice_get os n) ≡ true → position (λ o. is_object o child) os ≡ Some n
first_place child [] n apart held = absurd (cc)
first_place child (o ∷ os) zero apart held =
    position_step (λ o. is_object o child) o os ∙ ap (λ b. cond b (Some 0) (one_later (position (λ o. is_object o child) os))) held
first_place child (o ∷ os) (suc n) apart held =
    let now = both (not (list_any (is_object o) os)) (are_apart os) apart in
    let other = not_at o child os n (denied _ now.0) held in
    position_step (λ o. is_object o child) o os
    ∙ ap (λ b. cond b (Some 0) (one_later (position (λ o. is_object o child) os))) other
    ∙ ap one_later (first_place child os n now.1 held)

pub first_of : {S : Type 0} (once : Option (HashSet ℕ S)) (child : ObjId) (os : List ObjId) (n : ℕ)
    → is_some once ≡ true → stand_once once os ≡ true → is_held child (slice_get os n) ≡ true → position (λ o. is_object o child) os ≡ Some n
first_of None child os n there once held = absurd (cc)
first_of (Some s) child os n there once held = first_place child os n (both (are_noted s os) (are_apart os) once).1 held

module _ {S : Type 0} (before after : HashSet ℕ S) (child : ObjId) where
  -- one more is noted
  module _ (more : (q : ℕ) → contains nat_eq after q ≡ cond (nat_eq child.0 q) true (contains nat_eq before q)) where
    noted_before : (q : ℕ) → contains nat_eq before q ≡ true → contains nat_eq after q ≡ true
    noted_before q is = more q ∙ by (nat_eq child.0 q)
      where
        by : (b : Bool) → cond b true (contains nat_eq before q) ≡ true
        by true = refl
        by false = is

    still_noted : (os : List ObjId) → are_noted before os ≡ true → are_noted after os ≡ true
    still_noted [] noted = refl
    still_noted (o ∷ os) noted =
        let now = both (contains nat_eq before o.0) (are_noted before os) noted in
        ap (λ b. b && are_noted after os) (noted_before o.0 now.0) ∙ still_noted os now.1

    itself : contains nat_eq after child.0 ≡ true
    itself = more child.0 ∙ ap (λ b. cond b true (contains nat_eq before child.0)) ((Decides-eqb child.0 child.0).1 refl)

    noted_put : (os : List ObjId) (n : ℕ) → are_noted before os ≡ true → are_noted after (insert os n child) ≡ true
    noted_put [] zero noted = ap (λ b. b && true) itself
    noted_put [] (suc n) noted = ap (λ b. b && true) itself
    noted_put (o ∷ os) zero noted = ap (λ b. b && are_noted after (o ∷ os)) itself ∙ still_noted (o ∷ os) noted
    noted_put (o ∷ os) (suc n) noted =
        let now = both (contains nat_eq before o.0) (are_noted before os) noted in
        ap (λ b. b && are_noted after (insert os n child)) (noted_before o.0 now.0) ∙ noted_put os n now.1

    -- where it is new
    module _ (new : contains nat_eq before child.0 ≡ false) where
      apart_from : (os : List ObjId) → are_noted before os ≡ true → list_any (is_object child) os ≡ false
      apart_from [] noted = refl
      apart_from (o ∷ os) noted =
          let now = both (contains nat_eq before o.0) (are_noted before os) noted in
          ap (λ b. b || list_any (is_object child) os) (by (is_object child o) refl now.0) ∙ apart_from os now.1
        where
          by : (b : Bool) → is_object child o ≡ b → contains nat_eq before o.0 ≡ true → b ≡ false
          by false t is = refl
          by true t is =
              let same : child.0 ≡ o.0 = (Decides-eqb child.0 o.0).0 t in
              let also : contains nat_eq before child.0 ≡ true = ap (contains nat_eq before) same ∙ is in
              absurd (cc)

      any_put : (x : ObjId) (os : List ObjId) (n : ℕ) → list_any (is_object x) os ≡ false → is_object x child ≡ false → list_any (is_object x) (insert os n child) ≡ false
      any_put x [] zero none other = ap (λ b. b || false) other
      any_put x [] (suc n) none other = ap (λ b. b || false) other
      any_put x (o ∷ os) zero none other = ap (λ b. b || list_any (is_object x) (o ∷ os)) other ∙ none
      any_put x (o ∷ os) (suc n) none other =
          let now = neither (is_object x o) (list_any (is_object x) os) none in
          ap (λ b. b || list_any (is_object x) (insert os n child)) now.0 ∙ any_put x os n now.1 other

      apart_put : (os : List ObjId) (n : ℕ) → list_any (is_object child) os ≡ false → are_apart os ≡ true → are_apart (insert os n child) ≡ true
      apart_put [] zero none apart = refl
      apart_put [] (suc n) none apart = refl
      apart_put (o ∷ os) zero none apart = ap (λ b. not b && are_apart (o ∷ os)) none ∙ apart
      apart_put (o ∷ os) (suc n) none apart =
          let now = both (not (list_any (is_object o) os)) (are_apart os) apart in
          let others = neither (is_object child o) (list_any (is_object child) os) none in
          ap (λ b. not b && are_apart (insert os n child)) (any_put o os n (denied _ now.0) (turned o child ∙ others.0)) ∙ apart_put os n others.1 now.1

      pub once_put : (os : List ObjId) (n : ℕ) → stand_once (Some before) os ≡ true → stand_once (Some after) (insert os n child) ≡ true
      once_put os n once =
          let now = both (are_noted before os) (are_apart os) once in
          ap (λ b. b && are_apart (insert os n child)) (noted_put os n now.0) ∙ apart_put os n (apart_from os now.0) now.1

    pub once_more : (os : List ObjId) → stand_once (Some before) os ≡ true → stand_once (Some after) os ≡ true
    once_more os once =
        let now = both (are_noted before os) (are_apart os) once in
        ap (λ b. b && are_apart os) (still_noted os now.0) ∙ now.1

  -- one is forgotten
  module _ (less : (q : ℕ) → contains nat_eq after q ≡ cond (nat_eq child.0 q) false (contains nat_eq before q)) where
    others_noted : (os : List ObjId) → list_any (is_object child) os ≡ false → are_noted before os ≡ true → are_noted after os ≡ true
    others_noted [] none noted = refl
    others_noted (o ∷ os) none noted =
        let now = both (contains nat_eq before o.0) (are_noted before os) noted in
        let others = neither (is_object child o) (list_any (is_object child) os) none in
        ap (λ b. b && are_noted after os) (less o.0 ∙ ap (λ b. cond b false (contains nat_eq before o.0)) others.0 ∙ now.0) ∙ others_noted os others.1 now.1

    none_left : (x : ObjId) (os : List ObjId) → list_any (is_object x) os ≡ false → list_any (is_object x) (without_child child os) ≡ false
    none_left x [] none = refl
    none_left x (o ∷ os) none =
        let now = neither (is_object x o) (list_any (is_object x) os) none in
        by now.0 now.1 (none_left x os now.1) (is_object o child)
      where
        by : is_object x o ≡ false → list_any (is_object x) os ≡ false → list_any (is_object x) (without_child child os) ≡ false
            → (b : Bool) → list_any (is_object x) (if b then os else o ∷ without_child child os) ≡ false
        by first others rest true = others
        by first others rest false = ap (λ b. b || list_any (is_object x) (without_child child os)) first ∙ rest

    same_any : (x o : ObjId) (os : List ObjId) → is_object x o ≡ true → list_any (is_object x) os ≡ list_any (is_object o) os
    same_any x o os t = let e : x.0 ≡ o.0 = (Decides-eqb x.0 o.0).0 t in ap (λ (n : ℕ). list_any (λ (y : ObjId). n == y.0) os) e

    left_once : (os : List ObjId) → are_noted before os ≡ true → are_apart os ≡ true
        → (are_noted after (without_child child os) ≡ true) × (are_apart (without_child child os) ≡ true)
    left_once [] noted apart = (refl, refl)
    left_once (o ∷ os) noted apart =
        let now = both (contains nat_eq before o.0) (are_noted before os) noted in
        let alone = both (not (list_any (is_object o) os)) (are_apart os) apart in
        by now.0 now.1 (denied _ alone.0) alone.1 (left_once os now.1 alone.1) (is_object o child) refl
      where
        by : contains nat_eq before o.0 ≡ true → are_noted before os ≡ true → list_any (is_object o) os ≡ false → are_apart os ≡ true
            → (are_noted after (without_child child os) ≡ true) × (are_apart (without_child child os) ≡ true)
            → (b : Bool) → is_object o child ≡ b
            → (are_noted after (if b then os else o ∷ without_child child os) ≡ true) × (are_apart (if b then os else o ∷ without_child child os) ≡ true)
        by first noted none apart rest true t = (others_noted os (sym (same_any o child os t) ∙ none) noted, apart)
        by first noted none apart rest false t = (
          ap (λ b. b && are_noted after (without_child child os)) (less o.0 ∙ ap (λ b. cond b false (contains nat_eq before o.0)) (turned child o ∙ t) ∙ first) ∙ rest.0,
          ap (λ b. not b && are_apart (without_child child os)) (none_left o os none) ∙ rest.1,
        )

    pub once_less : (os : List ObjId) → stand_once (Some before) os ≡ true → stand_once (Some after) (without_child child os) ≡ true
    once_less os once =
        let now = both (are_noted before os) (are_apart os) once in
        let left = left_once os now.0 now.1 in
        ap (λ b. b && are_apart (without_child child os)) left.0 ∙ left.1

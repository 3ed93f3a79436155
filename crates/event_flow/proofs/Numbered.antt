-- Registrations by the numbers of their types.
use Rattle.std.proofs.Common.{List, [], ◌∷◌, ◌++◌, ◌+◌, ◌≡◌, ◌∙◌, Bool, true, false, ◌&&◌, map, ℕ, ℤ, refl, ap, sym, suc, zero, arith, fold, length, int_lt}
use Rattle.std.proofs.lemmas.Bool.Decides.{Decides-eqb, nat_tests}
use Rattle.std.proofs.lemmas.List.{length-append, map-append}
use Rattle.std.proofs.lemmas.Option.{get_or_from_slice_get, slice_get-get_or, slice_get_within}
use Rattle.std.specs.Bool.{beq}
use Rattle.std.specs.List.{filter, list_any}
use Rattle.std.specs.Prelude.{Err, None, Ok, OnErr, OnOk, Option, Result, Some, if◌then◌else◌, nat_lt, not, slice_get, ◌==◌, ◌||◌}
use Rattle.std.specs.Str.{bytes_eq}
use Rattle.flex_base.specs.declared.value.ObjId.{ObjId}
use Rattle.flex_world.specs.Events.{insert_by_priority, is_heard, registration, same_registration}
use Rattle.flex_world.specs.Events as events
use Rattle.flex_world.specs.Objects.{Registration}
use Rattle.event_flow.specs.Hearers.{Hearer, listeners, with_hearer, with_pair}
use Rattle.event_flow.specs.Hearing.{fits, has_listener, heard_at, listener_pair, phase_of, without_listener}
use Rattle.event_flow.specs.Registered.{all_registered, are_numbered, is_among, key_of, kind_at, registered, same_key, with_kind, without}
use Rattle.event_flow.specs.declared.registrations.Key.{Key}
use Rattle.event_flow.proofs.Heard.{heard, hearers_by_number}
use Rattle.event_flow.proofs.Numbers.{both, same_text, text_same, the_same}

module _ (kinds : List (List ℕ)) where
  abbrev pub is_numbered : Key × ℤ → Bool
  is_numbered p = nat_lt p.0.kind (length kinds)

  -- a test of registrations, and one of pairs
  module _ (test : Registration → Bool) (pair_test : Key × ℤ → Bool) (alike : (p : Key × ℤ) → is_numbered p ≡ true → test (registered kinds p) ≡ pair_test p) where
    pub any_alike : (pairs : List (Key × ℤ)) → are_numbered kinds pairs ≡ true → list_any test (all_registered kinds pairs) ≡ list_any pair_test pairs
    any_alike [] numbered = refl
    any_alike (p ∷ pairs) numbered =
        let now = both (is_numbered p) (are_numbered kinds pairs) numbered in
        ap (λ b. b || list_any test (all_registered kinds pairs)) (alike p now.0) ∙ ap (λ b. pair_test p || b) (any_alike pairs now.1)

    pub filter_alike : (pairs : List (Key × ℤ)) → are_numbered kinds pairs ≡ true → filter test (all_registered kinds pairs) ≡ all_registered kinds (filter pair_test pairs)
    filter_alike [] numbered = refl
    filter_alike (p ∷ pairs) numbered =
        let now = both (is_numbered p) (are_numbered kinds pairs) numbered in
        ap (λ b. if b then registered kinds p ∷ filter test (all_registered kinds pairs) else filter test (all_registered kinds pairs)) (alike p now.0)
        ∙ by (filter_alike pairs now.1) (pair_test p)
      where
        by : filter test (all_registered kinds pairs) ≡ all_registered kinds (filter pair_test pairs)
            → (b : Bool) → (if b then registered kinds p ∷ filter test (all_registered kinds pairs) else filter test (all_registered kinds pairs))
            ≡ all_registered kinds (if b then p ∷ filter pair_test pairs else filter pair_test pairs)
        by rest true = ap (λ rs. registered kinds p ∷ rs) rest
        by rest false = rest

  pub numbered_filter : (test : Key × ℤ → Bool) (pairs : List (Key × ℤ)) → are_numbered kinds pairs ≡ true → are_numbered kinds (filter test pairs) ≡ true
  numbered_filter test [] numbered = refl
  numbered_filter test (p ∷ pairs) numbered =
      let now = both (is_numbered p) (are_numbered kinds pairs) numbered in
      by now.0 (numbered_filter test pairs now.1) (test p)
    where
      by : is_numbered p ≡ true → are_numbered kinds (filter test pairs) ≡ true → (b : Bool) → are_numbered kinds (if b then p ∷ filter test pairs else filter test pairs) ≡ true
      by is rest true = ap (λ b. b && are_numbered kinds (filter test pairs)) is ∙ rest
      by is rest false = rest

  pub numbered_last : (p : Key × ℤ) (pairs : List (Key × ℤ)) → is_numbered p ≡ true → are_numbered kinds pairs ≡ true → are_numbered kinds (pairs ++ p ∷ []) ≡ true
  numbered_last p [] is numbered = ap (λ b. b && true) is
  numbered_last p (q ∷ pairs) is numbered =
      let now = both (is_numbered q) (are_numbered kinds pairs) numbered in
      ap (λ b. b && are_numbered kinds (pairs ++ p ∷ [])) now.0 ∙ numbered_last p pairs is now.1

-- the types with one more
module _ (kinds : List (List ℕ)) (kind : List ℕ) where
  kind_kept : (ks : List (List ℕ)) (n : ℕ) → nat_lt n (length ks) ≡ true → kind_at (ks ++ kind ∷ []) n ≡ kind_at ks n
  kind_kept [] n is = absurd (let h : nat_lt n 0 ≡ false = grind (arith, nat_tests) in cc)
  kind_kept (k ∷ ks) zero is = refl
  kind_kept (k ∷ ks) (suc n) is = kind_kept ks n (let t : nat_lt (suc n) (suc (length ks)) ≡ nat_lt n (length ks) = grind (arith, nat_tests) in sym t ∙ is)

  one_more : (pairs : List (Key × ℤ)) → are_numbered kinds pairs ≡ true
      → (are_numbered (kinds ++ kind ∷ []) pairs ≡ true) × (all_registered (kinds ++ kind ∷ []) pairs ≡ all_registered kinds pairs)
  one_more [] numbered = (refl, refl)
  one_more (p ∷ pairs) numbered =
      let now = both (is_numbered kinds p) (are_numbered kinds pairs) numbered in
      let rest = one_more pairs now.1 in
      let longer : length (kinds ++ kind ∷ []) ≡ length kinds + 1 = length-append kinds (kind ∷ []) in
      let before = now.0 in
      let is : nat_lt p.0.kind (length kinds + 1) ≡ true = grind (arith, nat_tests) in (
        ap (λ n. nat_lt p.0.kind n && are_numbered (kinds ++ kind ∷ []) pairs) longer ∙ ap (λ b. b && are_numbered (kinds ++ kind ∷ []) pairs) is ∙ rest.0,
        ap (λ k. registration k (record { 0 = p.0.object }) p.0.method p.0.capture p.1 ∷ all_registered (kinds ++ kind ∷ []) pairs) (kind_kept kinds p.0.kind now.0)
            ∙ ap (λ rs. registered kinds p ∷ rs) rest.1,
      )

  pub kinds_grow : (pairs : List (Key × ℤ)) → are_numbered kinds pairs ≡ true
      → (are_numbered (with_kind kind kinds) pairs ≡ true) × (all_registered (with_kind kind kinds) pairs ≡ all_registered kinds pairs)
  kinds_grow pairs numbered = by (list_any (bytes_eq kind) kinds)
    where
      by : (b : Bool) → (are_numbered (if b then kinds else kinds ++ kind ∷ []) pairs ≡ true) × (all_registered (if b then kinds else kinds ++ kind ∷ []) pairs ≡ all_registered kinds pairs)
      by true = (numbered, refl)
      by false = one_more pairs numbered

-- the numbers that pass are those of the type
abbrev pub TellsKind : List (List ℕ) → List ℕ → (ℕ → Bool) → Type 0
TellsKind kinds kind test = (n : ℕ) → nat_lt n (length kinds) ≡ true → bytes_eq (kind_at kinds n) kind ≡ test n

module _ (kinds : List (List ℕ)) (kind : List ℕ) where
  at_place : (n : ℕ) → nat_lt n (length kinds) ≡ true → bytes_eq (kind_at kinds n) kind ≡ true → slice_get kinds n ≡ Some kind
  at_place n is same = slice_get-get_or kinds n [] (grind (arith, nat_tests)) ∙ ap (λ k. Some k) (same_text (kind_at kinds n) kind same)

  pub number_tells : (number : ℕ) → ((n : ℕ) → ((number ≡ n) → (slice_get kinds n ≡ Some kind)) × ((slice_get kinds n ≡ Some kind) → (number ≡ n))) → TellsKind kinds kind (λ n. number == n)
  number_tells number stands n is = by (bytes_eq (kind_at kinds n) kind) refl (number == n) refl
    where
      by : (a : Bool) → bytes_eq (kind_at kinds n) kind ≡ a → (b : Bool) → (number == n) ≡ b → a ≡ b
      by true s true t = refl
      by false s false t = refl
      by true s false t =
          let same : number ≡ n = (stands n).1 (at_place n is s) in
          let u : (number == n) ≡ true = (Decides-eqb number n).1 same in
          absurd (cc)
      by false s true t =
          let same : number ≡ n = (Decides-eqb number n).0 t in
          let u : bytes_eq (kind_at kinds n) kind ≡ true = text_same (kind_at kinds n) kind (get_or_from_slice_get kinds n kind [] ((stands n).0 same)) in
          absurd (cc)

  pub none_tells : ((n : ℕ) → (slice_get kinds n ≡ Some kind) → (None ≡ Some n)) → TellsKind kinds kind (λ n. false)
  none_tells none n is = by (bytes_eq (kind_at kinds n) kind) refl
    where
      by : (a : Bool) → bytes_eq (kind_at kinds n) kind ≡ a → a ≡ false
      by false s = refl
      by true s = let e : None ≡ Some n = none n (at_place n is s) in absurd (cc)

  module _ (test : ℕ → Bool) (tells : TellsKind kinds kind test) (l : ObjId × ℕ) (capture : Bool) where
    -- the pairs of a listener
    abbrev pub is_its : Key × ℤ → Bool
    is_its p = test p.0.kind && ((l.0.0 == p.0.object) && ((l.1 == p.0.method) && beq capture p.0.capture))

    together : (a b c d : Bool) → (((a && b) && c) && d) ≡ (a && (b && (c && d)))
    together true true c d = refl
    together true false c d = refl
    together false b c d = refl

    same_capture : (a b : Bool) → (if a then b else not b) ≡ beq a b
    same_capture true true = refl
    same_capture true false = refl
    same_capture false true = refl
    same_capture false false = refl

    turned : (a b : ℕ) → (a == b) ≡ (b == a)
    turned a b = grind (arith, nat_tests)

    pub its_alike : (p : Key × ℤ) → is_numbered kinds p ≡ true → same_registration kind l.0 l.1 capture (registered kinds p) ≡ is_its p
    its_alike p is =
        together (bytes_eq (kind_at kinds p.0.kind) kind) (p.0.object == l.0.0) (p.0.method == l.1) (if capture then p.0.capture else not p.0.capture)
        ∙ ap (λ a. a && ((p.0.object == l.0.0) && ((p.0.method == l.1) && (if capture then p.0.capture else not p.0.capture)))) (tells p.0.kind is)
        ∙ ap (λ b. test p.0.kind && (b && ((p.0.method == l.1) && (if capture then p.0.capture else not p.0.capture)))) (turned p.0.object l.0.0)
        ∙ ap (λ b. test p.0.kind && ((l.0.0 == p.0.object) && (b && (if capture then p.0.capture else not p.0.capture)))) (turned p.0.method l.1)
        ∙ ap (λ b. test p.0.kind && ((l.0.0 == p.0.object) && ((l.1 == p.0.method) && b))) (same_capture capture p.0.capture)

  module _ (test : ℕ → Bool) (tells : TellsKind kinds kind test) (phase : ℕ) where
    pub hears_alike : (p : Key × ℤ) → is_numbered kinds p ≡ true
        → (bytes_eq (registered kinds p).event kind && fits (phase_of phase) (registered kinds p).capture) ≡ (test p.0.kind && fits (phase_of phase) p.0.capture)
    hears_alike p is = ap (λ a. a && fits (phase_of phase) p.0.capture) (tells p.0.kind is)

-- those that hear, with their priority
abbrev pub hearer : Registration → Hearer
hearer r = (r.priority, listener_pair (events.listener_of r))

put_alike : (r : Registration) (rs : List Registration) → map hearer (insert_by_priority rs r) ≡ with_hearer r.priority (listener_pair (events.listener_of r)) (map hearer rs)
put_alike r [] = refl
put_alike r (first ∷ rs) = by (put_alike r rs) (int_lt first.priority r.priority)
  where
    by : map hearer (insert_by_priority rs r) ≡ with_hearer r.priority (listener_pair (events.listener_of r)) (map hearer rs)
        → (b : Bool) → map hearer (if b then r ∷ first ∷ rs else first ∷ insert_by_priority rs r)
        ≡ (if b then hearer r ∷ hearer first ∷ map hearer rs else hearer first ∷ with_hearer r.priority (listener_pair (events.listener_of r)) (map hearer rs))
    by rest true = refl
    by rest false = ap (λ hs. hearer first ∷ hs) rest

put_all : (kinds : List (List ℕ)) (rs : List Registration) (pairs : List (Key × ℤ)) → map hearer (fold insert_by_priority rs (all_registered kinds pairs)) ≡ fold with_pair (map hearer rs) pairs
put_all kinds rs [] = refl
put_all kinds rs (p ∷ pairs) = put_all kinds (insert_by_priority rs (registered kinds p)) pairs ∙ ap (λ hs. fold with_pair hs pairs) (put_alike (registered kinds p) rs)

only_listeners : (rs : List Registration) → map listener_pair (map events.listener_of rs) ≡ listeners (map hearer rs)
only_listeners [] = refl
only_listeners (r ∷ rs) = ap (λ ls. listener_pair (events.listener_of r) ∷ ls) (only_listeners rs)

module _ (kinds : List (List ℕ)) (kind : List ℕ) (test : ℕ → Bool) (tells : TellsKind kinds kind test) (phase : ℕ) where
  pub heard_alike : (pairs : List (Key × ℤ)) → are_numbered kinds pairs ≡ true
      → heard_at kind phase (all_registered kinds pairs) ≡ listeners (fold with_pair [] (filter (λ (p : Key × ℤ). test p.0.kind && fits (phase_of phase) p.0.capture) pairs))
  heard_alike pairs numbered =
      let hears : Key × ℤ → Bool = λ p. test p.0.kind && fits (phase_of phase) p.0.capture in
      ap (map listener_pair) (sym (hearers_by_number kind phase (all_registered kinds pairs)))
      ∙ only_listeners (heard kind (phase_of phase) (all_registered kinds pairs))
      ∙ ap (λ rs. listeners (map hearer (fold insert_by_priority [] rs)))
      (filter_alike kinds (λ r. bytes_eq r.event kind && fits (phase_of phase) r.capture) hears (hears_alike kinds kind test tells phase) pairs numbered)
      ∙ ap listeners (put_all kinds [] (filter hears pairs))

pub none_pass : {A : Type 0} (xs : List A) → filter (λ _. false) xs ≡ []
none_pass [] = refl
none_pass (x ∷ xs) = none_pass xs

pub no_pass : {A : Type 0} (xs : List A) → list_any (λ _. false) xs ≡ false
no_pass [] = refl
no_pass (x ∷ xs) = no_pass xs

pub all_pass : {A : Type 0} (xs : List A) → filter (λ _. not false) xs ≡ xs
all_pass [] = refl
all_pass (x ∷ xs) = ap (λ ys. x ∷ ys) (all_pass xs)

-- the type has this number, and no other
abbrev pub StandsAt : List (List ℕ) → List ℕ → ℕ → Type 0
StandsAt kinds kind number = (n : ℕ) → ((number ≡ n) → (slice_get kinds n ≡ Some kind)) × ((slice_get kinds n ≡ Some kind) → (number ≡ n))

pub stands_at : (kinds : List (List ℕ)) (kind : List ℕ) (found : Option ℕ) (number : ℕ)
    → ((n : ℕ) → ((found ≡ Some n) → (slice_get kinds n ≡ Some kind)) × ((slice_get kinds n ≡ Some kind) → (found ≡ Some n))) → found ≡ Some number → StandsAt kinds kind number
stands_at kinds kind found number exactly is = λ n. (λ same. (exactly n).0 (is ∙ ap (λ m. Some m) same), λ there. the_same (sym is ∙ (exactly n).1 there))

module _ (kinds : List (List ℕ)) (kind : List ℕ) (number : ℕ) (stands : StandsAt kinds kind number) (l : ObjId × ℕ) (capture : Bool) (pairs : List (Key × ℤ)) (numbered : are_numbered kinds pairs ≡ true) where
  pub has_its : has_listener kind l capture (all_registered kinds pairs) ≡ is_among (key_of number l capture) pairs
  has_its = any_alike kinds _ _ (its_alike kinds kind (λ n. number == n) (number_tells kinds kind number stands) l capture) pairs numbered

  pub without_its : without_listener kind l capture (all_registered kinds pairs) ≡ all_registered kinds (without (key_of number l capture) pairs)
  without_its =
      filter_alike kinds (λ r. not (same_registration kind l.0 l.1 capture r)) (λ p. not (same_key (key_of number l capture) p.0))
      (λ p is. ap not (its_alike kinds kind (λ n. number == n) (number_tells kinds kind number stands) l capture p is)) pairs numbered

  pub with_its : (priority : ℤ) → all_registered kinds (pairs ++ (key_of number l capture, priority) ∷ []) ≡ all_registered kinds pairs ++ registration kind l.0 l.1 capture priority ∷ []
  with_its priority =
      map-append (registered kinds) pairs ((key_of number l capture, priority) ∷ [])
      ∙ ap (λ k. all_registered kinds pairs ++ registration k l.0 l.1 capture priority ∷ []) (get_or_from_slice_get kinds number kind [] ((stands number).0 refl))

  is_within : nat_lt number (length kinds) ≡ true
  is_within = let h = slice_get_within kinds number kind ((stands number).0 refl) in grind (arith, nat_tests)

  -- the pairs after a try to put one more
  pub still_numbered : {A E : Type 0} (priority : ℤ) (after : List (Key × ℤ)) (answer : Result A E)
      → OnOk answer (after ≡ pairs ++ (key_of number l capture, priority) ∷ []) → OnErr answer (after ≡ pairs) → are_numbered kinds after ≡ true
  still_numbered priority after (Ok a) put kept = ap (are_numbered kinds) put ∙ numbered_last kinds (key_of number l capture, priority) pairs is_within numbered
  still_numbered priority after (Err e) put kept = ap (are_numbered kinds) kept ∙ numbered

module _ (kinds : List (List ℕ)) (kind : List ℕ) (none : (n : ℕ) → (slice_get kinds n ≡ Some kind) → (None ≡ Some n)) (l : ObjId × ℕ) (capture : Bool) (pairs : List (Key × ℤ)) (numbered : are_numbered kinds pairs ≡ true) where
  pub has_none : has_listener kind l capture (all_registered kinds pairs) ≡ false
  has_none = any_alike kinds _ _ (its_alike kinds kind (λ n. false) (none_tells kinds kind none) l capture) pairs numbered ∙ no_pass pairs

  pub without_none : without_listener kind l capture (all_registered kinds pairs) ≡ all_registered kinds pairs
  without_none =
      filter_alike kinds (λ r. not (same_registration kind l.0 l.1 capture r)) (λ p. not false)
      (λ p is. ap not (its_alike kinds kind (λ n. false) (none_tells kinds kind none) l capture p is)) pairs numbered
      ∙ ap (all_registered kinds) (all_pass pairs)

module _ (kinds after : List (List ℕ)) (kind : List ℕ) (pairs : List (Key × ℤ)) (now : List Registration) (numbered : are_numbered kinds pairs ≡ true) (is_now : all_registered kinds pairs ≡ now) (is_after : after ≡ with_kind kind kinds) where
  -- one type more leaves the registrations as they are
  pub grown : (are_numbered after pairs ≡ true) × (all_registered after pairs ≡ now)
  grown =
      let grow = kinds_grow kinds kind pairs numbered in (
        ap (λ ks. are_numbered ks pairs) is_after ∙ grow.0,
        ap (λ ks. all_registered ks pairs) is_after ∙ grow.1 ∙ is_now,
      )

  pub is_there : (number : ℕ) → StandsAt after kind number → (l : ObjId × ℕ) (capture : Bool) (key : Key) (found : Bool) → key ≡ key_of number l capture → found ≡ is_among key pairs → has_listener kind l capture now ≡ found
  is_there number stands l capture key found is_key is_found =
      ap (has_listener kind l capture) (sym grown.1) ∙ has_its after kind number stands l capture pairs grown.0 ∙ ap (λ k. is_among k pairs) (sym is_key) ∙ sym is_found

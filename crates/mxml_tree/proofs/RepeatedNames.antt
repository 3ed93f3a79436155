-- Names that stand twice in a list, by a set of those that were seen.
use Rattle.std.proofs.Common.{◌≡◌, ℕ, Bool, true, false, ◌||◌, not, List, [], ◌∷◌, ◌++◌, Bor, Ordering, append_assoc, refl, ap, ◌∙◌, sym}
use Rattle.std.specs.Ordering.{nat_cmp, match_ordering, is_eq}
use Rattle.std.specs.declared.cmp.Ordering.TheVariants.{Less, Equal, Greater}
use Rattle.std.specs.Cmp.Lexicographic.{slice_cmp}
use Rattle.std.specs.List.{list_any}
use Rattle.std.specs.Str.{bytes_eq}
use Rattle.std.specs.BTreeMap.{is_at}
use Rattle.std.specs.BTreeSet.{insert_key}
use Rattle.std.proofs.lemmas.List.Folds.{list_any-append}
use Rattle.std.proofs.lemmas.Map.Text.{is_eq-slice_cmp}
use Rattle.std.proofs.lemmas.Slice.Eq.{bytes_eq-Decides}
use Rattle.std.proofs.lemmas.Cmp.{nat_list_eq_equiv}
use Rattle.mxml_tree.specs.Faults.{is_repeated}

or_itself : (a b : Bool) → (a || b) ≡ (a || (a || b))
or_itself true b = refl
or_itself false b = refl

or_swap : (a b c : Bool) → (a || (b || c)) ≡ (b || (a || c))
or_swap true true c = refl
or_swap true false c = refl
or_swap false b c = refl

or_false : (a : Bool) → (a || false) ≡ a
or_false true = refl
or_false false = refl

was_true : (b : Bool) → not b ≡ false → b ≡ true
was_true true e = refl
was_true false e = cc

was_false : (b : Bool) → not b ≡ true → b ≡ false
was_false true e = cc
was_false false e = refl

or_last : (a b : Bool) → (a || b) ≡ (b || (a || false))
or_last true true = refl
or_last true false = refl
or_last false true = refl
or_last false false = refl

inserted : {K : Type 0} (o : Ordering) (test : K → Bool) (k x : K) (xs rest : List K) → (o ≡ Equal → test k ≡ test x) → list_any test rest ≡ (test k || list_any test xs)
    → list_any test (match_ordering o (k ∷ x ∷ xs) (x ∷ xs) (x ∷ rest)) ≡ (test k || list_any test (x ∷ xs))
inserted Less test k x xs rest same behind = refl
inserted Equal test k x xs rest same behind = or_itself (test x) (list_any test xs) ∙ ap (λ b. b || (test x || list_any test xs)) (sym (same refl))
inserted Greater test k x xs rest same behind = ap (λ b. test x || b) behind ∙ or_swap (test x) (test k) (list_any test xs)

-- which name is among the keys
abbrev pub is_key : List ℕ → Bor (List ℕ) → Bool
is_key name key = bytes_eq name key.now

abbrev key_cmp : Bor (List ℕ) → Bor (List ℕ) → Ordering
key_cmp x y = slice_cmp nat_cmp x.now y.now

same_key : (name : List ℕ) (k x : Bor (List ℕ)) → key_cmp k x ≡ Equal → is_key name k ≡ is_key name x
same_key name k x e = ap (bytes_eq name) ((bytes_eq-Decides k.now x.now).0 (sym (is_eq-slice_cmp k.now x.now) ∙ ap is_eq e))

has_inserted : (name : List ℕ) (keys : List (Bor (List ℕ))) (k : Bor (List ℕ)) → list_any (is_key name) (insert_key key_cmp keys k) ≡ (is_key name k || list_any (is_key name) keys)
has_inserted name [] k = refl
has_inserted name (x ∷ keys) k =
    inserted (key_cmp k x) (is_key name) k x keys (insert_key key_cmp keys k) (same_key name k x) (has_inserted name keys k)

by_order : (name : List ℕ) (keys : List (Bor (List ℕ))) → list_any (is_at (λ (k : Bor (List ℕ)). slice_cmp nat_cmp name k.now)) keys ≡ list_any (is_key name) keys
by_order name [] = refl
by_order name (k ∷ keys) = ap (λ b. b || list_any (is_at (λ (x : Bor (List ℕ)). slice_cmp nat_cmp name x.now)) keys) (is_eq-slice_cmp name k.now) ∙ ap (λ b. bytes_eq name k.now || b) (by_order name keys)

one_more : (a b c d e : Bool) → b ≡ e → ((a || (b || false)) || (c || d)) ≡ ((a || c) || (e || d))
one_more true b c d e same = refl
one_more false b c d e same = ap (λ x. x || (c || d)) (or_false b) ∙ or_swap b c d ∙ ap (λ x. c || (x || d)) same

repeats : (a b : Bool) → elim a as (λ _. Bool) [ true ↦ true | false ↦ b ] ≡ (a || b)
repeats true b = refl
repeats false b = refl

same_name : (name other : List ℕ) → bytes_eq name other ≡ bytes_eq other name
same_name name other = nat_list_eq_equiv.symm name other

-- names stand twice with one more where they did, or where it is among them
repeated_push : (names : List (List ℕ)) (name : List ℕ) → is_repeated (names ++ name ∷ []) ≡ (is_repeated names || list_any (bytes_eq name) names)
repeated_push [] name = refl
repeated_push (other ∷ names) name =
    repeats (list_any (bytes_eq other) (names ++ name ∷ [])) (is_repeated (names ++ name ∷ []))
    ∙ ap (λ b. b || is_repeated (names ++ name ∷ [])) (list_any-append (bytes_eq other) names (name ∷ []))
    ∙ ap (λ b. (list_any (bytes_eq other) names || (bytes_eq other name || false)) || b) (repeated_push names name)
    ∙ one_more (list_any (bytes_eq other) names) (bytes_eq other name) (is_repeated names) (list_any (bytes_eq name) names) (bytes_eq name other) (same_name other name)
    ∙ ap (λ b. b || (bytes_eq name other || list_any (bytes_eq name) names)) (sym (repeats (list_any (bytes_eq other) names) (is_repeated names)))

longer : (a b r s : Bool) → (a || r) ≡ true → (r ≡ true → s ≡ true) → ((a || b) || s) ≡ true
longer true b r s e f = refl
longer false true r s e f = refl
longer false false r s e f = f e

repeated_longer : (front back : List (List ℕ)) → is_repeated front ≡ true → is_repeated (front ++ back) ≡ true
repeated_longer [] back e = cc
repeated_longer (name ∷ front) back e =
    repeats (list_any (bytes_eq name) (front ++ back)) (is_repeated (front ++ back))
    ∙ ap (λ b. b || is_repeated (front ++ back)) (list_any-append (bytes_eq name) front back)
    ∙ longer (list_any (bytes_eq name) front) (list_any (bytes_eq name) back) (is_repeated front) (is_repeated (front ++ back)) (sym (repeats (list_any (bytes_eq name) front) (is_repeated front)) ∙ e) (repeated_longer front back)

-- keys that are names, none of which stands twice
pub record AreSeen (keys : List (Bor (List ℕ))) (names : List (List ℕ)) : Type 0 where
  pub has : (name : List ℕ) → list_any (is_key name) keys ≡ list_any (bytes_eq name) names
  pub once : is_repeated names ≡ false

is_seen : (keys : List (Bor (List ℕ))) (names : List (List ℕ)) (key : Bor (List ℕ)) → AreSeen keys names
    → list_any (is_at (λ (k : Bor (List ℕ)). slice_cmp nat_cmp key.now k.now)) keys ≡ list_any (bytes_eq key.now) names
is_seen keys names key seen = by_order key.now keys ∙ seen.has key.now

pub seen_before : (keys : List (Bor (List ℕ))) (names : List (List ℕ)) (key : Bor (List ℕ)) (back : List (List ℕ)) → AreSeen keys names
    → not (list_any (is_at (λ (k : Bor (List ℕ)). slice_cmp nat_cmp key.now k.now)) keys) ≡ false → is_repeated (names ++ key.now ∷ back) ≡ true
seen_before keys names key back seen old =
    ap is_repeated (sym (append_assoc names (key.now ∷ []) back))
    ∙ repeated_longer (names ++ key.now ∷ []) back
    (repeated_push names key.now ∙ ap (λ b. b || list_any (bytes_eq key.now) names) seen.once ∙ sym (is_seen keys names key seen) ∙ was_true _ old)

pub now_seen : (keys : List (Bor (List ℕ))) (names : List (List ℕ)) (key : Bor (List ℕ)) → AreSeen keys names
    → not (list_any (is_at (λ (k : Bor (List ℕ)). slice_cmp nat_cmp key.now k.now)) keys) ≡ true → AreSeen (insert_key key_cmp keys key) (names ++ key.now ∷ [])
now_seen keys names key seen new = record {
  has = λ name.
      has_inserted name keys key
      ∙ ap (λ b. bytes_eq name key.now || b) (seen.has name)
      ∙ or_last (bytes_eq name key.now) (list_any (bytes_eq name) names)
      ∙ sym (list_any-append (bytes_eq name) names (key.now ∷ []));
  once =
      repeated_push names key.now ∙ ap (λ b. b || list_any (bytes_eq key.now) names) seen.once ∙ sym (is_seen keys names key seen) ∙ was_false _ new;
}

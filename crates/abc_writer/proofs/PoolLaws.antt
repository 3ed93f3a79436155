-- The laws of interning.
use Rattle.std.proofs.Common.{◌≡◌, ℕ, zero, suc, ◌+◌, Bool, true, false, cond, not, List, [], ◌∷◌, ◌++◌, slice_get, Some, nat_eq, ℤ, refl, sym, ap, ap₂, ◌∙◌, add-one, arith, append_assoc}
use Rattle.std.specs.Prelude.{if◌then◌else◌, ◌||◌}
use Rattle.std.specs.List.{list_any, position_or_len}
use Rattle.std.specs.Ordering.{int_eq}
use Rattle.std.proofs.lemmas.Bool.{eqb-true}
use Rattle.std.proofs.lemmas.Bool.Decides.{Decides-int_eq}
use Rattle.std.proofs.lemmas.List.{append-nil}
use Rattle.flex_base.specs.Lists.{entry}
use Rattle.flex_base.proofs.BoolLaws.{both_are}
use Rattle.abc_writer.specs.Interning.{Entries, Longer, Extends, interned, number_in, text_eq, pair_eq, with_text, with_int, with_space, with_name, text_number, space_number, name_pair, name_number}
use Rattle.abc_writer.specs.PoolLaws.{NamesName, OnlyAppends, NumbersName, NumbersStay}

same : {A : Type 0} (old : List A) → Longer old old
same old = record { more = []; is = sym (append-nil old) }

longer : {A : Type 0} (eq : A → A → Bool) (old : List A) (x : A) → Longer old (interned eq old x)
longer eq old x = by (list_any (eq x) old)
  where
    by : (b : Bool) → Longer old (if b then old else old ++ x ∷ [])
    by true = same old
    by false = record { more = x ∷ []; is = refl }

further : {A : Type 0} (old mid new : List A) → Longer old mid → Longer mid new → Longer old new
further old mid new one other =
    record { more = one.more ++ other.more; is = other.is ∙ ap (λ l. l ++ other.more) one.is ∙ append_assoc old one.more other.more }

at-append : {A : Type 0} (old more : List A) (n : ℕ) (x : A) → slice_get old n ≡ Some x → slice_get (old ++ more) n ≡ Some x
at-append [] more n x e = cc
at-append (y ∷ old) more zero x e = e
at-append (y ∷ old) more (suc n) x e = at-append old more n x e

entry-stays : {A : Type 0} (old new : List A) (n : ℕ) (x : A) → Longer old new → entry old n ≡ Some x → entry new n ≡ Some x
entry-stays old new zero x more e = cc
entry-stays old new (suc n) x more e = ap (λ l. slice_get l n) more.is ∙ at-append old more.more n x e

module _ {A : Type 0} (eq : A → A → Bool) (sound : (a b : A) → eq a b ≡ true → a ≡ b) (x : A) where
  at-interned : (old : List A) → slice_get (interned eq old x) (position_or_len (eq x) old) ≡ Some x
  at-interned [] = refl
  at-interned (y ∷ old) = by (at-interned old) (eq x y) refl
    where
      shifted : (b : Bool) (n : ℕ) → slice_get (if b then old else old ++ x ∷ []) n ≡ Some x → slice_get (if b then y ∷ old else (y ∷ old) ++ x ∷ []) (1 + n) ≡ Some x
      shifted true n e = let next : 1 + n ≡ suc n = omega arith in ap (λ k. slice_get (y ∷ old) k) next ∙ e
      shifted false n e = let next : 1 + n ≡ suc n = omega arith in ap (λ k. slice_get (y ∷ (old ++ x ∷ [])) k) next ∙ e

      by : slice_get (interned eq old x) (position_or_len (eq x) old) ≡ Some x → (b : Bool) → eq x y ≡ b
          → slice_get (if b || list_any (eq x) old then y ∷ old else (y ∷ old) ++ x ∷ []) (cond (not b) (1 + position_or_len (eq x) old) 0) ≡ Some x
      by inner true e = ap Some (sym (sound x y e))
      by inner false e = shifted (list_any (eq x) old) (position_or_len (eq x) old) inner

  entry-interned : (old : List A) → entry (interned eq old x) (number_in eq old x) ≡ Some x
  entry-interned old = ap (entry (interned eq old x)) (add-one (position_or_len (eq x) old)) ∙ at-interned old

nat_sound : (a b : ℕ) → nat_eq a b ≡ true → a ≡ b
nat_sound = eqb-true

text_sound : (a b : List ℕ) → text_eq a b ≡ true → a ≡ b
text_sound [] [] e = refl
text_sound [] (y ∷ b) e = cc
text_sound (x ∷ a) [] e = cc
text_sound (x ∷ a) (y ∷ b) e = let w = both_are (nat_eq x y) (text_eq a b) e in ap₂ (λ (z : ℕ) l. z ∷ l) (nat_sound x y w.0) (text_sound a b w.1)

pair_sound : (a b : ℕ × ℕ) → pair_eq a b ≡ true → a ≡ b
pair_sound a b e =
    let w = both_are (nat_eq a.0 b.0) (nat_eq a.1 b.1) e in
    let P : ℕ → ℕ → ℕ × ℕ = λ m n. (m, n) in
    ap₂ P (nat_sound a.0 b.0 w.0) (nat_sound a.1 b.1 w.1)

int_sound : (a b : ℤ) → int_eq a b ≡ true → a ≡ b
int_sound a b e = (Decides-int_eq a b).0 e

extends-text : (e : Entries) (text : List ℕ) → Extends e (with_text e text)
extends-text e text = record { integers = same e.integers; strings = longer text_eq e.strings text; spaces = same e.spaces; names = same e.names }

extends-int : (e : Entries) (z : ℤ) → Extends e (with_int e z)
extends-int e z = record { integers = longer int_eq e.integers z; strings = same e.strings; spaces = same e.spaces; names = same e.names }

extends-name : (e : Entries) (space local : List ℕ) → Extends e (with_name e space local)
extends-name e space local = record {
  integers = same e.integers;
  strings = further e.strings (with_text e space).strings (with_name e space local).strings (longer text_eq e.strings space) (longer text_eq (with_text e space).strings local);
  spaces = longer nat_eq e.spaces (text_number e space);
  names = longer pair_eq e.names (name_pair e space local);
}

name-named : (e : Entries) (space local : List ℕ) → NamesName (with_name e space local) (name_number e space local) space local
name-named e space local = record {
  namespace = space_number (with_text e space) (text_number e space);
  space_text = text_number e space;
  local_text = text_number (with_space (with_text e space) (text_number e space)) local;
  name = entry-interned pair_eq pair_sound (name_pair e space local) e.names;
  of_space = entry-interned nat_eq nat_sound (text_number e space) e.spaces;
  space_is = entry-stays (with_text e space).strings (with_name e space local).strings (text_number e space) space (longer text_eq (with_text e space).strings local) (entry-interned text_eq text_sound space e.strings);
  local_is = entry-interned text_eq text_sound local (with_text e space).strings;
}

pub only_appends : OnlyAppends
only_appends = (extends-text, extends-int, extends-name)

pub numbers_name : NumbersName
numbers_name = ((λ e text. entry-interned text_eq text_sound text e.strings), (λ e z. entry-interned int_eq int_sound z e.integers), name-named)

pub numbers_stay : NumbersStay
numbers_stay = (
  (λ e f n text w. entry-stays e.strings f.strings n text w.strings),
  (λ e f n z w. entry-stays e.integers f.integers n z w.integers),
  (λ e f n space local w names. record {
    namespace = names.namespace;
    space_text = names.space_text;
    local_text = names.local_text;
    name = entry-stays e.names f.names n (names.namespace, names.local_text) w.names names.name;
    of_space = entry-stays e.spaces f.spaces names.namespace names.space_text w.spaces names.of_space;
    space_is = entry-stays e.strings f.strings names.space_text space w.strings names.space_is;
    local_is = entry-stays e.strings f.strings names.local_text local w.strings names.local_is;
  }),
)

-- Texts are interned by their bytes.
use Rattle.std.proofs.Common.{◌≡◌, ℕ, ◌+◌, Bool, true, false, cond, not, List, [], ◌∷◌, ◌++◌, map, nat_eq, ℤ, refl, ap, ◌∙◌}
use Rattle.std.specs.Prelude.{String, if◌then◌else◌, ◌||◌}
use Rattle.std.specs.List.{list_any, position_or_len}
use Rattle.std.specs.String.{string_bytes, string_eq}
use Rattle.indexmap.specs.IndexSet.{insert_key}
use Rattle.abc_writer.specs.Interning.{Entries, interned, number_in, text_eq, pair_eq, with_name, name_number}

module _ {Z : Type 0} (text : String Z) where
  any-bytes : (texts : List (String Z)) → list_any (string_eq text) texts ≡ list_any (text_eq (string_bytes text)) (map string_bytes texts)
  any-bytes [] = refl
  any-bytes (first ∷ texts) = ap (λ b. string_eq text first || b) (any-bytes texts)

  pub place-bytes : (texts : List (String Z)) → position_or_len (string_eq text) texts ≡ position_or_len (text_eq (string_bytes text)) (map string_bytes texts)
  place-bytes [] = refl
  place-bytes (first ∷ texts) = ap (λ (n : ℕ). cond (not (string_eq text first)) (1 + n) 0) (place-bytes texts)

  map-append : (texts : List (String Z)) → map string_bytes (texts ++ text ∷ []) ≡ map string_bytes texts ++ string_bytes text ∷ []
  map-append [] = refl
  map-append (first ∷ texts) = ap (λ l. string_bytes first ∷ l) (map-append texts)

  pub interned-bytes : (texts : List (String Z)) → map string_bytes (insert_key string_eq texts text) ≡ interned text_eq (map string_bytes texts) (string_bytes text)
  interned-bytes texts = by (list_any (string_eq text) texts) ∙ ap (λ b. if b then map string_bytes texts else map string_bytes texts ++ string_bytes text ∷ []) (any-bytes texts)
    where
      by : (b : Bool) → map string_bytes (if b then texts else texts ++ text ∷ []) ≡ (if b then map string_bytes texts else map string_bytes texts ++ string_bytes text ∷ [])
      by true = refl
      by false = map-append texts

pub ruleset texts_interned = (place-bytes, interned-bytes)

abbrev pub entries_of : List ℤ → List (List ℕ) → List ℕ → List (ℕ × ℕ) → Entries
entries_of integers strings spaces names = record { integers = integers; strings = strings; spaces = spaces; names = names }

-- a name, table by table
pub name_interned :
    (e : Entries) (space local : List ℕ) (integers : List ℤ) (old_strings first strings : List (List ℕ)) (old_spaces spaces : List ℕ) (old_names names : List (ℕ × ℕ)) (n m k r : ℕ)
    → integers ≡ e.integers → old_strings ≡ e.strings → old_spaces ≡ e.spaces → old_names ≡ e.names
    → first ≡ interned text_eq old_strings space → n ≡ number_in text_eq old_strings space
    → spaces ≡ interned nat_eq old_spaces n → m ≡ number_in nat_eq old_spaces n
    → strings ≡ interned text_eq first local → k ≡ number_in text_eq first local
    → names ≡ interned pair_eq old_names (m, k) → r ≡ number_in pair_eq old_names (m, k)
    → (entries_of integers strings spaces names ≡ with_name e space local) × (r ≡ name_number e space local)
name_interned e space local integers old_strings first strings old_spaces spaces old_names names n m k r z s p q f a g b h c i d =
    rw (z, i, d, h, g, c, b, a, f, s, p, q) (refl, refl)

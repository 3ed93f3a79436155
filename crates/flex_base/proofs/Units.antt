-- How many units of UTF-16 a text takes.
use Rattle.std.proofs.Common.{◌≡◌, ℕ, ◌+◌, ◌<◌, ◌≤◌, List, [], ◌∷◌, ◌++◌, length, take, get_or, inl, inr, sym, ap, ◌∙◌, arith, length-append, map, map-id}
use Rattle.std.specs.Char.Escape.{encode_utf16}
use Rattle.std.specs.Char.{len_utf8}
use Rattle.std.specs.List.{flat_map}
use Rattle.std.specs.Str.{IsUtf8, chars}
use Rattle.std.proofs.lemmas.Bool.{lt-ltb, le-ltb, cases_lt}
use Rattle.std.proofs.lemmas.Grind.{flat_map-append}
use Rattle.std.proofs.lemmas.List.{append-nil}
use Rattle.std.proofs.lemmas.List.Folds.{length-flat_map-take}
use Rattle.std.proofs.lemmas.Str.{length-encode, len_utf8_bounds, encodes-chars}
use Rattle.std.proofs.Math.Utf8.{encode, encodes}

-- one unit or two, by the character's number
pub units_are : (c n : ℕ) → (c < 0x1_0000 → n ≡ 1) → (0x1_0000 ≤ c → n ≡ 2) → n ≡ length (encode_utf16 c)
units_are c n one two =
    elim (cases_lt c 0x1_0000) [
      | inl low ↦ rw (lt-ltb c 0x1_0000 low) (one low)
      | inr high ↦ rw (le-ltb c 0x1_0000 high) (two high)
    ]

-- a character takes no more units than bytes
unit_bound : (c : ℕ) → length (encode_utf16 c) ≤ len_utf8 c
unit_bound c =
    elim (cases_lt c 0x1_0000) [
      | inl low ↦ rw (lt-ltb c 0x1_0000 low) (rw (lt-ltb c 0x1_0000 low) at (len_utf8_bounds c).0)
      | inr high ↦ rw (le-ltb c 0x1_0000 high, le-ltb c 0x80 (omega arith), le-ltb c 0x800 (omega arith)) (omega arith)
    ]

units_bound : (cs : List ℕ) → length (flat_map encode_utf16 cs) ≤ length (encodes cs)
units_bound [] = omega arith
units_bound (c ∷ cs) =
    let first = unit_bound c in
    let size = length-encode c in
    let others = units_bound cs in
    let units = length-append (encode_utf16 c) (flat_map encode_utf16 cs) in
    let bytes = length-append (encode c) (encodes cs) in
    omega arith

-- a text has no more units than bytes
text_bound : (text : List ℕ) → IsUtf8 text → length (flat_map encode_utf16 (chars text)) ≤ length text
text_bound text valid = let e = ap length (encodes-chars text valid) in let bound = units_bound (chars text) in omega arith

-- nor have the first characters and the next one
pub next_bound : (text first : List ℕ) (c : ℕ) → IsUtf8 text → map (λ (x : ℕ). x) first ≡ take (length first) (chars text) → length first < length (chars text) → c ≡ get_or (chars text) (length first) c
    → length (flat_map encode_utf16 first) + length (encode_utf16 c) ≤ length text
next_bound text first c valid are within is =
    let all = text_bound text valid in
    let part = length-flat_map-take encode_utf16 (chars text) (length first) c within in
    let begun : length (flat_map encode_utf16 first) ≡ length (flat_map encode_utf16 (take (length first) (chars text))) = ap (λ l. length (flat_map encode_utf16 l)) (sym (map-id first) ∙ are) in
    let next : length (encode_utf16 c) ≡ length (encode_utf16 (get_or (chars text) (length first) c)) = ap (λ x. length (encode_utf16 x)) is in
    omega arith

pub all_bound : (text first : List ℕ) → IsUtf8 text → map (λ (x : ℕ). x) first ≡ chars text → length (flat_map encode_utf16 first) ≤ length text
all_bound text first valid are = let all = text_bound text valid in let same = ap (λ l. length (flat_map encode_utf16 l)) (sym (map-id first) ∙ are) in omega arith

pub units_more : (first : List ℕ) (c : ℕ) → length (flat_map encode_utf16 (first ++ c ∷ [])) ≡ length (flat_map encode_utf16 first) + length (encode_utf16 c)
units_more first c =
    ap length (flat_map-append encode_utf16 first (c ∷ []))
    ∙ length-append (flat_map encode_utf16 first) (encode_utf16 c ++ [])
    ∙ ap (λ l. length (flat_map encode_utf16 first) + length l) (append-nil (encode_utf16 c))

-- What UTF-8 stands for is UTF-8.
use Rattle.std.proofs.Common.{◌≡◌, ◌⊎◌, ℕ, ◌<◌, ◌≤◌, List, [], ◌∷◌, ◌++◌, length, map, Bool, true, false, cond, inl, inr, refl, ap, sym, ◌∙◌, subst, true≢false, ltb, leb, eqb, not, if◌then◌else◌, append_assoc, arith}
use Rattle.std.specs.Prelude.{◌&&◌, ◌||◌, codes}
use Rattle.std.specs.Char.{is_ascii_digit, is_ascii_hexdigit}
use Rattle.std.specs.List.{list_all}
use Rattle.std.specs.Str.{IsUtf8}
use lib.Utf8.{encode, encodes, scalar, scalars}
use Rattle.std.proofs.lemmas.Str.{IsUtf8-nil, IsUtf8-append, IsUtf8-encode, encode_ascii, length-encode, len_utf8_bounds}
use Rattle.flex_base.specs.Split.{Each}
use Rattle.mxml_items.specs.Pieces.{Piece, Written, Referred, Less, Greater, Ampersand, Quote, Apostrophe, IsNumbered, IsReference, may_be_named, is_scalar}
use Rattle.mxml_items.proofs.RunLaws.{both, head, tail, encode_passes}
use Rattle.mxml_items.proofs.References.{shape}
use Rattle.mxml_tree.specs.Values.{ArePiecesOf, StandsFor, text_of, value_of}
use Rattle.mxml_tree.proofs.Borders.{utf8_behind, one_ascii}
use Rattle.mxml_tree.proofs.Meanings.{Adds, adds, meant, read_is, reference_first}

-- a reference names a character
pub names_character : (c : ℕ) (bytes : List ℕ) → IsReference c bytes → scalar c ≡ true
names_character c bytes (inl (Less is _)) = ap scalar is
names_character c bytes (inl (Greater is _)) = ap scalar is
names_character c bytes (inl (Ampersand is _)) = ap scalar is
names_character c bytes (inl (Quote is _)) = ap scalar is
names_character c bytes (inl (Apostrophe is _)) = ap scalar is
names_character c bytes (inr r) = is_one (may r)
  where
    may : IsNumbered (codes "&#") is_ascii_digit 10 c bytes ⊎ IsNumbered (codes "&#x") is_ascii_hexdigit 16 c bytes → may_be_named c ≡ true
    may (inl n) = n.are_digits.may
    may (inr n) = n.are_digits.may

    below : (c : ℕ) → leb c 0x10_FFFF ≡ true → ltb c 1114112 ≡ true
    below c e = grind arith

    cases : (x y z u : Bool) → (z ≡ true → u ≡ true) → (x || (y && z)) ≡ true → cond x true (y && u) ≡ true
    cases true y z u turn e = refl
    cases false true z u turn e = turn e
    cases false false z u turn e = absurd (true≢false (sym e))

    is_one : may_be_named c ≡ true → scalar c ≡ true
    is_one e = cases (ltb c 0xD800) (leb 0xE000 c) (leb c 0x10_FFFF) (ltb c 1114112) (below c) (both (is_scalar c) (not (eqb c 0)) e).0

-- a piece that may be any byte, `&` too
abbrev pub IsAny : Piece → List ℕ → Type 0
IsAny (Written b) bytes = bytes ≡ b ∷ []
IsAny (Referred c) bytes = IsReference c bytes

pub any_pieces : (ps : List Piece) (bytes : List ℕ) → ArePiecesOf ps bytes → Each IsAny ps bytes
any_pieces [] bytes are = are
any_pieces (Written b ∷ ps) bytes are = record { front = are.front; back = are.back; is = are.is; first = are.first.0; second = any_pieces ps are.back are.second }
any_pieces (Referred c ∷ ps) bytes are = record { front = are.front; back = are.back; is = are.is; first = are.first; second = any_pieces ps are.back are.second }

pub any_bytes : (bytes : List ℕ) → Each IsAny (map Written bytes) bytes
any_bytes [] = refl
any_bytes (b ∷ bytes) = record { front = b ∷ []; back = bytes; is = refl; first = refl; second = any_bytes bytes }

-- the bytes of characters that aren't ASCII
abbrev is_high : ℕ → Bool
is_high b = not (ltb b 128)

from_high : (b : ℕ) → is_high b ≡ true → 128 ≤ b
from_high b e = grind arith

to_high : (b : ℕ) → 128 ≤ b → is_high b ≡ true
to_high b e = grind arith

order : (m n : ℕ) → (m < n) ⊎ (n ≤ m)
order m n = grind arith

-- what stands behind a byte of a character stands for the character's other bytes and UTF-8
abbrev GoesOn : Bool → Bool → List Piece → List ℕ → List ℕ → Type 0
GoesOn spaces behind_return ps begun rest = (out : List ℕ) × (meant spaces behind_return ps ≡ begun ++ out) × IsUtf8 out

module _ (spaces behind_return : Bool) (a c : ℕ) (ps : List Piece) (back rest : List ℕ) (is_one : scalar c ≡ true) (cut : encode c ++ rest ≡ a ∷ back) (are : Each IsAny ps back)
    (go_on : (begun : List ℕ) → list_all is_high begun ≡ true → Each IsAny ps (begun ++ rest) → GoesOn spaces (eqb a 13) ps begun rest) where
  put : Adds spaces behind_return a
  put = adds spaces behind_return a

  front_is_text : (front : List ℕ) → (front ≡ []) ⊎ ((b : ℕ) × (front ≡ b ∷ []) × (b < 128)) → IsUtf8 front
  front_is_text front (inl none) = subst IsUtf8 (sym none) IsUtf8-nil
  front_is_text front (inr (b, is, low)) = subst IsUtf8 (sym is) (one_ascii b low)

  of_ascii : c < 128 → c ∷ rest ≡ a ∷ back → GoesOn spaces behind_return (Written a ∷ ps) [] rest
  of_ascii low same =
      let (out, is, utf8) = go_on [] refl (subst (Each IsAny ps) (sym (ap tail same)) are) in
      (put.front ++ out, put.is ps ∙ ap (λ x. put.front ++ x) is, IsUtf8-append put.front out (front_is_text put.front (put.of_ascii (subst (λ n. n < 128) (ap (head 0) same) low))) utf8)

  of_others : (bytes : List ℕ) → encode c ≡ bytes → list_all is_high bytes ≡ true → bytes ++ rest ≡ a ∷ back → GoesOn spaces behind_return (Written a ∷ ps) [] rest
  of_others [] is high same =
      let none = ap length is in
      let long = length-encode c in
      let some = (len_utf8_bounds c).0 in
      absurd (omega (arith, none, long, some))
  of_others (b ∷ begun) is high same =
      let (now, more) = both (is_high b) (list_all is_high begun) high in
      let (out, was, utf8) = go_on begun more (subst (Each IsAny ps) (sym (ap tail same)) are) in
      let first : b ≡ a = ap (head 0) same in
      let front = put.of_others (subst (λ n. 128 ≤ n) first (from_high b now)) in (
        encode c ++ out,
        put.is ps ∙ ap (λ x. x ++ meant spaces (eqb a 13) ps) front ∙ ap (λ x. a ∷ x) was ∙ ap (λ n. n ∷ (begun ++ out)) (sym first) ∙ ap (λ x. x ++ out) (sym is),
        IsUtf8-append (encode c) out (IsUtf8-encode c is_one) utf8,
      )

  by_size : (c < 128) ⊎ (128 ≤ c) → GoesOn spaces behind_return (Written a ∷ ps) [] rest
  by_size (inl low) = of_ascii low (ap (λ x. x ++ rest) (sym (encode_ascii c low)) ∙ cut)
  by_size (inr more) = of_others (encode c) refl (encode_passes is_high to_high c (λ low. absurd (omega (arith, low, more)))) cut

-- what a text stands for of which the first character has begun
goes_on : (spaces behind_return : Bool) (ps : List Piece) (begun rest : List ℕ) → list_all is_high begun ≡ true → IsUtf8 rest → Each IsAny ps (begun ++ rest) → GoesOn spaces behind_return ps begun rest
goes_on spaces r [] [] rest high text are = ([], refl, IsUtf8-nil)
goes_on spaces r [] (b ∷ begun) rest high text are = absurd ((cc are))
goes_on spaces r (Referred c ∷ ps) (b ∷ begun) rest high text are =
    let first = ap (head 0) (are.is ∙ ap (λ x. x ++ are.back) (shape c are.front are.first).is) in
    let more = from_high b (both (is_high b) (list_all is_high begun) high).0 in
    absurd (omega (arith, first, more))
goes_on spaces r (Written a ∷ ps) (b ∷ begun) rest high text are =
    let cut = are.is ∙ ap (λ x. x ++ are.back) are.first in
    let same : b ≡ a = ap (head 0) cut in
    let (now, others) = both (is_high b) (list_all is_high begun) high in
    let (out, is, utf8) = goes_on spaces (eqb a 13) ps begun rest others text (subst (Each IsAny ps) (sym (ap tail cut)) are.second) in
    let put = adds spaces r a in
    let front = put.of_others (subst (λ n. 128 ≤ n) same (from_high b now)) in
    (out, put.is ps ∙ ap (λ x. x ++ meant spaces (eqb a 13) ps) front ∙ ap (λ x. a ∷ x) is ∙ ap (λ n. n ∷ (begun ++ out)) (sym same), utf8)
goes_on spaces r (Referred c ∷ ps) [] rest high text are =
    let s = shape c are.front are.first in
    let cut : rest ≡ (38 ∷ s.body) ++ (59 ∷ are.back) = are.is ∙ ap (λ x. x ++ are.back) s.is ∙ append_assoc (38 ∷ s.body) (59 ∷ []) are.back in
    let (out, is, utf8) = goes_on spaces false ps [] are.back refl (utf8_behind (38 ∷ s.body) 59 are.back (subst IsUtf8 cut text) (omega arith)) are.second in
    (encode c ++ out, reference_first spaces r c ps ∙ ap (λ x. encode c ++ x) is, IsUtf8-append (encode c) out (IsUtf8-encode c (names_character c are.front are.first)) utf8)
goes_on spaces r (Written a ∷ ps) [] rest high ([], text) are = (let none = text.1 ∙ are.is ∙ ap (λ x. x ++ are.back) are.first in absurd ((cc none)))
goes_on spaces r (Written a ∷ ps) [] rest high (c ∷ cs, text) are =
    let (is_one, others) = both (scalar c) (scalars cs) text.0 in
    by_size spaces r a c ps are.back (encodes cs) is_one (text.1 ∙ are.is ∙ ap (λ x. x ++ are.back) are.first) are.second
    (λ begun high next. goes_on spaces (eqb a 13) ps begun (encodes cs) high (cs, (others, refl)) next) (order c 128)

pub meant_is_utf8 : (spaces : Bool) (ps : List Piece) (text : List ℕ) → IsUtf8 text → Each IsAny ps text → IsUtf8 ((if spaces then value_of else text_of) ps)
meant_is_utf8 spaces ps text utf8 are =
    let (out, is, whole) = goes_on spaces false ps [] text refl utf8 are in
    subst IsUtf8 (sym (read_is spaces ps ∙ is)) whole

pub stands_for_utf8 : (spaces : Bool) (written meant : List ℕ) → IsUtf8 written → StandsFor (if spaces then value_of else text_of) written meant → IsUtf8 meant
stands_for_utf8 spaces written meant utf8 s = subst IsUtf8 (sym s.is) (meant_is_utf8 spaces s.pieces written utf8 (any_pieces s.pieces written s.are_pieces))

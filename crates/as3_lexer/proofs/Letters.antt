-- The letters of a text, one behind another.
use Rattle.std.proofs.Common.{◌≡◌, ℕ, zero, suc, ◌+◌, ◌-◌, ◌≤◌, List, [], ◌∷◌, length, take, drop, Some, None, refl, ap, sym, ◌∙◌, arith}
use Rattle.std.proofs.lemmas.List.{drop-drop, length-drop}
use Rattle.std.proofs.Math.Seq.{take-length}
use Rattle.as3_lexer.specs.Scanning.{letter_len, letters_len}

-- a letter goes on for so many bytes
pub letters_go_on : (quote left : ℕ) (text : List ℕ) → left ≤ length text → letters_len quote left text ≡ left + letters_len quote 0 (drop left text)
letters_go_on quote zero text fits = omega arith
letters_go_on quote (suc left) [] fits = absurd (omega arith)
letters_go_on quote (suc left) (byte ∷ text) fits = let others = letters_go_on quote left text (omega arith) in omega (arith, others)

-- one letter, and those behind it
pub letters_step : (quote len : ℕ) (text : List ℕ) → letter_len quote text ≡ Some len → 1 ≤ len → len ≤ length text → letters_len quote 0 text ≡ len + letters_len quote 0 (drop len text)
letters_step quote zero text is some fits = absurd (omega arith)
letters_step quote (suc len) [] is some fits = absurd (omega arith)
letters_step quote (suc len) (byte ∷ text) is some fits =
    let others = letters_go_on quote len text (omega arith) in
    let less : suc len - 1 ≡ len = omega arith in
    rw (is, less) (omega (arith, others))

-- no letter
pub letters_end : (quote : ℕ) (text : List ℕ) → letter_len quote text ≡ None → letters_len quote 0 text ≡ 0
letters_end quote [] is = refl
letters_end quote (byte ∷ text) is = rw is refl

-- what a slice from a place on is
pub from_place : (len : ℕ) (text : List ℕ) → take (length text - len) (drop len text) ≡ drop len text
from_place len text = rw (← length-drop len text) (take-length (drop len text))

-- so many bytes, and one letter more
pub letters_more : (quote len letter : ℕ) (text : List ℕ) → letters_len quote 0 text ≡ len + letters_len quote 0 (drop len text)
    → Some letter ≡ letter_len quote (take (length text - len) (drop len text)) → 1 ≤ letter → letter ≤ length (take (length text - len) (drop len text))
    → ((len + letter) ≤ length text) × (letters_len quote 0 text ≡ (len + letter) + letters_len quote 0 (drop (len + letter) text))
letters_more quote len letter text before is some within =
    let here : letter_len quote (drop len text) ≡ Some letter = sym (is ∙ ap (letter_len quote) (from_place len text)) in
    let fits : letter ≤ length (drop len text) = rw (from_place len text) at within in
    let step = letters_step quote letter (drop len text) here some fits in
    let rest = ap (letters_len quote 0) (drop-drop letter len text) in
    let long = length-drop len text in
    (omega (arith, fits, long, some), omega (arith, before, step, rest))

-- so many bytes, and no letter more
pub letters_done : (quote len : ℕ) (text : List ℕ) → letters_len quote 0 text ≡ len + letters_len quote 0 (drop len text)
    → None ≡ letter_len quote (take (length text - len) (drop len text)) → len ≡ letters_len quote 0 text
letters_done quote len text before is =
    let none = letters_end quote (drop len text) (sym (is ∙ ap (letter_len quote) (from_place len text))) in
    omega (arith, before, none)

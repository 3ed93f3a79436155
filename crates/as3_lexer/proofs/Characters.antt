-- The characters of a text that continue a word.
use Rattle.std.proofs.Common.{◌≡◌, ℕ, ◌+◌, List, [], ◌∷◌, ◌++◌, length, true, false, Some, refl, ap, sym, ◌∙◌, arith, length-append}
use Rattle.std.specs.Prelude.{IsUtf8, encode_utf8}
use Rattle.std.specs.Str.{chars}
use Rattle.std.proofs.lemmas.Str.{chars_past_char, IsUtf8-past_char, chars-nil}
use Rattle.as3_lexer.specs.Forms.{starts_word, continues_word}
use Rattle.as3_lexer.specs.Scanning.{continued_len, word_len, word_len_of}

-- at a character that continues a word, and at another
pub continued : (text rest : List ℕ) (c : ℕ) → IsUtf8 text → text ≡ encode_utf8 c ++ rest → continues_word c ≡ true → continued_len (chars text) ≡ length (encode_utf8 c) + continued_len (chars rest)
continued text rest c utf8 is continues = ap continued_len (chars_past_char text rest c utf8 is) ∙ rw continues refl

pub not_continued : (text rest : List ℕ) (c : ℕ) → IsUtf8 text → text ≡ encode_utf8 c ++ rest → continues_word c ≡ false → continued_len (chars text) ≡ 0
not_continued text rest c utf8 is ends = ap continued_len (chars_past_char text rest c utf8 is) ∙ rw ends refl

-- a front of a text and a rest, whose first character ends the word
pub ends_here : (text bytes rest : List ℕ) (len c : ℕ) → len + continued_len (chars bytes) ≡ continued_len (chars text) → IsUtf8 bytes → bytes ≡ encode_utf8 c ++ rest
    → continues_word c ≡ false → len ≡ continued_len (chars text)
ends_here text bytes rest len c so_far utf8 is ends = let none = not_continued bytes rest c utf8 is ends in omega (arith, so_far, none)

-- or goes on with it
pub goes_on : (text bytes rest : List ℕ) (len c size : ℕ) → len + continued_len (chars bytes) ≡ continued_len (chars text) → len + length bytes ≡ length text → IsUtf8 bytes
    → bytes ≡ encode_utf8 c ++ rest → continues_word c ≡ true → size ≡ length (encode_utf8 c)
    → ((len + size) + continued_len (chars rest) ≡ continued_len (chars text)) × ((len + size) + length rest ≡ length text) × IsUtf8 rest
goes_on text bytes rest len c size so_far long utf8 is continues sized =
    let more = continued bytes rest c utf8 is continues in
    let both = ap length is ∙ length-append (encode_utf8 c) rest in
    (omega (arith, so_far, more, sized), omega (arith, long, both, sized), IsUtf8-past_char bytes rest c utf8 is)

-- or there is none
pub none_continued : (text bytes : List ℕ) (len : ℕ) → len + continued_len (chars bytes) ≡ continued_len (chars text) → length bytes ≡ 0 → len ≡ continued_len (chars text)
none_continued text [] len so_far none = let nil = ap continued_len chars-nil in omega (arith, so_far, nil)
none_continued text (byte ∷ bytes) len so_far none = absurd (omega arith)

-- a word that begins with a character
pub word_is : (text rest : List ℕ) (c more size : ℕ) → IsUtf8 text → text ≡ encode_utf8 c ++ rest → starts_word c ≡ true → more ≡ continued_len (chars rest)
    → size ≡ length (encode_utf8 c) → Some (more + size) ≡ word_len text
word_is text rest c more size utf8 is starts goes sized =
    let len : more + size ≡ length (encode_utf8 c) + continued_len (chars rest) = omega (arith, goes, sized) in
    sym (ap word_len_of (chars_past_char text rest c utf8 is) ∙ rw (starts, ← len) refl)

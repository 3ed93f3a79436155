-- The text in quotation marks that begins a text.
use Rattle.std.proofs.Common.{◌≡◌, ℕ, zero, suc, ◌+◌, ◌<◌, ◌≤◌, List, [], ◌∷◌, ◌++◌, length, drop, Option, Some, None, Bool, true, false, cond, inl, inr, refl, ap, sym, ◌∙◌, subst, arith, length-append, append_assoc}
use Rattle.std.specs.Prelude.{◌||◌, ◌==◌, not, IsUtf8, codes}
use Rattle.std.specs.Bool.{then_some}
use Rattle.std.specs.List.{list_all, concat}
use Rattle.std.specs.Char.{is_ascii_hexdigit}
use Rattle.std.proofs.lemmas.Bool.Decides.{nat_tests}
use Rattle.std.proofs.Math.Seq.{drop-append_seam}
use Rattle.as3_lexer.specs.Forms.{IsLetter, Itself, Escaped, By_two_digits, By_four_digits, AreLetters, IsQuoted, IsText, is_plain, is_escaped, is_surrogate, code_of}
use Rattle.as3_lexer.specs.Scanning.{are_two_digits, are_four_digits, escape_len, letter_len, letters_len, is_first, closed_len, is_quote, text_len}
use Rattle.as3_lexer.proofs.Cuts.{IfCut, AtLeast, and_left, and_right, behind_ascii}
use Rattle.as3_lexer.proofs.Fronts.{same_byte}
use Rattle.as3_lexer.proofs.Letters.{letters_step, letters_end}

pub not_true : (b : Bool) → not b ≡ true → b ≡ false
not_true true is = cc
not_true false is = refl

pub or_left : (a b : Bool) → (a || b) ≡ false → a ≡ false
or_left true b is = is
or_left false b is = refl

pub or_right : (a b : Bool) → (a || b) ≡ false → b ≡ false
or_right true b is = cc
or_right false b is = is

-- a letter is read as one
letter_read : (quote : ℕ) (letter rest : List ℕ) → IsLetter quote letter → (letter_len quote (letter ++ rest) ≡ Some (length letter)) × (1 ≤ length letter)
letter_read quote letter rest (Itself byte plain is) =
    let no_mark = or_right (byte == 10) (byte == 92) (or_right (byte == quote) _ (not_true _ plain)) in
    rw is (rw (plain, no_mark) refl, omega arith)
letter_read quote letter rest (Escaped byte escaped is) =
    let others = or_right (byte == 10) _ (not_true _ escaped) in
    let no_x = or_left (byte == 120) (byte == 117) others in
    let no_u = or_right (byte == 120) (byte == 117) others in
    rw is (rw (escaped, no_x, no_u) refl, omega arith)
letter_read quote letter rest (By_two_digits a b digits is) = rw is (rw digits refl, omega arith)
letter_read quote letter rest (By_four_digits a b c d digits scalar is) = rw is (rw (digits, scalar) refl, omega arith)

-- a letter that begins a text
record Begins (quote len : ℕ) (text : List ℕ) : Type 0 where
  letter : List ℕ
  rest : List ℕ
  is : text ≡ letter ++ rest
  form : IsLetter quote letter
  long : length letter ≡ len
  some : 1 ≤ len

two_digits : (quote len : ℕ) (bytes : List ℕ) → then_some (are_two_digits bytes) 4 ≡ Some len → Begins quote len (92 ∷ 120 ∷ bytes)
two_digits quote len [] is = cc
two_digits quote len (a ∷ []) is = cc
two_digits quote len (a ∷ b ∷ bytes) is = go (list_all is_ascii_hexdigit (a ∷ b ∷ [])) refl is
  where
    go : (t : Bool) → list_all is_ascii_hexdigit (a ∷ b ∷ []) ≡ t → then_some t 4 ≡ Some len → Begins quote len (92 ∷ 120 ∷ a ∷ b ∷ bytes)
    go true digits found =
        let four : 4 ≡ len = cc in
        record { letter = codes "\\x" ++ a ∷ b ∷ []; rest = bytes; is = refl; form = By_two_digits a b digits refl; long = four; some = omega (arith, four) }
    go false digits found = cc

four_digits : (quote len : ℕ) (bytes : List ℕ) → then_some (are_four_digits bytes) 6 ≡ Some len → Begins quote len (92 ∷ 117 ∷ bytes)
four_digits quote len [] is = cc
four_digits quote len (a ∷ []) is = cc
four_digits quote len (a ∷ b ∷ []) is = cc
four_digits quote len (a ∷ b ∷ c ∷ []) is = cc
four_digits quote len (a ∷ b ∷ c ∷ d ∷ bytes) is = go (are_four_digits (a ∷ b ∷ c ∷ d ∷ bytes)) refl is
  where
    go : (t : Bool) → are_four_digits (a ∷ b ∷ c ∷ d ∷ bytes) ≡ t → then_some t 6 ≡ Some len → Begins quote len (92 ∷ 117 ∷ a ∷ b ∷ c ∷ d ∷ bytes)
    go true digits found =
        let six : 6 ≡ len = cc in
        let hexadecimal = and_left (list_all is_ascii_hexdigit (a ∷ b ∷ c ∷ d ∷ [])) (not (is_surrogate (code_of a b c d))) digits in
        let scalar = and_right (list_all is_ascii_hexdigit (a ∷ b ∷ c ∷ d ∷ [])) (not (is_surrogate (code_of a b c d))) digits in
        record { letter = codes "\\u" ++ a ∷ b ∷ c ∷ d ∷ []; rest = bytes; is = refl; form = By_four_digits a b c d hexadecimal scalar refl; long = six; some = omega (arith, six) }
    go false digits found = cc

one_byte : (quote len byte : ℕ) (bytes : List ℕ) (t : Bool) → is_escaped byte ≡ t → then_some t 2 ≡ Some len → Begins quote len (92 ∷ byte ∷ bytes)
one_byte quote len byte bytes true escaped found =
    let two : 2 ≡ len = cc in
    record { letter = 92 ∷ byte ∷ []; rest = bytes; is = refl; form = Escaped byte escaped refl; long = two; some = omega (arith, two) }
one_byte quote len byte bytes false escaped found = cc

escape_gives : (quote len : ℕ) (bytes : List ℕ) → escape_len bytes ≡ Some len → Begins quote len (92 ∷ bytes)
escape_gives quote len [] is = cc
escape_gives quote len (byte ∷ bytes) is = go (byte == 120) refl (byte == 117) refl is
  where
    go : (t : Bool) → (byte == 120) ≡ t → (u : Bool) → (byte == 117) ≡ u
        → cond t (then_some (are_two_digits bytes) 4) (cond u (then_some (are_four_digits bytes) 6) (then_some (is_escaped byte) 2)) ≡ Some len → Begins quote len (92 ∷ byte ∷ bytes)
    go true x u other found = rw (same_byte byte 120 x) (two_digits quote len bytes found)
    go false x true other found = rw (same_byte byte 117 other) (four_digits quote len bytes found)
    go false x false other found = one_byte quote len byte bytes (is_escaped byte) refl found

letter_gives : (quote len : ℕ) (text : List ℕ) → letter_len quote text ≡ Some len → Begins quote len text
letter_gives quote len [] is = cc
letter_gives quote len (byte ∷ bytes) is = go (byte == 92) refl is
  where
    plain : (t : Bool) → is_plain quote byte ≡ t → then_some t 1 ≡ Some len → Begins quote len (byte ∷ bytes)
    plain true itself found =
        let one : 1 ≡ len = cc in
        record { letter = byte ∷ []; rest = bytes; is = refl; form = Itself byte itself refl; long = one; some = omega (arith, one) }
    plain false itself found = cc

    go : (t : Bool) → (byte == 92) ≡ t → cond t (escape_len bytes) (then_some (is_plain quote byte) 1) ≡ Some len → Begins quote len (byte ∷ bytes)
    go true mark found = rw (same_byte byte 92 mark) (escape_gives quote len bytes found)
    go false mark found = plain (is_plain quote byte) refl found

-- letters one behind another, up to where none begins
record Letters (quote : ℕ) (text : List ℕ) : Type 0 where
  letters : List (List ℕ)
  rest : List ℕ
  is : text ≡ concat letters ++ rest
  are : AreLetters quote letters
  long : letters_len quote 0 text ≡ length (concat letters)

letters_found : (rounds quote : ℕ) (text : List ℕ) → length text ≤ rounds → Letters quote text
letters_found zero quote [] fits = record { letters = []; rest = []; is = refl; are = tt; long = refl }
letters_found zero quote (byte ∷ text) fits = absurd (omega arith)
letters_found (suc rounds) quote text fits = go (letter_len quote text) refl (λ (rest : List ℕ) (less : length rest ≤ rounds). letters_found rounds quote rest less)
  where
    go : (r : Option ℕ) → letter_len quote text ≡ r → ((rest : List ℕ) → length rest ≤ rounds → Letters quote rest) → Letters quote text
    go None none more = record { letters = []; rest = text; is = refl; are = tt; long = letters_end quote text none }
    go (Some len) found more =
        let begins = letter_gives quote len text found in
        let size = ap length begins.is ∙ length-append begins.letter begins.rest in
        let long = begins.long in
        let some = begins.some in
        let others = more begins.rest (omega (arith, size, long, some, fits)) in
        let step = letters_step quote len text found some (omega (arith, size, long)) in
        let behind : drop len text ≡ begins.rest = ap (λ n. drop n text) (sym long) ∙ ap (drop (length begins.letter)) begins.is ∙ drop-append_seam begins.letter begins.rest in
        let total = length-append begins.letter (concat others.letters) in
        record {
          letters = begins.letter ∷ others.letters;
          rest = others.rest;
          is = begins.is ∙ ap (λ t. begins.letter ++ t) others.is ∙ sym (append_assoc begins.letter (concat others.letters) others.rest);
          are = (begins.form, others.are);
          long = (let rest_long : letters_len quote 0 (drop len text) ≡ length (concat others.letters) = ap (letters_len quote 0) behind ∙ others.long in omega (arith, step, rest_long, total, long));
        }

quote_small : (quote : ℕ) → is_quote quote ≡ true → quote < 128
quote_small quote is = grind (arith, nat_tests)

text_form : (quote : ℕ) (bytes : List ℕ) → is_quote quote ≡ true → IsQuoted quote bytes → IsText bytes
text_form quote bytes is form = go (quote == 34) refl (quote == 39) refl is
  where
    go : (t : Bool) → (quote == 34) ≡ t → (u : Bool) → (quote == 39) ≡ u → (t || u) ≡ true → IsText bytes
    go true same u other is = inl (subst (λ q. IsQuoted q bytes) (same_byte quote 34 same) form)
    go false same true other is = inr (subst (λ q. IsQuoted q bytes) (same_byte quote 39 other) form)
    go false same false other is = cc

-- what is found is a text in quotation marks
pub text_found : (text : List ℕ) → IfCut IsText (text_len text) text
text_found [] = tt
text_found (quote ∷ text) = go (is_quote quote) refl
  where
    close : is_quote quote ≡ true → (found : Letters quote text) → (rest : List ℕ) → found.rest ≡ rest → IfCut IsText (then_some (is_first quote rest) (letters_len quote 0 text + 2)) (quote ∷ text)
    close is found [] same = tt
    close is found (byte ∷ rest) same = test (byte == quote) refl
      where
        test : (t : Bool) → (byte == quote) ≡ t → IfCut IsText (then_some t (letters_len quote 0 text + 2)) (quote ∷ text)
        test false other = tt
        test true closes =
            let byte_is : byte ≡ quote = same_byte byte quote closes in
            let whole : text ≡ concat found.letters ++ (quote ∷ rest) = found.is ∙ ap (λ t. concat found.letters ++ t) (same ∙ ap (λ b. b ∷ rest) byte_is) in
            let split : quote ∷ text ≡ (quote ∷ (concat found.letters ++ quote ∷ [])) ++ rest = ap (λ t. quote ∷ t) (whole ∙ sym (append_assoc (concat found.letters) (quote ∷ []) rest)) in
            record {
              front = quote ∷ (concat found.letters ++ quote ∷ []);
              back = rest;
              is = split;
              long = (let long = found.long in omega (arith, long, length-append (concat found.letters) (quote ∷ [])));
              form = text_form quote _ is (record { letters = found.letters; are = found.are; is = refl });
              utf8 = λ utf8. behind_ascii (quote ∷ concat found.letters) rest quote (quote_small quote is) (subst IsUtf8 (ap (λ t. quote ∷ t) whole) utf8);
            }

    rest_is : (found : Letters quote text) → drop (letters_len quote 0 text) text ≡ found.rest
    rest_is found = rw found.long (ap (drop (length (concat found.letters))) found.is ∙ drop-append_seam (concat found.letters) found.rest)

    go : (t : Bool) → is_quote quote ≡ t → IfCut IsText (cond t (closed_len quote text (letters_len quote 0 text)) None) (quote ∷ text)
    go false is = tt
    go true is =
        let found = letters_found (length text) quote text (omega arith) in
        rw (rest_is found) (close is found found.rest refl)

-- the letters of a text are read as they are
letters_read : (quote : ℕ) (letters : List (List ℕ)) (rest : List ℕ) → AreLetters quote letters → letter_len quote rest ≡ None → letters_len quote 0 (concat letters ++ rest) ≡ length (concat letters)
letters_read quote [] rest are none = letters_end quote rest none
letters_read quote (letter ∷ letters) rest are none =
    let (read, some) = letter_read quote letter (concat letters ++ rest) are.0 in
    let others = letters_read quote letters rest are.1 none in
    let size = length-append letter (concat letters ++ rest) in
    let step = letters_step quote (length letter) (letter ++ (concat letters ++ rest)) read some (omega (arith, size)) in
    let behind = ap (letters_len quote 0) (drop-append_seam letter (concat letters ++ rest)) in
    let total = length-append letter (concat letters) in
    rw (append_assoc letter (concat letters) rest) (omega (arith, step, behind, others, total))

quoted_covered : (quote : ℕ) (front back : List ℕ) → is_quote quote ≡ true → ((rest : List ℕ) → letter_len quote (quote ∷ rest) ≡ None) → (quote == quote) ≡ true → IsQuoted quote front
    → AtLeast (length front) (text_len (front ++ back))
quoted_covered quote front back is ends itself form =
    let read = letters_read quote form.letters (quote ∷ back) form.are (ends back) in
    let inner : (concat form.letters ++ quote ∷ []) ++ back ≡ concat form.letters ++ quote ∷ back = append_assoc (concat form.letters) (quote ∷ []) back in
    let behind : drop (length (concat form.letters)) (concat form.letters ++ quote ∷ back) ≡ quote ∷ back = drop-append_seam (concat form.letters) (quote ∷ back) in
    let size = length-append (concat form.letters) (quote ∷ []) in
    rw (form.is, is, inner, read, behind, itself) (omega (arith, size))

-- texts in quotation marks are found, and nothing longer is missed
pub text_covered : (front back : List ℕ) → IsText front → AtLeast (length front) (text_len (front ++ back))
text_covered front back (inl form) = quoted_covered 34 front back refl (λ rest. refl) refl form
text_covered front back (inr form) = quoted_covered 39 front back refl (λ rest. refl) refl form

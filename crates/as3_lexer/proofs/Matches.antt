-- The longest match at the front of a text: what is found is one, and each match is found or a longer one.
use Rattle.std.proofs.Common.{◌≡◌, ℕ, ◌+◌, ◌<◌, ◌≤◌, List, [], ◌∷◌, ◌++◌, length, take, Option, Some, None, Bool, true, false, inl, inr, refl, ap, sym, ◌∙◌, subst, arith, append_assoc}
use Rattle.std.specs.Prelude.{◌⊎◌, ◌≢◌, ◌&&◌, ◌||◌, ◌==◌, not, IsUtf8, encode_utf8, encode_utf8_all, codes, nat_lt}
use Rattle.std.specs.Option.{option_map}
use Rattle.std.specs.List.{list_all, prefix_len}
use Rattle.std.specs.Char.{is_ascii_digit, is_ascii_alphabetic}
use Rattle.std.proofs.lemmas.Bool.Decides.{nat_tests}
use Rattle.std.proofs.lemmas.Str.{chars_past_char, encode_ascii, char_from_byte}
use Rattle.std.proofs.Math.Seq.{take-append_seam}
use Rattle.unicode_ident.proofs.IdentLemmas.{is_xid_start-ascii}
use Rattle.as3_lexer.specs.declared.keyword.Keyword.{Keyword}
use Rattle.as3_lexer.specs.declared.mark.Mark.{Mark}
use Rattle.as3_lexer.specs.declared.mark.Mark.TheVariants as mark
use Rattle.as3_lexer.specs.declared.token.TokenKind.{TokenKind}
use Rattle.as3_lexer.specs.declared.token.TokenKind.TheVariants as kind
use Rattle.as3_lexer.specs.declared.scanning.Match.{Match}
use Rattle.as3_lexer.specs.Spelling.{keyword_of, mark_of, mark_spelling}
use Rattle.as3_lexer.specs.Forms.{IsWord, IsNumber, IsText, IsGap, is_blank, is_in_line, starts_word}
use Rattle.as3_lexer.specs.Tokens.{IsPiece, IsMatch}
use Rattle.as3_lexer.specs.Scanning.{behind, closing_place, gap_len, word_len, word_len_of, number_len, text_len, is_quote, word_kind, found, unless_comment, mark_match, or_mark, or_text, or_number, or_word, match_of}
use Rattle.as3_lexer.proofs.Cuts.{Cut, IfCut, AtLeast, and_left, and_right, behind_all_ascii}
use Rattle.as3_lexer.proofs.Gaps.{gap_found, gap_covered}
use Rattle.as3_lexer.proofs.Words.{word_found, word_covered}
use Rattle.as3_lexer.proofs.Numbers.{number_found, number_covered}
use Rattle.as3_lexer.proofs.Texts.{text_found, text_covered, not_true}
use Rattle.as3_lexer.proofs.Marks.{is_ascii_small, mark_ascii, is_other, mark_begins, mark_gives, mark_longest}
use Rattle.as3_lexer.proofs.Keywords.{keyword_itself, keyword_gives, keyword_none, no_keyword, keyword_word}

-- an ASCII byte that begins no word
abbrev begins_no_word : ℕ → Bool
begins_no_word byte = nat_lt byte 128 && not (is_ascii_alphabetic byte || ((byte == 36) || (byte == 95)))

ascii_word : (byte : ℕ) → begins_no_word byte ≡ true → starts_word byte ≡ false
ascii_word byte is =
    let small : byte < 128 = below byte is in
    rw (is_xid_start-ascii byte small) (not_true _ (and_right (nat_lt byte 128) _ is))
  where
    below : (byte : ℕ) → begins_no_word byte ≡ true → byte < 128
    below byte is = grind (arith, nat_tests)

no_word : (byte : ℕ) (rest : List ℕ) → begins_no_word byte ≡ true → IsUtf8 (byte ∷ rest) → word_len (byte ∷ rest) ≡ None
no_word byte rest is utf8 =
    let small : byte < 128 = below byte is in
    let spelled : byte ∷ rest ≡ encode_utf8 byte ++ rest = rw (encode_ascii byte small) refl in
    ap word_len_of (chars_past_char (byte ∷ rest) rest byte utf8 spelled) ∙ rw (ascii_word byte is) refl
  where
    below : (byte : ℕ) → begins_no_word byte ≡ true → byte < 128
    below byte is = grind (arith, nat_tests)

-- a byte with which neither white space nor a comment begins
abbrev begins_no_gap : ℕ → Bool
begins_no_gap byte = not (is_blank byte) && not (47 == byte)

no_gap : (byte : ℕ) (rest : List ℕ) → begins_no_gap byte ≡ true → gap_len (byte ∷ rest) ≡ None
no_gap byte rest is =
    let no_blank = not_true (is_blank byte) (and_left (not (is_blank byte)) (not (47 == byte)) is) in
    let no_slash = not_true (47 == byte) (and_right (not (is_blank byte)) (not (47 == byte)) is) in
    rw (no_blank, no_slash, no_slash) refl

no_number : (byte : ℕ) (rest : List ℕ) → is_ascii_digit byte ≡ false → number_len (byte ∷ rest) ≡ None
no_number byte rest is = rw (no_zero byte is, is) refl
  where
    no_zero : (byte : ℕ) → is_ascii_digit byte ≡ false → (48 == byte) ≡ false
    no_zero byte is = grind (arith, nat_tests)

no_text : (byte : ℕ) (rest : List ℕ) → is_quote byte ≡ false → text_len (byte ∷ rest) ≡ None
no_text byte rest is = rw is refl

-- what begins a word, a number or a text begins no white space and no comment
large_no_gap : (byte : ℕ) → 128 ≤ byte → begins_no_gap byte ≡ true
large_no_gap byte large = grind (arith, nat_tests)

letter_no_gap : (byte : ℕ) → (is_ascii_alphabetic byte || ((byte == 36) || (byte == 95))) ≡ true → begins_no_gap byte ≡ true
letter_no_gap byte is = grind (arith, nat_tests)

digit_no_gap : (byte : ℕ) → is_ascii_digit byte ≡ true → begins_no_gap byte ≡ true
digit_no_gap byte is = grind (arith, nat_tests)

digit_no_word : (byte : ℕ) → is_ascii_digit byte ≡ true → begins_no_word byte ≡ true
digit_no_word byte is = grind (arith, nat_tests)

-- a text that begins with a word begins with no white space and no comment
word_no_gap : (text more : List ℕ) (c : ℕ) → text ≡ encode_utf8 c ++ more → starts_word c ≡ true → gap_len text ≡ None
word_no_gap [] more c is starts = refl
word_no_gap (byte ∷ text) more c is starts = no_gap byte text (go (cases byte))
  where
    cases : (byte : ℕ) → (byte < 128) ⊎ (128 ≤ byte)
    cases byte = grind arith

    small : byte < 128 → begins_no_gap byte ≡ true
    small less =
        let same : c ≡ byte = char_from_byte (byte ∷ text) more c is less (omega arith) in
        letter_no_gap byte (rw (← is_xid_start-ascii byte less, ← same) starts)

    go : (byte < 128) ⊎ (128 ≤ byte) → begins_no_gap byte ≡ true
    go (inl less) = small less
    go (inr large) = large_no_gap byte large

-- a piece at the front of a text, as it was found
record Stands (m : Match) (text : List ℕ) : Type 0 where
  front : List ℕ
  back : List ℕ
  is : text ≡ front ++ back
  long : length front ≡ m.len
  piece : IsPiece m.kind front
  utf8 : IsUtf8 back

abbrev IfStands : Option Match → List ℕ → Type 0
IfStands None text = Unit {0}
IfStands (Some m) text = Stands m text

stands : (kind : Option TokenKind) (len : ℕ) (text : List ℕ) (P : List ℕ → Type 0) → IsUtf8 text → (cut : Cut P len text) → IsPiece kind cut.front → Stands (found kind len) text
stands kind len text P utf8 cut piece = record { front = cut.front; back = cut.back; is = cut.is; long = cut.long; piece = piece; utf8 = cut.utf8 utf8 }

mark_stands : (text : List ℕ) → IsUtf8 text → IfStands (mark_match text) text
mark_stands text utf8 = go (behind (codes "/*") text)
  where
    mark_is : (r : Option Mark) → mark_of text ≡ r → IfStands (option_map (λ m. found (Some (kind.Mark m)) (length (mark_spelling m))) r) text
    mark_is None is = tt
    mark_is (Some m) is =
        let (back, splits) = mark_gives text m is in
        record { front = mark_spelling m; back = back; is = splits; long = refl; piece = refl; utf8 = behind_all_ascii (λ byte. nat_lt byte 128) is_ascii_small (mark_spelling m) back (mark_ascii m) (subst IsUtf8 splits utf8) }

    go : (r : Option (List ℕ)) → IfStands (unless_comment r text) text
    go (Some _) = tt
    go None = mark_is (mark_of text) refl

text_stands : (text : List ℕ) → IsUtf8 text → (r : Option ℕ) → IfCut IsText r text → IfStands (or_mark r text) text
text_stands text utf8 (Some len) cut = stands (Some kind.Text) len text IsText utf8 cut cut.form
text_stands text utf8 None cut = mark_stands text utf8

number_stands : (text : List ℕ) → IsUtf8 text → (r : Option ℕ) → IfCut IsNumber r text → IfStands (or_text r text) text
number_stands text utf8 (Some len) cut = stands (Some kind.Number) len text IsNumber utf8 cut cut.form
number_stands text utf8 None cut = text_stands text utf8 (text_len text) (text_found text)

-- the word that was cut
front_is : (len : ℕ) (text front back : List ℕ) → text ≡ front ++ back → length front ≡ len → take len text ≡ front
front_is len text front back is long = ap (λ n. take n text) (sym long) ∙ ap (take (length front)) is ∙ take-append_seam front back

word_token : (front : List ℕ) → IsWord front → IsPiece (Some (word_kind (keyword_of front))) front
word_token front form = go (keyword_of front) refl
  where
    go : (r : Option Keyword) → keyword_of front ≡ r → IsPiece (Some (word_kind r)) front
    go None is = (form, keyword_none front is)
    go (Some k) is = keyword_gives front k is

word_stands : (text : List ℕ) → IsUtf8 text → (r : Option ℕ) → IfCut IsWord r text → IfStands (or_number r text) text
word_stands text utf8 (Some len) cut =
    let same = front_is len text cut.front cut.back cut.is cut.long in
    stands (Some (word_kind (keyword_of (take len text)))) len text IsWord utf8 cut (subst (λ word. IsPiece (Some (word_kind (keyword_of word))) cut.front) (sym same) (word_token cut.front cut.form))
word_stands text utf8 None cut = number_stands text utf8 (number_len text) (number_found text)

gap_stands : (text : List ℕ) → IsUtf8 text → (r : Option ℕ) → IfCut IsGap r text → IfStands (or_word r text) text
gap_stands text utf8 (Some len) cut = stands None len text IsGap utf8 cut cut.form
gap_stands text utf8 None cut = word_stands text utf8 (word_len text) (word_found text utf8)

-- what begins as a block comment is one, or nothing
slash_star : (rest : List ℕ) → IsUtf8 (47 ∷ 42 ∷ rest) → (m : Match) → match_of (47 ∷ 42 ∷ rest) ≡ Some m → 4 ≤ m.len
slash_star rest utf8 m is = go (closing_place rest) is
  where
    go : (r : Option ℕ) → or_word (option_map (λ place. place + 4) r) (47 ∷ 42 ∷ rest) ≡ Some m → 4 ≤ m.len
    go (Some place) read = let same : found None (place + 4) ≡ m = cc in rw (← same) (omega arith)
    go None read =
        let nothing : or_number (word_len (47 ∷ 42 ∷ rest)) (47 ∷ 42 ∷ rest) ≡ None = ap (λ r. or_number r (47 ∷ 42 ∷ rest)) (no_word 47 (42 ∷ rest) refl utf8) in
        cc

-- what is found is a match
pub record Matches (m : Match) (text : List ℕ) : Type 0 where
  pub front : List ℕ
  pub back : List ℕ
  pub is : text ≡ front ++ back
  pub long : length front ≡ m.len
  pub form : IsMatch m.kind front back
  pub utf8 : IsUtf8 back

pub match_found : (text : List ℕ) → IsUtf8 text → (m : Match) → match_of text ≡ Some m → Matches m text
match_found text utf8 m is = go (subst (λ r. IfStands r text) is (gap_stands text utf8 (gap_len text) (gap_found text)))
  where
    comment : (here : Stands m text) → here.front ≡ codes "/" → (rest : List ℕ) → here.back ≡ codes "*" ++ rest → ⊥
    comment here slash rest star =
        let whole : text ≡ 47 ∷ 42 ∷ rest = here.is ∙ ap (λ t. t ++ here.back) slash ∙ ap (λ t. 47 ∷ t) star in
        let least = slash_star rest (subst IsUtf8 whole utf8) m (ap match_of (sym whole) ∙ is) in
        let one = ap length slash in
        let long = here.long in
        omega (arith, least, one, long)

    go : Stands m text → Matches m text
    go here =
        record {
          front = here.front;
          back = here.back;
          is = here.is;
          long = here.long;
          form = record { piece = here.piece; no_comment = λ slash rest star. comment here slash rest star };
          utf8 = here.utf8;
        }

-- a match is found that is no shorter, and no other that is as long
pub record Covered (kind : Option TokenKind) (least : ℕ) (text : List ℕ) : Type 0 where
  pub best : Match
  pub is : match_of text ≡ Some best
  pub longest : least ≤ best.len
  pub one : least ≡ best.len → best.kind ≡ kind

gap_best : (front back : List ℕ) → IsGap front → Covered None (length front) (front ++ back)
gap_best front back form = go (gap_len (front ++ back)) refl (gap_covered front back form)
  where
    go : (r : Option ℕ) → gap_len (front ++ back) ≡ r → AtLeast (length front) r → Covered None (length front) (front ++ back)
    go None is least = absurd least
    go (Some len) is least = record { best = found None len; is = ap (λ r. or_word r (front ++ back)) is; longest = least; one = λ _. refl }

word_best : (front back : List ℕ) (kind : TokenKind) → IsWord front → word_kind (keyword_of front) ≡ kind → Covered (Some kind) (length front) (front ++ back)
word_best front back kind form kind_is = go (word_len (front ++ back)) refl (word_covered front back form)
  where
    splits : front ++ back ≡ encode_utf8 form.first ++ (encode_utf8_all form.others ++ back)
    splits = ap (λ t. t ++ back) form.spelled ∙ append_assoc (encode_utf8 form.first) (encode_utf8_all form.others) back

    no_blank : gap_len (front ++ back) ≡ None
    no_blank = word_no_gap (front ++ back) (encode_utf8_all form.others ++ back) form.first splits form.starts

    go : (r : Option ℕ) → word_len (front ++ back) ≡ r → AtLeast (length front) r → Covered (Some kind) (length front) (front ++ back)
    go None is least = absurd least
    go (Some len) is least =
        record {
          best = found (Some (word_kind (keyword_of (take len (front ++ back))))) len;
          is = ap (λ r. or_word r (front ++ back)) no_blank ∙ ap (λ r. or_number r (front ++ back)) is;
          longest = least;
          one = λ long. ap Some (ap word_kind (ap keyword_of (front_is len (front ++ back) front back refl long)) ∙ kind_is);
        }

-- the first byte of a number
record FirstDigit (front : List ℕ) : Type 0 where
  first : ℕ
  others : List ℕ
  is : front ≡ first ∷ others
  digit : is_ascii_digit first ≡ true

first_digit : (front : List ℕ) → IsNumber front → FirstDigit front
first_digit [] (inl form) = let some = form.some in absurd (omega (arith, some))
first_digit (byte ∷ front) (inl form) = record { first = byte; others = front; is = refl; digit = and_left (is_ascii_digit byte) (list_all is_ascii_digit front) form.pass }
first_digit front (inr form) = record { first = 48; others = 120 ∷ form.digits; is = form.is; digit = refl }

number_best : (front back : List ℕ) → IsUtf8 (front ++ back) → IsNumber front → Covered (Some kind.Number) (length front) (front ++ back)
number_best front back utf8 form = go (number_len (front ++ back)) refl (number_covered front back form)
  where
    first : FirstDigit front
    first = first_digit front form

    splits : front ++ back ≡ first.first ∷ (first.others ++ back)
    splits = ap (λ t. t ++ back) first.is

    no_blank : gap_len (front ++ back) ≡ None
    no_blank = ap gap_len splits ∙ no_gap first.first (first.others ++ back) (digit_no_gap first.first first.digit)

    no_letter : word_len (front ++ back) ≡ None
    no_letter = ap word_len splits ∙ no_word first.first (first.others ++ back) (digit_no_word first.first first.digit) (subst IsUtf8 splits utf8)

    go : (r : Option ℕ) → number_len (front ++ back) ≡ r → AtLeast (length front) r → Covered (Some kind.Number) (length front) (front ++ back)
    go None is least = absurd least
    go (Some len) is least =
        record {
          best = found (Some kind.Number) len;
          is = ap (λ r. or_word r (front ++ back)) no_blank ∙ ap (λ r. or_number r (front ++ back)) no_letter ∙ ap (λ r. or_text r (front ++ back)) is;
          longest = least;
          one = λ _. refl;
        }

-- a text in quotation marks begins with one
record FirstQuote (front : List ℕ) : Type 0 where
  first : ℕ
  others : List ℕ
  is : front ≡ first ∷ others
  no_blank : begins_no_gap first ≡ true
  no_letter : begins_no_word first ≡ true
  no_digit : is_ascii_digit first ≡ false

first_quote : (front : List ℕ) → IsText front → FirstQuote front
first_quote front (inl form) = record { first = 34; others = _; is = form.is; no_blank = refl; no_letter = refl; no_digit = refl }
first_quote front (inr form) = record { first = 39; others = _; is = form.is; no_blank = refl; no_letter = refl; no_digit = refl }

text_best : (front back : List ℕ) → IsUtf8 (front ++ back) → IsText front → Covered (Some kind.Text) (length front) (front ++ back)
text_best front back utf8 form = go (text_len (front ++ back)) refl (text_covered front back form)
  where
    first : FirstQuote front
    first = first_quote front form

    splits : front ++ back ≡ first.first ∷ (first.others ++ back)
    splits = ap (λ t. t ++ back) first.is

    no_blank : gap_len (front ++ back) ≡ None
    no_blank = ap gap_len splits ∙ no_gap first.first (first.others ++ back) first.no_blank

    no_letter : word_len (front ++ back) ≡ None
    no_letter = ap word_len splits ∙ no_word first.first (first.others ++ back) first.no_letter (subst IsUtf8 splits utf8)

    no_digit : number_len (front ++ back) ≡ None
    no_digit = ap number_len splits ∙ no_number first.first (first.others ++ back) first.no_digit

    go : (r : Option ℕ) → text_len (front ++ back) ≡ r → AtLeast (length front) r → Covered (Some kind.Text) (length front) (front ++ back)
    go None is least = absurd least
    go (Some len) is least =
        record {
          best = found (Some kind.Text) len;
          is = ap (λ r. or_word r (front ++ back)) no_blank ∙ ap (λ r. or_number r (front ++ back)) no_letter ∙ ap (λ r. or_text r (front ++ back)) no_digit ∙ ap (λ r. or_mark r (front ++ back)) is;
          longest = least;
          one = λ _. refl;
        }

-- what holds of the first byte of a mark
other_no_gap : (byte : ℕ) → is_other byte ≡ true → (47 == byte) ≡ false → begins_no_gap byte ≡ true
other_no_gap byte other slash = grind (arith, nat_tests)

other_no_word : (byte : ℕ) → is_other byte ≡ true → begins_no_word byte ≡ true
other_no_word byte other = grind (arith, nat_tests)

other_no_digit : (byte : ℕ) → is_other byte ≡ true → is_ascii_digit byte ≡ false
other_no_digit byte other = grind (arith, nat_tests)

other_no_quote : (byte : ℕ) → is_other byte ≡ true → is_quote byte ≡ false
other_no_quote byte other = grind (arith, nat_tests)

mark_best : (m : Mark) (back : List ℕ) → IsUtf8 (mark_spelling m ++ back) → gap_len (mark_spelling m ++ back) ≡ None → behind (codes "/*") (mark_spelling m ++ back) ≡ None
    → Covered (Some (kind.Mark m)) (length (mark_spelling m)) (mark_spelling m ++ back)
mark_best m back utf8 no_blank no_comment =
    let begins = mark_begins m in
    let text = mark_spelling m ++ back in
    let splits : mark_spelling m ++ back ≡ begins.first ∷ (begins.others ++ back) = ap (λ t. t ++ back) begins.is in
    let no_letter : word_len (mark_spelling m ++ back) ≡ None = ap word_len splits ∙ no_word begins.first (begins.others ++ back) (other_no_word begins.first begins.other) (subst IsUtf8 splits utf8) in
    let no_digit : number_len (mark_spelling m ++ back) ≡ None = ap number_len splits ∙ no_number begins.first (begins.others ++ back) (other_no_digit begins.first begins.other) in
    let no_quote : text_len (mark_spelling m ++ back) ≡ None = ap text_len splits ∙ no_text begins.first (begins.others ++ back) (other_no_quote begins.first begins.other) in
    let longest = mark_longest m back in
    record {
      best = found (Some (kind.Mark longest.best)) (length (mark_spelling longest.best));
      is = ap (λ r. or_word r (mark_spelling m ++ back)) no_blank ∙ ap (λ r. or_number r (mark_spelling m ++ back)) no_letter ∙ ap (λ r. or_text r (mark_spelling m ++ back)) no_digit
          ∙ ap (λ r. or_mark r (mark_spelling m ++ back)) no_quote ∙ ap (λ r. unless_comment r (mark_spelling m ++ back)) no_comment
          ∙ ap (option_map (λ mark. found (Some (kind.Mark mark)) (length (mark_spelling mark)))) longest.is;
      longest = longest.longest;
      one = λ long. ap (λ x. Some (kind.Mark x)) (longest.one long);
    }

-- the mark `/`, before what isn't `*`
slash_best : (back : List ℕ) → IsUtf8 (47 ∷ back) → ((rest : List ℕ) → back ≢ codes "*" ++ rest) → Covered (Some (kind.Mark mark.Slash)) 1 (47 ∷ back)
slash_best [] utf8 free = mark_best mark.Slash [] utf8 refl refl
slash_best (byte ∷ back) utf8 free = go (47 == byte) refl (42 == byte) refl
  where
    line : (47 == byte) ≡ true → Covered (Some (kind.Mark mark.Slash)) 1 (47 ∷ byte ∷ back)
    line slash =
        record {
          best = found None (prefix_len is_in_line back + 2);
          is = rw slash refl;
          longest = omega arith;
          one = λ long. absurd (omega arith);
        }

    same : (a b : ℕ) → (a == b) ≡ true → a ≡ b
    same a b is = grind (arith, nat_tests)

    go : (t : Bool) → (47 == byte) ≡ t → (u : Bool) → (42 == byte) ≡ u → Covered (Some (kind.Mark mark.Slash)) 1 (47 ∷ byte ∷ back)
    go true slash u star = line slash
    go false slash true star = absurd (free back (ap (λ b. b ∷ back) (sym (same 42 byte star))))
    go false slash false star = mark_best mark.Slash (byte ∷ back) utf8 (rw (slash, star) refl) (rw star refl)

-- a mark, where no comment might begin
abbrev IsMarkBest : List ℕ → Mark → Type 0
IsMarkBest back m = IsUtf8 (mark_spelling m ++ back) → (mark_spelling m ≡ codes "/" → (rest : List ℕ) → back ≢ codes "*" ++ rest) → Covered (Some (kind.Mark m)) (length (mark_spelling m)) (mark_spelling m ++ back)

slash_is_best : (back : List ℕ) → IsMarkBest back mark.Slash
slash_is_best back utf8 free = slash_best back utf8 (free refl)

any_mark_best : (m : Mark) (back : List ℕ) → IsMarkBest back m
any_mark_best m back utf8 free = go (mark_begins m).slash
  where
    splits : mark_spelling m ++ back ≡ (mark_begins m).first ∷ ((mark_begins m).others ++ back)
    splits = ap (λ t. t ++ back) (mark_begins m).is

    no_comment : (first : ℕ) (rest : List ℕ) → (47 == first) ≡ false → behind (codes "/*") (first ∷ rest) ≡ None
    no_comment first rest other = rw other refl

    go : ((47 == (mark_begins m).first) ≡ false) ⊎ (m ≡ mark.Slash) → Covered (Some (kind.Mark m)) (length (mark_spelling m)) (mark_spelling m ++ back)
    go (inl other) =
        mark_best m back utf8 (ap gap_len splits ∙ no_gap (mark_begins m).first ((mark_begins m).others ++ back) (other_no_gap (mark_begins m).first (mark_begins m).other other))
        (ap (behind (codes "/*")) splits ∙ no_comment (mark_begins m).first ((mark_begins m).others ++ back) other)
    go (inr same) = subst (IsMarkBest back) (sym same) (slash_is_best back) utf8 free

-- each match is found, or a longer one
pub match_covered : (kind : Option TokenKind) (front back : List ℕ) → IsUtf8 (front ++ back) → IsMatch kind front back → Covered kind (length front) (front ++ back)
match_covered None front back utf8 form = gap_best front back form.piece
match_covered (Some kind.Identifier) front back utf8 form = word_best front back kind.Identifier form.piece.0 (ap word_kind (no_keyword front form.piece.1))
match_covered (Some (kind.Keyword k)) front back utf8 form =
    word_best front back (kind.Keyword k) (subst IsWord (sym form.piece) (keyword_word k)) (ap word_kind (ap keyword_of form.piece ∙ keyword_itself k))
match_covered (Some kind.Number) front back utf8 form = number_best front back utf8 form.piece
match_covered (Some kind.Text) front back utf8 form = text_best front back utf8 form.piece
match_covered (Some (kind.Mark m)) front back utf8 form =
    subst (λ t. Covered (Some (kind.Mark m)) (length t) (t ++ back)) (sym form.piece)
    (any_mark_best m back (subst (λ t. IsUtf8 (t ++ back)) form.piece utf8) (λ slash. form.no_comment (form.piece ∙ slash)))

-- The longest match at the front of a text, by computing.
use Rattle.std.specs.Prelude.{◌≡◌, ℕ, ◌≤◌, ◌++◌, suc, zero, ◌+◌, ◌-◌, ◌==◌, ◌&&◌, ◌||◌, not, nat_lt, Bool, false, List, [], ◌∷◌, length, take, drop, codes, Option, None, Some, cond, encode_utf8}
use Rattle.std.specs.List.{list_all, prefix_len}
use Rattle.std.specs.Bool.{then_some}
use Rattle.std.specs.Option.{option_map, option_map_or}
use Rattle.std.specs.Str.{chars, IsUtf8, IsCharBoundary}
use Rattle.std.specs.Char.{is_ascii_digit, is_ascii_hexdigit}
use Rattle.as3_lexer.specs.declared.keyword.Keyword.{Keyword}
use Rattle.as3_lexer.specs.declared.token.TokenKind.{TokenKind}
use Rattle.as3_lexer.specs.declared.token.TokenKind.TheVariants as kind
use Rattle.as3_lexer.specs.declared.scanning.Match.{Match}
use Rattle.as3_lexer.specs.Spelling.{keyword_of, mark_of, mark_spelling}
use Rattle.as3_lexer.specs.Tokens.{IsLongest}
use Rattle.as3_lexer.specs.Forms.{is_blank, is_in_line, starts_word, continues_word, is_plain, is_escaped, code_of, is_surrogate}

-- a length, unless it is 0
abbrev pub if_some : ℕ → Option ℕ
if_some len = then_some (nat_lt 0 len) len

-- what stands behind a front of a text
abbrev pub behind : List ℕ → List ℕ → Option (List ℕ)
behind [] text = Some text
behind (byte ∷ front) [] = None
behind (byte ∷ front) (first ∷ text) = cond (byte == first) (behind front text) None

abbrev pub closing_place_or : Option (List ℕ) → Option ℕ → Option ℕ
closing_place_or (Some _) later = Some 0
closing_place_or None later = option_map (λ place. suc place) later

-- the place of the first `*/`
abbrev pub closing_place : List ℕ → Option ℕ
closing_place [] = None
closing_place (byte ∷ text) = closing_place_or (behind (codes "*/") (byte ∷ text)) (closing_place text)

abbrev pub block_comment_len : Option (List ℕ) → Option ℕ
block_comment_len None = None
block_comment_len (Some content) = option_map (λ place. place + 4) (closing_place content)

abbrev pub line_comment_len : Option (List ℕ) → List ℕ → Option ℕ
line_comment_len None text = block_comment_len (behind (codes "/*") text)
line_comment_len (Some content) text = Some (prefix_len is_in_line content + 2)

abbrev pub comment_len : List ℕ → Option ℕ
comment_len text = line_comment_len (behind (codes "//") text) text

-- the length of the white space or the comment that begins a text
abbrev pub gap_len : List ℕ → Option ℕ
gap_len text = cond (nat_lt 0 (prefix_len is_blank text)) (Some (prefix_len is_blank text)) (comment_len text)

-- the length of the characters at the front that continue a word
abbrev pub continued_len : List ℕ → ℕ
continued_len [] = 0
continued_len (c ∷ cs) = cond (continues_word c) (length (encode_utf8 c) + continued_len cs) 0

abbrev pub word_len_of : List ℕ → Option ℕ
word_len_of [] = None
word_len_of (c ∷ cs) = then_some (starts_word c) (length (encode_utf8 c) + continued_len cs)

-- the length of the word that begins a text
abbrev pub word_len : List ℕ → Option ℕ
word_len text = word_len_of (chars text)

abbrev pub hexadecimal_len : Option (List ℕ) → Option ℕ
hexadecimal_len None = None
hexadecimal_len (Some digits) = then_some (nat_lt 0 (prefix_len is_ascii_hexdigit digits)) (prefix_len is_ascii_hexdigit digits + 2)

abbrev pub or_decimal : Option ℕ → List ℕ → Option ℕ
or_decimal (Some len) text = Some len
or_decimal None text = if_some (prefix_len is_ascii_digit text)

-- the length of the number that begins a text
abbrev pub number_len : List ℕ → Option ℕ
number_len text = or_decimal (hexadecimal_len (behind (codes "0x") text)) text

abbrev pub are_two_digits : List ℕ → Bool
are_two_digits (a ∷ b ∷ bytes) = list_all is_ascii_hexdigit (a ∷ b ∷ [])
are_two_digits _ = false

-- four digits that name no surrogate
abbrev pub are_four_digits : List ℕ → Bool
are_four_digits (a ∷ b ∷ c ∷ d ∷ bytes) = list_all is_ascii_hexdigit (a ∷ b ∷ c ∷ d ∷ []) && not (is_surrogate (code_of a b c d))
are_four_digits _ = false

-- the length of the escape whose `\` stands before these bytes
abbrev pub escape_len : List ℕ → Option ℕ
escape_len [] = None
escape_len (byte ∷ bytes) = cond (byte == 120) (then_some (are_two_digits bytes) 4) (cond (byte == 117) (then_some (are_four_digits bytes) 6) (then_some (is_escaped byte) 2))

-- the length of the letter of a text that begins here
abbrev pub letter_len : ℕ → List ℕ → Option ℕ
letter_len quote [] = None
letter_len quote (byte ∷ bytes) = cond (byte == 92) (escape_len bytes) (then_some (is_plain quote byte) 1)

-- a letter goes on for so many bytes, or another begins, if any does: the length of them all
abbrev pub letters_len : ℕ → ℕ → List ℕ → ℕ
letters_len quote (suc left) (byte ∷ bytes) = suc (letters_len quote left bytes)
letters_len quote (suc left) [] = 0
letters_len quote zero [] = 0
letters_len quote zero (byte ∷ bytes) = option_map_or (λ len. suc (letters_len quote (len - 1) bytes)) (letter_len quote (byte ∷ bytes)) 0

-- whether a byte begins these
abbrev pub is_first : ℕ → List ℕ → Bool
is_first byte [] = false
is_first byte (first ∷ bytes) = first == byte

abbrev pub closed_len : ℕ → List ℕ → ℕ → Option ℕ
closed_len quote bytes len = then_some (is_first quote (drop len bytes)) (len + 2)

abbrev pub is_quote : ℕ → Bool
is_quote byte = (byte == 34) || (byte == 39)

-- the length of the text in quotation marks that begins here
abbrev pub text_len : List ℕ → Option ℕ
text_len [] = None
text_len (quote ∷ bytes) = cond (is_quote quote) (closed_len quote bytes (letters_len quote 0 bytes)) None

abbrev pub found : Option TokenKind → ℕ → Match
found kind len = record { kind = kind; len = len }

-- the kind of a word
abbrev pub word_kind : Option Keyword → TokenKind
word_kind None = kind.Identifier
word_kind (Some keyword) = kind.Keyword keyword

abbrev pub unless_comment : Option (List ℕ) → List ℕ → Option Match
unless_comment (Some _) text = None
unless_comment None text = option_map (λ mark. found (Some (kind.Mark mark)) (length (mark_spelling mark))) (mark_of text)

-- where a block comment might begin, and isn't closed, no mark begins
abbrev pub mark_match : List ℕ → Option Match
mark_match text = unless_comment (behind (codes "/*") text) text

abbrev pub or_mark : Option ℕ → List ℕ → Option Match
or_mark (Some len) text = Some (found (Some kind.Text) len)
or_mark None text = mark_match text

abbrev pub or_text : Option ℕ → List ℕ → Option Match
or_text (Some len) text = Some (found (Some kind.Number) len)
or_text None text = or_mark (text_len text) text

abbrev pub or_number : Option ℕ → List ℕ → Option Match
or_number (Some len) text = Some (found (Some (word_kind (keyword_of (take len text)))) len)
or_number None text = or_text (number_len text) text

abbrev pub or_word : Option ℕ → List ℕ → Option Match
or_word (Some len) text = Some (found None len)
or_word None text = or_number (word_len text) text

-- the longest match at the front of a text
abbrev pub match_of : List ℕ → Option Match
match_of text = or_word (gap_len text) text

-- what was found is the longest match at the front of a text, which may be cut behind it
pub record Begins (m : Match) (text : List ℕ) : Type 0 where
  pub front : List ℕ
  pub back : List ℕ
  pub is : text ≡ front ++ back
  pub long : length front ≡ m.len
  pub some : 1 ≤ m.len
  pub within : m.len ≤ length text
  pub longest : IsLongest m.kind front back
  pub utf8 : IsUtf8 back
  pub boundary : IsCharBoundary text m.len

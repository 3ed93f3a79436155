-- The forms of tokens, and of what separates them: which bytes each has.
use Rattle.std.specs.Prelude.{◌≡◌, ◌≢◌, ◌⊎◌, ℕ, ◌+◌, ◌*◌, ◌≤◌, ◌==◌, ◌&&◌, ◌||◌, not, nat_le, Bool, true, List, [], ◌∷◌, ◌++◌, length, codes, encode_utf8_all}
use Rattle.std.specs.List.{list_all, concat}
use Rattle.std.specs.Str.{all_scalars}
use Rattle.std.specs.Char.{is_ascii_digit, is_ascii_hexdigit, digit_value}
use Rattle.unicode_ident.specs.Ident.{is_xid_start, is_xid_continue}
use Rattle.as3_lexer.specs.declared.keyword.Keyword.{Keyword}
use Rattle.as3_lexer.specs.declared.token.TokenKind.{TokenKind}
use Rattle.as3_lexer.specs.declared.token.TokenKind.TheVariants as kind
use Rattle.as3_lexer.specs.Spelling.{keyword_spelling, mark_spelling}

-- one or more bytes that each pass a test
pub record AreSome (test : ℕ → Bool) (bytes : List ℕ) : Type 0 where
  pub some : 1 ≤ length bytes
  pub pass : list_all test bytes ≡ true

-- space, tab, LF, CR and FF
abbrev pub is_blank : ℕ → Bool
is_blank byte = ((byte == 32) || (byte == 9)) || (((byte == 10) || (byte == 13)) || (byte == 12))

-- a byte that ends no line
abbrev pub is_in_line : ℕ → Bool
is_in_line byte = not (byte == 10)

-- the characters that begin a word, and those that continue it
abbrev pub starts_word : ℕ → Bool
starts_word c = is_xid_start c || ((c == 36) || (c == 95))

abbrev pub continues_word : ℕ → Bool
continues_word c = is_xid_continue c || (c == 36)

-- the UTF-8 of a character that begins a word, and of others that continue it
pub record IsWord (bytes : List ℕ) : Type 0 where
  pub first : ℕ
  pub others : List ℕ
  pub characters : all_scalars (first ∷ others) ≡ true
  pub spelled : bytes ≡ encode_utf8_all (first ∷ others)
  pub starts : starts_word first ≡ true
  pub continues : list_all continues_word others ≡ true

-- `0x` and hexadecimal digits
pub record IsHexadecimal (bytes : List ℕ) : Type 0 where
  pub digits : List ℕ
  pub is : bytes ≡ codes "0x" ++ digits
  pub some : AreSome is_ascii_hexdigit digits

abbrev pub IsNumber : List ℕ → Type 0
IsNumber bytes = AreSome is_ascii_digit bytes ⊎ IsHexadecimal bytes

-- a byte that stands for itself between such quotation marks: neither the mark nor LF nor `\`
abbrev pub is_plain : ℕ → ℕ → Bool
is_plain quote byte = not ((byte == quote) || ((byte == 10) || (byte == 92)))

-- the first byte of a character that may stand behind `\` by itself: any but LF, `x` and `u`
abbrev pub is_escaped : ℕ → Bool
is_escaped byte = not ((byte == 10) || ((byte == 120) || (byte == 117)))

-- the number that four hexadecimal digits give
abbrev pub code_of : ℕ → ℕ → ℕ → ℕ → ℕ
code_of a b c d = ((digit_value a * 16 + digit_value b) * 16 + digit_value c) * 16 + digit_value d

abbrev pub is_surrogate : ℕ → Bool
is_surrogate code = nat_le 0xD800 code && nat_le code 0xDFFF

-- a letter of a text: a byte that stands for itself, or an escape. Of a character with more bytes
-- behind `\` the escape has the first, and the others stand for themselves
pub data IsLetter (quote : ℕ) (bytes : List ℕ) : Type 0 where
  Itself : (byte : ℕ) → is_plain quote byte ≡ true → bytes ≡ byte ∷ [] → IsLetter quote bytes
  Escaped : (byte : ℕ) → is_escaped byte ≡ true → bytes ≡ 92 ∷ byte ∷ [] → IsLetter quote bytes
  By_two_digits : (a b : ℕ) → list_all is_ascii_hexdigit (a ∷ b ∷ []) ≡ true → bytes ≡ codes "\\x" ++ a ∷ b ∷ [] → IsLetter quote bytes
  By_four_digits : (a b c d : ℕ) → list_all is_ascii_hexdigit (a ∷ b ∷ c ∷ d ∷ []) ≡ true → not (is_surrogate (code_of a b c d)) ≡ true
      → bytes ≡ codes "\\u" ++ a ∷ b ∷ c ∷ d ∷ [] → IsLetter quote bytes

abbrev pub AreLetters : ℕ → List (List ℕ) → Type 0
AreLetters quote [] = Unit {0}
AreLetters quote (letter ∷ letters) = IsLetter quote letter × AreLetters quote letters

-- letters between two such quotation marks
pub record IsQuoted (quote : ℕ) (bytes : List ℕ) : Type 0 where
  pub letters : List (List ℕ)
  pub are : AreLetters quote letters
  pub is : bytes ≡ quote ∷ (concat letters ++ quote ∷ [])

-- in quotation marks or in apostrophes
abbrev pub IsText : List ℕ → Type 0
IsText bytes = IsQuoted 34 bytes ⊎ IsQuoted 39 bytes

-- the bytes are a token of this kind
abbrev pub IsToken : TokenKind → List ℕ → Type 0
IsToken kind.Identifier bytes = IsWord bytes × ((keyword : Keyword) → bytes ≢ keyword_spelling keyword)
IsToken (kind.Keyword keyword) bytes = bytes ≡ keyword_spelling keyword
IsToken kind.Number bytes = IsNumber bytes
IsToken kind.Text bytes = IsText bytes
IsToken (kind.Mark mark) bytes = bytes ≡ mark_spelling mark

-- `//` and what follows in the line
pub record IsLineComment (bytes : List ℕ) : Type 0 where
  pub content : List ℕ
  pub is : bytes ≡ codes "//" ++ content
  pub in_line : list_all is_in_line content ≡ true

-- from `/*` to the first `*/`
pub record IsBlockComment (bytes : List ℕ) : Type 0 where
  pub content : List ℕ
  pub is : bytes ≡ codes "/*" ++ (content ++ codes "*/")
  -- any other `*/` stands no earlier
  pub first : (front back : List ℕ) → content ++ codes "*/" ≡ front ++ (codes "*/" ++ back) → length content ≤ length front

-- white space or a comment
abbrev pub IsGap : List ℕ → Type 0
IsGap bytes = AreSome is_blank bytes ⊎ (IsLineComment bytes ⊎ IsBlockComment bytes)

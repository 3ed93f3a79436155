-- What a text or the value of an attribute is written with: bytes and references.
use Rattle.std.specs.Prelude.{◌≡◌, ◌≢◌, ◌⊎◌, ◌≤◌, ℕ, ◌+◌, ◌*◌, ◌==◌, nat_lt, nat_le, ◌&&◌, ◌||◌, not, Bool, List, [], ◌∷◌, ◌++◌, length, Option, Some, None, IsTrue, codes}
use Rattle.std.specs.List.{fold, list_all}
use Rattle.std.specs.Char.{is_ascii_digit, is_ascii_hexdigit, digit_value}
use Rattle.flex_base.specs.Split.{Each}

pub data Piece : Type 0 where
  Written : (b : ℕ) → Piece
  -- a reference to a character
  Referred : (c : ℕ) → Piece

abbrev pub is_white : ℕ → Bool
is_white b = ((b == 32) || (b == 9)) || ((b == 10) || (b == 13))

-- the references by name, and the characters that they name
pub data IsNamed (c : ℕ) (bytes : List ℕ) : Type 0 where
  Less : c ≡ 60 → bytes ≡ codes "&lt;" → IsNamed c bytes
  Greater : c ≡ 62 → bytes ≡ codes "&gt;" → IsNamed c bytes
  Ampersand : c ≡ 38 → bytes ≡ codes "&amp;" → IsNamed c bytes
  Quote : c ≡ 34 → bytes ≡ codes "&quot;" → IsNamed c bytes
  Apostrophe : c ≡ 39 → bytes ≡ codes "&apos;" → IsNamed c bytes

-- what digits stand for in a base
abbrev pub number_of : ℕ → List ℕ → ℕ
number_of base digits = fold (λ n digit. n * base + digit_value digit) 0 digits

-- the number of a character: at most 10FFFF, and not D800 to DFFF
abbrev pub is_scalar : ℕ → Bool
is_scalar c = nat_lt c 0xD800 || (nat_le 0xE000 c && nat_le c 0x10_FFFF)

-- what a reference may name: a character other than 0
abbrev pub may_be_named : ℕ → Bool
may_be_named c = is_scalar c && not (c == 0)

-- digits of a base that stand for what may be named
pub record AreDigits (is_digit : ℕ → Bool) (base c : ℕ) (digits : List ℕ) : Type 0 where
  pub not_empty : 1 ≤ length digits
  pub pass : IsTrue (list_all is_digit digits)
  pub names_it : number_of base digits ≡ c
  pub may : IsTrue (may_be_named c)

-- digits of a base between an opening and `;`
pub record IsNumbered (opening : List ℕ) (is_digit : ℕ → Bool) (base c : ℕ) (bytes : List ℕ) : Type 0 where
  pub digits : List ℕ
  pub is : bytes ≡ opening ++ (digits ++ codes ";")
  pub are_digits : AreDigits is_digit base c digits

abbrev pub IsReference : ℕ → List ℕ → Type 0
IsReference c bytes = IsNamed c bytes ⊎ IsNumbered (codes "&#") is_ascii_digit 10 c bytes ⊎ IsNumbered (codes "&#x") is_ascii_hexdigit 16 c bytes

-- a byte that isn't `&` and passes a test, or a reference
abbrev pub IsPiece : (ℕ → Bool) → Piece → List ℕ → Type 0
IsPiece test (Written b) bytes = (bytes ≡ b ∷ []) × IsTrue (test b) × (b ≢ 38)
IsPiece test (Referred c) bytes = IsReference c bytes

-- one piece behind another
abbrev pub ArePieces : (ℕ → Bool) → List Piece → List ℕ → Type 0
ArePieces test pieces bytes = Each (IsPiece test) pieces bytes

-- a byte that may be written in a value between such quotes, and one in a text
abbrev pub is_in_value : ℕ → ℕ → Bool
is_in_value quote b = not ((b == quote) || (b == 60))

abbrev pub is_in_text : ℕ → Bool
is_in_text b = not (b == 60)

-- which bytes may be written: between quotes, or in a text
abbrev pub may_be_written : Option ℕ → ℕ → Bool
may_be_written None b = is_in_text b
may_be_written (Some quote) b = is_in_value quote b

-- a reference at the front of a text
pub record BeginsWithReference (text : List ℕ) (c : ℕ) (rest : List ℕ) : Type 0 where
  pub bytes : List ℕ
  pub is : text ≡ bytes ++ rest
  pub is_reference : IsReference c bytes

abbrev pub HasNoReference : List ℕ → Type 0
HasNoReference text = (c : ℕ) (rest : List ℕ) → ¬ (BeginsWithReference text c rest)

-- a reference by name at the front of a text
pub record BeginsWithNamed (text : List ℕ) (c : ℕ) (rest : List ℕ) : Type 0 where
  pub bytes : List ℕ
  pub is : text ≡ bytes ++ rest
  pub is_named : IsNamed c bytes

abbrev pub HasNoNamed : List ℕ → Type 0
HasNoNamed text = (c : ℕ) (rest : List ℕ) → ¬ (BeginsWithNamed text c rest)

-- digits of a base and `;` at the front of a text
pub record BeginsWithDigits (is_digit : ℕ → Bool) (base : ℕ) (text : List ℕ) (c : ℕ) (rest : List ℕ) : Type 0 where
  pub digits : List ℕ
  pub is : text ≡ digits ++ (codes ";" ++ rest)
  pub are_digits : AreDigits is_digit base c digits

abbrev pub HasNoDigits : (ℕ → Bool) → ℕ → List ℕ → Type 0
HasNoDigits is_digit base text = (c : ℕ) (rest : List ℕ) → ¬ (BeginsWithDigits is_digit base text c rest)

-- what digits stand for, where it may be named
pub record NamesCharacter (base c : ℕ) (digits : List ℕ) : Type 0 where
  pub not_empty : 1 ≤ length digits
  pub names_it : number_of base digits ≡ c
  pub may : IsTrue (may_be_named c)

-- no piece begins a text
abbrev pub HasNoPiece : (ℕ → Bool) → List ℕ → Type 0
HasNoPiece test text = (piece : Piece) (bytes rest : List ℕ) → text ≡ bytes ++ rest → ¬ (IsPiece test piece bytes)

-- some pieces at the front of a text, and what stands behind them
pub record BeginsWithPieces (test : ℕ → Bool) (text rest : List ℕ) : Type 0 where
  pub front : List ℕ
  pub pieces : List Piece
  pub is : text ≡ front ++ rest
  pub are_pieces : ArePieces test pieces front

-- all pieces at the front of a text, and what stands behind them
pub record IsWritten (test : ℕ → Bool) (text front rest : List ℕ) : Type 0 where
  pub pieces : List Piece
  pub is : text ≡ front ++ rest
  pub are_pieces : ArePieces test pieces front
  pub no_more : HasNoPiece test rest

abbrev pub NamesNothing : ℕ → List ℕ → Type 0
NamesNothing base digits = (c : ℕ) → ¬ (NamesCharacter base c digits)

-- pieces at the front of a text, behind which stands no byte that is written as it is
pub record IsPlain (test : ℕ → Bool) (text rest : List ℕ) : Type 0 where
  pub begins : BeginsWithPieces test text rest
  pub stops : (b : ℕ) (others : List ℕ) → rest ≡ b ∷ others → IsTrue (test b) → b ≢ 38 → ⊥

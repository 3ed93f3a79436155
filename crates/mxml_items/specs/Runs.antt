-- Runs: as many bytes of a kind as stand one behind another.
use Rattle.std.specs.Prelude.{◌≡◌, ◌≢◌, ◌≤◌, length, ℕ, ◌==◌, nat_lt, ◌&&◌, ◌||◌, not, Bool, List, [], ◌∷◌, ◌++◌, IsTrue, IsFalse}
use Rattle.std.specs.List.{list_all}
use Rattle.std.specs.Char.{is_ascii_alphabetic, is_ascii_digit, is_ascii_hexdigit}
use Rattle.mxml_items.specs.declared.bytes.ByteKind.{ByteKind}
use Rattle.mxml_items.specs.declared.bytes.ByteKind.TheVariants as kind
use Rattle.mxml_items.specs.Pieces.{is_white}

-- the bytes that the characters of a part of a name have: all that belong to no ASCII character, and those of some
abbrev pub is_in_part : ℕ → Bool
is_in_part b = ((((not (nat_lt b 128) || is_ascii_alphabetic b) || is_ascii_digit b) || (b == 95)) || (b == 45)) || (b == 46)

-- the same with the `:` between two parts
abbrev pub is_in_name : ℕ → Bool
is_in_name b = is_in_part b || (b == 58)

abbrev pub takes : ByteKind → ℕ → Bool
takes kind.White b = is_white b
takes kind.Name b = is_in_name b
takes kind.Decimal b = is_ascii_digit b
takes kind.Hexadecimal b = is_ascii_hexdigit b
takes kind.Plain b = not (b == 60) && not (b == 38)
takes (kind.PlainExcept quote) b = (not (b == 60) && not (b == 38)) && not (b == quote)

-- no byte of a kind begins a text
abbrev pub StopsAt : (ℕ → Bool) → List ℕ → Type 0
StopsAt test [] = Unit {0}
StopsAt test (b ∷ bytes) = IsFalse (test b)

-- all bytes of a kind at the front of a text, and what stands behind them
pub record IsRun (test : ℕ → Bool) (text front rest : List ℕ) : Type 0 where
  pub is : text ≡ front ++ rest
  pub pass : IsTrue (list_all test front)
  pub stops : StopsAt test rest

-- a mark stands nowhere in a text
abbrev pub Lacks : List ℕ → List ℕ → Type 0
Lacks mark text = (front back : List ℕ) → text ≢ front ++ (mark ++ back)

-- a text is split at the first place of a mark
pub record SplitsAt (mark text front rest : List ℕ) : Type 0 where
  pub is : text ≡ front ++ (mark ++ rest)
  pub first : (other back : List ℕ) → text ≡ other ++ (mark ++ back) → length front ≤ length other

-- What is known of the tokens that are left, where all of them make a sentence.
use Rattle.std.specs.Prelude.{◌≡◌, ℕ, ◌+◌, suc, ◌<◌, ◌≤◌, List, ◌++◌, length, drop, slice_get, Option, Some, option_map}
use Rattle.std.specs.Str.{IsCharBoundary}
use Rattle.as3_lexer.specs.declared.token.Token.{Token}
use Rattle.as3_lexer.specs.declared.token.TokenKind.{TokenKind}
use Rattle.as3_parser.specs.Grammar.{Symbol}
use Rattle.as3_parser.specs.Derives.{Derives}
use Rattle.as3_parser.specs.Judged.{Shallow}
use Rattle.as3_parser.specs.Levels.{level}
use Rattle.as3_parser.specs.Stands.{Fits}
use Rattle.as3_parser.specs.Table.{sets}
use Rattle.as3_parser.specs.Kinds.{kinds_of}
use Rattle.as3_parser.specs.Productions.{the_rules, dangling}
use Rattle.as3_parser.specs.Syntax.{limit}
use Rattle.as3_parser.specs.Here.{table}
use Rattle.as3_parser.specs.declared.tree.Lexeme.{Lexeme}
use Rattle.as3_parser.specs.Trees.{lexeme_of}

-- these tokens are derived from these symbols, none of them at level 65
pub record Ahead (s : List Symbol) (w : List ℕ) : Type 0 where
  pub fits : Fits (sets table) s
  pub choices : List ℕ
  pub derives : Derives the_rules dangling s w choices
  pub shallow : Shallow the_rules dangling limit s w (length w)

-- the kinds of the tokens from i on
unfoldable pub kinds_from : List Token → ℕ → List ℕ
kinds_from ts i = kinds_of (drop i ts)

-- the kind of token i
abbrev pub kind_at : List Token → ℕ → Option TokenKind
kind_at ts i = option_map (λ t. t.kind) (slice_get ts i)

-- a token's own text is a part of the whole, cut between characters
pub record IsCut (source : List ℕ) (t : Token) : Type 0 where
  pub first : IsCharBoundary source t.start
  pub last : IsCharBoundary source t.end
  pub ordered : t.start ≤ t.end

pub record AreCut (source : List ℕ) (ts : List Token) : Type 0 where
  pub each : (i : ℕ) (t : Token) → slice_get ts i ≡ Some t → IsCut source t

-- from token i on these symbols are read, and others behind them; at most so many levels are opened
pub record Begun (source : List ℕ) (ts : List Token) (i depth : ℕ) (symbols : List Symbol) : Type 0 where
  pub cut : AreCut source ts
  pub behind : List Symbol
  pub ahead : Ahead (symbols ++ behind) (kinds_from ts i)
  pub room : limit ≤ suc (level behind + depth)

-- these are the tokens from i to j
pub record Piece (ts : List Token) (i j : ℕ) (span : List Token) : Type 0 where
  pub splits : drop i ts ≡ span ++ drop j ts
  pub more : j ≡ i + length span

-- the tokens from i to j are of a form, and other symbols are left
pub record Reached (ts : List Token) (i j : ℕ) (left : List Symbol) (P : List Token → Type 0) : Type 0 where
  pub span : List Token
  pub piece : Piece ts i j span
  pub is : P span
  pub ahead : Ahead left (kinds_from ts j)

-- where these symbols are read from token i on, they are read up to token j, but for those that are left; what was read is of a form
pub record Reads (ts : List Token) (i j : ℕ) (symbols left : List Symbol) (P : List Token → Type 0) : Type 0 where
  pub from : (s : List Symbol) → Ahead (symbols ++ s) (kinds_from ts i) → Reached ts i j (left ++ s) P

-- the token at i was passed, if there is one
pub record Skips (ts : List Token) (i j : ℕ) : Type 0 where
  pub on : i < length ts → j ≡ i + 1

-- token i is this one, and was passed
pub record Lexed (source : List ℕ) (ts : List Token) (i j : ℕ) (l : Lexeme) : Type 0 where
  pub skips : Skips ts i j
  pub is : (t : Token) → slice_get ts i ≡ Some t → l ≡ lexeme_of source t

-- token i is there
pub record IsThere (source : List ℕ) (ts : List Token) (i : ℕ) : Type 0 where
  pub cut : AreCut source ts
  pub within : i < length ts

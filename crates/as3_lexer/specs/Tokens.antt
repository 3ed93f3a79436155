-- The tokens of a text: the longest matches one behind another.
use Rattle.std.specs.Prelude.{◌≡◌, ◌≢◌, ℕ, ◌+◌, ◌≤◌, List, [], ◌∷◌, ◌++◌, length, drop, codes, nat_eq, Option, None, Some, if◌then◌else◌}
use Rattle.std.specs.List.{starts_with}
use Rattle.as3_lexer.specs.declared.token.Token.{Token}
use Rattle.as3_lexer.specs.declared.token.TokenKind.{TokenKind}
use Rattle.as3_lexer.specs.declared.reading.LexRefusal.{LexRefusal}
use Rattle.as3_lexer.specs.declared.reading.LexRefusal.TheVariants as refusal
use Rattle.as3_lexer.specs.Forms.{IsToken, IsGap}

-- the bytes are a token of a kind, or what separates tokens
abbrev pub IsPiece : Option TokenKind → List ℕ → Type 0
IsPiece None bytes = IsGap bytes
IsPiece (Some kind) bytes = IsToken kind bytes

-- such a piece may stand before other bytes: the mark `/` not before `*`, where a comment might begin
pub record IsMatch (kind : Option TokenKind) (bytes others : List ℕ) : Type 0 where
  pub piece : IsPiece kind bytes
  pub no_comment : bytes ≡ codes "/" → (behind : List ℕ) → others ≢ codes "*" ++ behind

-- of what matches at the front of a text, nothing is longer
pub record IsLongest (kind : Option TokenKind) (bytes others : List ℕ) : Type 0 where
  pub matches : IsMatch kind bytes others
  pub longest : (other : Option TokenKind) (front back : List ℕ) → bytes ++ others ≡ front ++ back → IsMatch other front back → length front ≤ length bytes

-- no token, white space or comment begins a text
abbrev pub NothingBegins : List ℕ → Type 0
NothingBegins text = (kind : Option TokenKind) (front back : List ℕ) → text ≡ front ++ back → ¬ (IsMatch kind front back)

-- what stands in a text: a token of a kind, or what separates tokens
pub record Piece : Type 0 where
  pub kind : Option TokenKind
  pub bytes : List ℕ

-- the text is these pieces one behind another, each the longest match at its place, and the rest
abbrev pub AreMatches : List Piece → List ℕ → List ℕ → Type 0
AreMatches [] text rest = text ≡ rest
AreMatches (piece ∷ pieces) text rest = (others : List ℕ) × (text ≡ piece.bytes ++ others) × IsLongest piece.kind piece.bytes others × AreMatches pieces others rest

-- a piece that stands at a place, as a token before others, if it is one
abbrev pub token_before : Option TokenKind → ℕ → ℕ → List Token → List Token
token_before None start end tokens = tokens
token_before (Some kind) start end tokens = record { start = start; end = end; kind = kind } ∷ tokens

-- the tokens among pieces that begin at a place
abbrev pub tokens_at : ℕ → List Piece → List Token
tokens_at at [] = []
tokens_at at (piece ∷ pieces) = token_before piece.kind at (at + length piece.bytes) (tokens_at (at + length piece.bytes) pieces)

-- U+FEFF
abbrev pub byte_order_mark : List ℕ
byte_order_mark = 0xEF ∷ 0xBB ∷ 0xBF ∷ []

-- the place where the tokens of a text may begin: behind a first U+FEFF
abbrev pub start_of : List ℕ → ℕ
start_of text = if starts_with nat_eq text byte_order_mark then 3 else 0

-- these are all tokens of a text
pub record HasTokens (text : List ℕ) (tokens : List Token) : Type 0 where
  pub pieces : List Piece
  pub all : AreMatches pieces (drop (start_of text) text) []
  pub are : tokens ≡ tokens_at (start_of text) pieces

-- at this place of a text, and at none before, no token, white space or comment begins
pub record HasBadToken (text : List ℕ) (place : ℕ) : Type 0 where
  pub pieces : List Piece
  pub rest : List ℕ
  pub before : AreMatches pieces (drop (start_of text) text) rest
  pub nothing : NothingBegins rest
  pub more : 1 ≤ length rest
  pub stands : place + length rest ≡ length text

-- a refusal names the first bad token of a text, or says nothing of the text
abbrev pub IsRefusal : List ℕ → LexRefusal → Type 0
IsRefusal text (refusal.BadToken place) = HasBadToken text place
IsRefusal text refusal.NoMemory = Unit {0}

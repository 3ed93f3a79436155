-- What the trees take over from tokens: places and texts.
use Rattle.std.specs.Prelude.{◌≡◌, ℕ, ◌-◌, List, [], ◌∷◌, ◌++◌, drop, take}
use Rattle.as3_lexer.specs.declared.mark.Mark.TheVariants as mark
use Rattle.as3_lexer.specs.declared.token.Token.{Token}
use Rattle.as3_lexer.specs.declared.token.TokenKind.TheVariants as kind
use Rattle.as3_parser.specs.declared.tree.Span.{Span}
use Rattle.as3_parser.specs.declared.tree.Lexeme.{Lexeme}

abbrev pub start_of : List Token → ℕ
start_of [] = 0
start_of (t ∷ ts) = t.start

abbrev pub end_of : List Token → ℕ
end_of [] = 0
end_of (t ∷ []) = t.end
end_of (t ∷ u ∷ ts) = end_of (u ∷ ts)

-- from the first byte of the first token to the last of the last
abbrev pub span_of : List Token → Span
span_of ts = record { start = start_of ts; end = end_of ts }

-- a token with its own text
abbrev pub lexeme_of : List ℕ → Token → Lexeme
lexeme_of source t = record { span = record { start = t.start; end = t.end }; text = take (t.end - t.start) (drop t.start source) }

-- names with dots between them
pub data IsPath (source : List ℕ) : List Lexeme → List Token → Type 0 where
  name : (t : Token) → t.kind ≡ kind.Identifier → IsPath source (lexeme_of source t ∷ []) (t ∷ [])
  part : {names : List Lexeme} {w : List Token} (dot t : Token) → dot.kind ≡ kind.Mark mark.Dot → t.kind ≡ kind.Identifier → IsPath source names w → IsPath source (names ++ lexeme_of source t ∷ []) (w ++ dot ∷ t ∷ [])

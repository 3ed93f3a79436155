-- The tokens of a handler with the `;` that is added.
use Rattle.std.specs.Prelude.{◌-◌, Bool, true, false, List, [], ◌∷◌, ◌++◌, length, slice_get, Option, Some, None, if◌then◌else◌}
use Rattle.as3_lexer.specs.declared.mark.Mark.TheVariants as mark
use Rattle.as3_lexer.specs.declared.token.Token.{Token}
use Rattle.as3_lexer.specs.declared.token.TokenKind.{TokenKind}
use Rattle.as3_lexer.specs.declared.token.TokenKind.TheVariants as kind

-- whether a handler may end in a token of a kind
abbrev pub ends_handler : TokenKind → Bool
ends_handler (kind.Mark mark.Semicolon) = true
ends_handler (kind.Mark mark.RightBrace) = true
ends_handler _ = false

-- a `;` without a byte of its own, directly behind a token
abbrev pub semicolon_behind : Token → Token
semicolon_behind t = record { start = t.end; end = t.end; kind = kind.Mark mark.Semicolon }

-- what is added behind the last token, if there is one
abbrev pub added_behind : Option Token → List Token
added_behind None = []
added_behind (Some t) = if ends_handler t.kind then [] else semicolon_behind t ∷ []

abbrev pub ended_tokens : List Token → List Token
ended_tokens tokens = tokens ++ added_behind (slice_get tokens (length tokens - 1))

-- A text has tokens, or a place where none begins, and not both.
use Rattle.std.specs.Prelude.{◌≡◌, ◌⊎◌, ℕ, List, IsUtf8}
use Rattle.as3_lexer.specs.declared.token.Token.{Token}
use Rattle.as3_lexer.specs.Tokens.{HasTokens, HasBadToken}

-- a text that is UTF-8 has tokens, or it has a bad one
abbrev pub IsReadable : Type 0
IsReadable = (text : List ℕ) → IsUtf8 text → ((tokens : List Token) × HasTokens text tokens) ⊎ ((place : ℕ) × HasBadToken text place)

-- not both
abbrev pub IsReadOneWay : Type 0
IsReadOneWay = (text : List ℕ) (tokens : List Token) (place : ℕ) → IsUtf8 text → HasTokens text tokens → ¬ (HasBadToken text place)

-- a text has one list of tokens
abbrev pub HasOneList : Type 0
HasOneList = (text : List ℕ) (one other : List Token) → IsUtf8 text → HasTokens text one → HasTokens text other → one ≡ other

-- and one place of its first bad token
abbrev pub HasOneBadToken : Type 0
HasOneBadToken = (text : List ℕ) (one other : ℕ) → IsUtf8 text → HasBadToken text one → HasBadToken text other → one ≡ other

-- Which tokens metadata is.
use Rattle.std.specs.Prelude.{◌≡◌, ℕ, List, [], ◌∷◌, ◌++◌, Some, None}
use Rattle.std.specs.Global.{Vec}
use Rattle.as3_lexer.specs.declared.mark.Mark.TheVariants as mark
use Rattle.as3_lexer.specs.declared.token.Token.{Token}
use Rattle.as3_lexer.specs.declared.token.TokenKind.TheVariants as kind
use Rattle.as3_parser.specs.declared.tree.MetadataArgument.{MetadataArgument}
use Rattle.as3_parser.specs.declared.tree.MetadataTag.{MetadataTag}
use Rattle.as3_parser.specs.Trees.{span_of, lexeme_of}

-- a text, or a key, `=` and a text
pub data IsArgument (source : List ℕ) : MetadataArgument → List Token → Type 0 where
  keyed : (key equals value : Token) → key.kind ≡ kind.Identifier → equals.kind ≡ kind.Mark mark.Assign → value.kind ≡ kind.Text → IsArgument source (record { key = Some (lexeme_of source key); value = lexeme_of source value }) (key ∷ equals ∷ value ∷ [])
  plain : (value : Token) → value.kind ≡ kind.Text → IsArgument source (record { key = None; value = lexeme_of source value }) (value ∷ [])

-- one or more of them with commas between them
pub data AreArguments (source : List ℕ) : List MetadataArgument → List Token → Type 0 where
  one : {x : MetadataArgument} {w : List Token} → IsArgument source x w → AreArguments source (x ∷ []) w
  more : {xs : List MetadataArgument} {x : MetadataArgument} {v w : List Token} (comma : Token) → AreArguments source xs v → comma.kind ≡ kind.Mark mark.Comma → IsArgument source x w → AreArguments source (xs ++ x ∷ []) (v ++ (comma ∷ w))

-- any number of them, and `)`
pub data AreClosed (source : List ℕ) : List MetadataArgument → List Token → Type 0 where
  none : (t : Token) → t.kind ≡ kind.Mark mark.RightParenthesis → AreClosed source [] (t ∷ [])
  some : {xs : List MetadataArgument} {w : List Token} (t : Token) → AreArguments source xs w → t.kind ≡ kind.Mark mark.RightParenthesis → AreClosed source xs (w ++ (t ∷ []))

-- `[` name `]`, or `[` name `(` arguments `)` `]`
pub data IsTag (source : List ℕ) : MetadataTag → List Token → Type 0 where
  plain : (arguments : Vec MetadataArgument) (left name right : Token) → left.kind ≡ kind.Mark mark.LeftBracket → name.kind ≡ kind.Identifier → right.kind ≡ kind.Mark mark.RightBracket → arguments.items ≡ [] →
      IsTag source (record { span = span_of (left ∷ name ∷ right ∷ []); name = lexeme_of source name; arguments = arguments }) (left ∷ name ∷ right ∷ [])
  with_arguments : {w : List Token} (arguments : Vec MetadataArgument) (left name open_ right : Token) → left.kind ≡ kind.Mark mark.LeftBracket → name.kind ≡ kind.Identifier → open_.kind ≡ kind.Mark mark.LeftParenthesis → AreClosed source arguments.items w → right.kind ≡ kind.Mark mark.RightBracket →
      IsTag source (record { span = span_of (left ∷ name ∷ open_ ∷ (w ++ (right ∷ []))); name = lexeme_of source name; arguments = arguments }) (left ∷ name ∷ open_ ∷ (w ++ (right ∷ [])))

pub data AreTags (source : List ℕ) : List MetadataTag → List Token → Type 0 where
  none : AreTags source [] []
  more : {xs : List MetadataTag} {x : MetadataTag} {v w : List Token} → AreTags source xs v → IsTag source x w → AreTags source (xs ++ x ∷ []) (v ++ w)

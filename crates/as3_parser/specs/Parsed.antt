-- Which tree the tokens of a text are.
use Rattle.std.specs.Prelude.{ℕ, List}
use Rattle.as3_lexer.specs.declared.token.Token.{Token}
use Rattle.as3_parser.specs.declared.start.Start.TheVariants as start
use Rattle.as3_parser.specs.declared.tree.Body.{Body}
use Rattle.as3_parser.specs.declared.tree.Expression.{Expression}
use Rattle.as3_parser.specs.declared.tree.ClassFile.{ClassFile}
use Rattle.as3_parser.specs.declared.tree.Members.{Members}
use Rattle.as3_parser.specs.declared.tree.Metadata.{Metadata}
use Rattle.as3_parser.specs.Syntax.{IsSentence}
use Rattle.as3_parser.specs.Classes.{IsClassFile}
use Rattle.as3_parser.specs.Members.{AreItems}
use Rattle.as3_parser.specs.Metadata.{AreTags}
use Rattle.as3_parser.specs.Statements.{AreStatements}
use Rattle.as3_parser.specs.Handlers.{ended_tokens}
use Rattle.as3_parser.specs.Expressions.{conditional_strength, IsExpression}

-- the tokens are a sentence, and this expression
pub record IsExpressionOf (source : List ℕ) (tokens : List Token) (x : Expression) : Type 0 where
  pub sentence : IsSentence start.Expression tokens
  pub tree : IsExpression source conditional_strength x tokens

-- the tokens are a sentence, and this metadata
pub record IsMetadataOf (source : List ℕ) (tokens : List Token) (x : Metadata) : Type 0 where
  pub sentence : IsSentence start.Metadata tokens
  pub tree : AreTags source x.tags.items tokens

-- the tokens of a handler are a sentence, and with the `;` that is added these statements
pub record IsHandlerOf (source : List ℕ) (tokens : List Token) (x : Body) : Type 0 where
  pub sentence : IsSentence start.Handler tokens
  pub tree : AreStatements source x.statements.items (ended_tokens tokens)

-- the tokens are a sentence, and these imports and members
pub record IsMembersOf (source : List ℕ) (tokens : List Token) (x : Members) : Type 0 where
  pub sentence : IsSentence start.Members tokens
  pub tree : AreItems source x.items.items tokens

-- the tokens are a sentence, and this class file
pub record IsClassFileOf (source : List ℕ) (tokens : List Token) (x : ClassFile) : Type 0 where
  pub sentence : IsSentence start.ClassFile tokens
  pub tree : IsClassFile source x tokens

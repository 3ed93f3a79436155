-- Which tokens imports and members are.
use Rattle.std.specs.Prelude.{◌≡◌, ℕ, List, [], ◌∷◌, ◌++◌, Option, Some, None}
use Rattle.std.specs.Global.{Vec}
use Rattle.as3_lexer.specs.declared.keyword.Keyword.{Keyword}
use Rattle.as3_lexer.specs.declared.keyword.Keyword.TheVariants as keyword
use Rattle.as3_lexer.specs.declared.mark.Mark.TheVariants as mark
use Rattle.as3_lexer.specs.declared.token.Token.{Token}
use Rattle.as3_lexer.specs.declared.token.TokenKind.TheVariants as kind
use Rattle.as3_parser.specs.declared.tree.Lexeme.{Lexeme}
use Rattle.as3_parser.specs.declared.tree.Variable.{Variable}
use Rattle.as3_parser.specs.declared.tree.Statement.{Statement}
use Rattle.as3_parser.specs.declared.tree.MetadataTag.{MetadataTag}
use Rattle.as3_parser.specs.declared.tree.Import.{Import}
use Rattle.as3_parser.specs.declared.tree.ImportStep.{ImportStep}
use Rattle.as3_parser.specs.declared.tree.ImportStep.TheVariants as import_step
use Rattle.as3_parser.specs.declared.tree.Modifier.{Modifier}
use Rattle.as3_parser.specs.declared.tree.Modifier.TheVariants as modifier
use Rattle.as3_parser.specs.declared.tree.Parameter.{Parameter}
use Rattle.as3_parser.specs.declared.tree.ResultType.{ResultType}
use Rattle.as3_parser.specs.declared.tree.ResultType.TheVariants as result_type
use Rattle.as3_parser.specs.declared.tree.MemberKind.{MemberKind}
use Rattle.as3_parser.specs.declared.tree.MemberKind.TheVariants as member_kind
use Rattle.as3_parser.specs.declared.tree.Member.{Member}
use Rattle.as3_parser.specs.declared.tree.MembersItem.{MembersItem}
use Rattle.as3_parser.specs.declared.tree.MembersItem.TheVariants as item
use Rattle.as3_parser.specs.Trees.{span_of, lexeme_of, IsPath}
use Rattle.as3_parser.specs.Metadata.{AreTags}
use Rattle.as3_parser.specs.Statements.{AreVariables, IsBlock}

-- a name, or `*`
pub data IsImportStep (source : List ℕ) : ImportStep → Token → Type 0 where
  name : (t : Token) → t.kind ≡ kind.Identifier → IsImportStep source (import_step.Name (lexeme_of source t)) t
  all : (t : Token) → t.kind ≡ kind.Mark mark.Star → IsImportStep source (import_step.All (span_of (t ∷ []))) t

-- steps, each behind a `.`
pub data AreImportSteps (source : List ℕ) : List ImportStep → List Token → Type 0 where
  none : AreImportSteps source [] []
  more : {xs : List ImportStep} {x : ImportStep} {w : List Token} (dot t : Token) → AreImportSteps source xs w → dot.kind ≡ kind.Mark mark.Dot → IsImportStep source x t → AreImportSteps source (xs ++ x ∷ []) (w ++ (dot ∷ t ∷ []))

-- `import` name steps `;`
pub data IsImport (source : List ℕ) : Import → List Token → Type 0 where
  import : {w : List Token} (steps : Vec ImportStep) (word first t : Token) → word.kind ≡ kind.Keyword keyword.Import → first.kind ≡ kind.Identifier → AreImportSteps source steps.items w → t.kind ≡ kind.Mark mark.Semicolon →
      IsImport source (record { span = span_of (word ∷ first ∷ (w ++ (t ∷ []))); first = lexeme_of source first; steps = steps }) (word ∷ first ∷ (w ++ (t ∷ [])))

-- how a modifier is written
abbrev pub modifier_word : Modifier → Keyword
modifier_word modifier.Public = keyword.Public
modifier_word modifier.Private = keyword.Private
modifier_word modifier.Protected = keyword.Protected
modifier_word modifier.Override = keyword.Override

pub data AreModifiers : List Modifier → List Token → Type 0 where
  none : AreModifiers [] []
  more : {xs : List Modifier} {w : List Token} (x : Modifier) (t : Token) → AreModifiers xs w → t.kind ≡ kind.Keyword (modifier_word x) → AreModifiers (xs ++ x ∷ []) (w ++ t ∷ [])

-- name `:` path
pub data IsParameter (source : List ℕ) : Parameter → List Token → Type 0 where
  parameter : {w : List Token} (type_name : Vec Lexeme) (name colon : Token) → name.kind ≡ kind.Identifier → colon.kind ≡ kind.Mark mark.Colon → IsPath source type_name.items w → IsParameter source (record { name = lexeme_of source name; type_name = type_name }) (name ∷ colon ∷ w)

-- one or more of them with commas between them
pub data AreParameters (source : List ℕ) : List Parameter → List Token → Type 0 where
  one : {x : Parameter} {w : List Token} → IsParameter source x w → AreParameters source (x ∷ []) w
  more : {xs : List Parameter} {x : Parameter} {v w : List Token} (comma : Token) → AreParameters source xs v → comma.kind ≡ kind.Mark mark.Comma → IsParameter source x w → AreParameters source (xs ++ x ∷ []) (v ++ (comma ∷ w))

-- any number of them, and `)`
pub data AreParametersClosed (source : List ℕ) : List Parameter → List Token → Type 0 where
  none : (t : Token) → t.kind ≡ kind.Mark mark.RightParenthesis → AreParametersClosed source [] (t ∷ [])
  some : {xs : List Parameter} {w : List Token} (t : Token) → AreParameters source xs w → t.kind ≡ kind.Mark mark.RightParenthesis → AreParametersClosed source xs (w ++ (t ∷ []))

-- `:` and a path or `void`, if it is there
pub data IsResult (source : List ℕ) : Option ResultType → List Token → Type 0 where
  none : IsResult source None []
  path : {w : List Token} (v : Vec Lexeme) (colon : Token) → colon.kind ≡ kind.Mark mark.Colon → IsPath source v.items w → IsResult source (Some (result_type.Path v)) (colon ∷ w)
  void : (colon t : Token) → colon.kind ≡ kind.Mark mark.Colon → t.kind ≡ kind.Keyword keyword.Void → IsResult source (Some (result_type.Void (span_of (t ∷ [])))) (colon ∷ t ∷ [])

pub data IsMemberKind (source : List ℕ) : MemberKind → List Token → Type 0 where
  -- `var` variables `;`
  variables : {w : List Token} (v : Vec Variable) (word t : Token) → word.kind ≡ kind.Keyword keyword.Var → AreVariables source v.items w → t.kind ≡ kind.Mark mark.Semicolon → IsMemberKind source (member_kind.Variables v) (word ∷ (w ++ (t ∷ [])))
  -- `function` name `(` parameters `)` result block
  method : {r : Option ResultType} {u v w : List Token} (parameters : Vec Parameter) (statements : Vec Statement) (word name left : Token) → word.kind ≡ kind.Keyword keyword.Function → name.kind ≡ kind.Identifier → left.kind ≡ kind.Mark mark.LeftParenthesis → AreParametersClosed source parameters.items u → IsResult source r v → IsBlock source statements.items w →
      IsMemberKind source (member_kind.Method (lexeme_of source name) parameters r statements) (word ∷ name ∷ left ∷ (u ++ (v ++ w)))

-- tags modifiers and what the member is
pub data IsMember (source : List ℕ) : Member → List Token → Type 0 where
  member : {x : MemberKind} {u v w : List Token} (metadata : Vec MetadataTag) (modifiers : Vec Modifier) → AreTags source metadata.items u → AreModifiers modifiers.items v → IsMemberKind source x w →
      IsMember source (record { span = span_of (u ++ (v ++ w)); metadata = metadata; modifiers = modifiers; kind = x }) (u ++ (v ++ w))

pub data IsItem (source : List ℕ) : MembersItem → List Token → Type 0 where
  import : {x : Import} {w : List Token} → IsImport source x w → IsItem source (item.Import x) w
  member : {x : Member} {w : List Token} → IsMember source x w → IsItem source (item.Member x) w

pub data AreItems (source : List ℕ) : List MembersItem → List Token → Type 0 where
  none : AreItems source [] []
  more : {xs : List MembersItem} {x : MembersItem} {v w : List Token} → AreItems source xs v → IsItem source x w → AreItems source (xs ++ x ∷ []) (v ++ w)

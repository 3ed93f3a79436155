-- What the functions that build trees read.
use Rattle.std.specs.Prelude.{◌≡◌, ◌≤◌, suc, ℕ, Bool, true, false, List, [], ◌∷◌, get_or, Option, Some}
use Rattle.std.specs.Global.{Vec}
use Rattle.as3_lexer.specs.declared.mark.Mark.{Mark}
use Rattle.as3_lexer.specs.declared.mark.Mark.TheVariants as mark
use Rattle.as3_lexer.specs.declared.keyword.Keyword.TheVariants as keyword
use Rattle.as3_lexer.specs.declared.token.Token.{Token}
use Rattle.as3_lexer.specs.declared.token.TokenKind.{TokenKind}
use Rattle.as3_lexer.specs.declared.token.TokenKind.TheVariants as kind
use Rattle.as3_parser.specs.declared.statements.StatementForm.{StatementForm}
use Rattle.as3_parser.specs.declared.statements.StatementForm.TheVariants as form
use Rattle.as3_parser.specs.declared.tree.Span.{Span}
use Rattle.as3_parser.specs.declared.tree.Statement.{Statement}
use Rattle.as3_parser.specs.declared.tree.LoopStart.{LoopStart}
use Rattle.as3_parser.specs.declared.tree.LoopHead.{LoopHead}
use Rattle.as3_parser.specs.declared.tree.Lexeme.{Lexeme}
use Rattle.as3_parser.specs.declared.tree.Expression.{Expression}
use Rattle.as3_parser.specs.declared.tree.MetadataArgument.{MetadataArgument}
use Rattle.as3_parser.specs.declared.tree.MetadataTag.{MetadataTag}
use Rattle.as3_parser.specs.declared.tree.Variable.{Variable}
use Rattle.as3_parser.specs.declared.tree.SimpleStatement.{SimpleStatement}
use Rattle.as3_parser.specs.Grammar.{Symbol, Part}
use Rattle.as3_parser.specs.Grammar as grammar
use Rattle.as3_parser.specs.Kinds.{mark_number}
use Rattle.as3_parser.specs.Productions as production
use Rattle.as3_parser.specs.Ahead.{Ahead, AreCut, Reads, Skips, kind_at, kinds_from}
use Rattle.as3_parser.specs.Syntax.{limit}
use Rattle.as3_parser.specs.Spans.{span_between}
use Rattle.as3_parser.specs.Trees.{IsPath}
use Rattle.as3_parser.specs.Expressions.{IsExpression, AreEnclosed}
use Rattle.as3_parser.specs.Statements.{IsVariable, AreVariables, IsSimple, IsCondition, IsLoopStart, IsOptionalExpression, IsLoopStep, IsLoopHead, TakesNoElse, IsStatement, AreStatements, IsBlock}
use Rattle.as3_parser.specs.Metadata.{IsArgument, AreClosed, IsTag, AreTags}

abbrev pub part : ℕ → List Symbol
part n = Part n ∷ []

-- the parts whose expressions bind at least so strongly, in order of strength
abbrev pub strong_parts : List ℕ
strong_parts = production.expression ∷ production.logical_or ∷ production.logical_and ∷ production.equality ∷ production.relational ∷ production.additive ∷ production.multiplicative ∷ production.unary ∷ production.postfix ∷ production.primary ∷ []

abbrev pub part_of_strength : ℕ → ℕ
part_of_strength n = get_or strong_parts n 0

-- the lists of operators of a strength with their operands, from 1 to 6
abbrev pub operator_lists : List ℕ
operator_lists = production.choice ∷ production.more_logical_or ∷ production.more_logical_and ∷ production.more_equality ∷ production.more_relational ∷ production.more_additive ∷ production.more_multiplicative ∷ []

abbrev pub operators_of_strength : ℕ → ℕ
operators_of_strength n = get_or operator_lists n 0

pub record ReadsExpression (source : List ℕ) (ts : List Token) (i j n : ℕ) (x : Expression) : Type 0 where
  pub is : Reads ts i j (part (part_of_strength n)) [] (IsExpression source n x)

-- optional arguments, and the mark behind them
abbrev pub arguments_before : Mark → List Symbol
arguments_before close = Part production.optional_arguments ∷ grammar.Token (mark_number close) ∷ []

-- the mark that closes a list of arguments, or of items
abbrev pub closes_arguments : Mark → Bool
closes_arguments mark.RightParenthesis = true
closes_arguments mark.RightBracket = true
closes_arguments _ = false

pub record ReadsArguments (source : List ℕ) (ts : List Token) (i j : ℕ) (close : Mark) (v : Vec Expression) : Type 0 where
  pub is : Reads ts i j (arguments_before close) [] (AreEnclosed source close v.items)

pub record ReadsPath (source : List ℕ) (ts : List Token) (i j : ℕ) (v : Vec Lexeme) : Type 0 where
  pub is : Reads ts i j (part production.path) [] (IsPath source v.items)

pub record ReadsMetadataArgument (source : List ℕ) (ts : List Token) (i j : ℕ) (x : MetadataArgument) : Type 0 where
  pub is : Reads ts i j (part production.pair) [] (IsArgument source x)

-- the arguments of a metadata tag, and the mark behind them
abbrev pub arguments_behind : List Symbol
arguments_behind = Part production.pairs ∷ production.sign mark.RightParenthesis ∷ []

pub record ReadsMetadataArguments (source : List ℕ) (ts : List Token) (i j : ℕ) (v : Vec MetadataArgument) : Type 0 where
  pub is : Reads ts i j arguments_behind [] (AreClosed source v.items)

pub record ReadsMetadataTag (source : List ℕ) (ts : List Token) (i j : ℕ) (x : MetadataTag) : Type 0 where
  pub is : Reads ts i j (part production.metadata_tag) [] (IsTag source x)

pub record ReadsMetadataTags (source : List ℕ) (ts : List Token) (i j : ℕ) (v : Vec MetadataTag) : Type 0 where
  pub is : Reads ts i j (part production.metadata_tags) [] (AreTags source v.items)

pub record ReadsVariable (source : List ℕ) (ts : List Token) (i j : ℕ) (x : Variable) : Type 0 where
  pub is : Reads ts i j (part production.declaration) [] (IsVariable source x)

-- variables with commas between them
abbrev pub declarations : List Symbol
declarations = Part production.declaration ∷ Part production.more_declarations ∷ []

pub record ReadsVariables (source : List ℕ) (ts : List Token) (i j : ℕ) (v : Vec Variable) : Type 0 where
  pub is : Reads ts i j declarations [] (AreVariables source v.items)

pub record ReadsSimple (source : List ℕ) (ts : List Token) (i j : ℕ) (x : SimpleStatement) : Type 0 where
  pub is : Reads ts i j (part production.simple) [] (IsSimple source x)

-- the right side of a statement that a kind begins
abbrev pub statement_form : Option TokenKind → StatementForm
statement_form (Some (kind.Mark mark.LeftBrace)) = form.Block
statement_form (Some (kind.Keyword keyword.Var)) = form.Variables
statement_form (Some (kind.Keyword keyword.If)) = form.If
statement_form (Some (kind.Keyword keyword.While)) = form.While
statement_form (Some (kind.Keyword keyword.Do)) = form.DoWhile
statement_form (Some (kind.Keyword keyword.For)) = form.For
statement_form (Some (kind.Keyword keyword.Break)) = form.Break
statement_form (Some (kind.Keyword keyword.Continue)) = form.Continue
statement_form (Some (kind.Keyword keyword.Return)) = form.Return
statement_form (Some (kind.Mark mark.Semicolon)) = form.Empty
statement_form _ = form.Simple

-- from token i to token j stands this statement; where an `else` is next, it takes none
pub record ReadsStatement (source : List ℕ) (ts : List Token) (i j : ℕ) (x : Statement) : Type 0 where
  pub is : Reads ts i j (part production.statement) [] (IsStatement source x)
  pub closed : kind_at ts j ≡ Some (kind.Keyword keyword.Else) → TakesNoElse x

pub record ReadsBlock (source : List ℕ) (ts : List Token) (i j : ℕ) (v : Vec Statement) : Type 0 where
  pub is : Reads ts i j (part production.block) [] (IsBlock source v.items)

-- a condition in round brackets
abbrev pub condition_symbols : List Symbol
condition_symbols = production.sign mark.LeftParenthesis ∷ Part production.expression ∷ production.sign mark.RightParenthesis ∷ []

pub record ReadsCondition (source : List ℕ) (ts : List Token) (i j : ℕ) (x : Expression) : Type 0 where
  pub is : Reads ts i j condition_symbols [] (IsCondition source x)

-- the three parts of the head of a `for`, each with the mark behind it
abbrev pub loop_start_symbols : List Symbol
loop_start_symbols = Part production.optional_start ∷ production.sign mark.Semicolon ∷ []

abbrev pub optional_expression_symbols : List Symbol
optional_expression_symbols = Part production.optional_expression ∷ production.sign mark.Semicolon ∷ []

abbrev pub loop_step_symbols : List Symbol
loop_step_symbols = Part production.optional_simple ∷ production.sign mark.RightParenthesis ∷ []

pub record ReadsLoopStart (source : List ℕ) (ts : List Token) (i j : ℕ) (x : Option LoopStart) : Type 0 where
  pub is : Reads ts i j loop_start_symbols [] (IsLoopStart source x)

pub record ReadsOptionalExpression (source : List ℕ) (ts : List Token) (i j : ℕ) (x : Option Expression) : Type 0 where
  pub is : Reads ts i j optional_expression_symbols [] (IsOptionalExpression source x)

pub record ReadsLoopStep (source : List ℕ) (ts : List Token) (i j : ℕ) (x : Option SimpleStatement) : Type 0 where
  pub is : Reads ts i j loop_step_symbols [] (IsLoopStep source x)

-- one token was passed, and two
pub record SkipsOne (ts : List Token) (i j : ℕ) (p : Span) : Type 0 where
  pub skips : Skips ts i j
  pub span : p ≡ span_between ts i j

pub record SkipsTwo (ts : List Token) (i j : ℕ) (p : Span) : Type 0 where
  pub middle : ℕ
  pub first : Skips ts i middle
  pub second : Skips ts middle j
  pub span : p ≡ span_between ts i j

abbrev pub loop_head_symbols : List Symbol
loop_head_symbols = production.sign mark.LeftParenthesis ∷ Part production.optional_start ∷ production.sign mark.Semicolon ∷ Part production.optional_expression ∷ production.sign mark.Semicolon ∷ Part production.optional_simple ∷ production.sign mark.RightParenthesis ∷ []

pub record ReadsLoopHead (source : List ℕ) (ts : List Token) (i j : ℕ) (x : LoopHead) : Type 0 where
  pub is : Reads ts i j loop_head_symbols [] (IsLoopHead source x)

-- the tokens are statements
pub record AreAllStatements (source : List ℕ) (ts : List Token) (levels : ℕ) : Type 0 where
  pub cut : AreCut source ts
  pub ahead : Ahead (part production.statements) (kinds_from ts 0)
  pub room : limit ≤ suc levels

pub record ReadsAllStatements (source : List ℕ) (ts : List Token) (v : Vec Statement) : Type 0 where
  pub is : AreStatements source v.items ts

-- Which tokens a statement is: for each form its tokens in order, and its tree.
use Rattle.std.specs.Prelude.{◌≡◌, ℕ, List, [], ◌∷◌, ◌++◌, Option, Some, None}
use Rattle.std.specs.Global.{Box, Vec}
use Rattle.as3_lexer.specs.declared.keyword.Keyword.TheVariants as keyword
use Rattle.as3_lexer.specs.declared.mark.Mark.{Mark}
use Rattle.as3_lexer.specs.declared.mark.Mark.TheVariants as mark
use Rattle.as3_lexer.specs.declared.token.Token.{Token}
use Rattle.as3_lexer.specs.declared.token.TokenKind.TheVariants as kind
use Rattle.as3_parser.specs.declared.tree.Span.{Span}
use Rattle.as3_parser.specs.declared.tree.Lexeme.{Lexeme}
use Rattle.as3_parser.specs.declared.tree.Expression.{Expression}
use Rattle.as3_parser.specs.declared.tree.Variable.{Variable}
use Rattle.as3_parser.specs.declared.tree.AssignmentOperator.{AssignmentOperator}
use Rattle.as3_parser.specs.declared.tree.AssignmentOperator.TheVariants as assignment_operator
use Rattle.as3_parser.specs.declared.tree.StepOperator.{StepOperator}
use Rattle.as3_parser.specs.declared.tree.StepOperator.TheVariants as step_operator
use Rattle.as3_parser.specs.declared.tree.SimpleStatement.{SimpleStatement}
use Rattle.as3_parser.specs.declared.tree.SimpleStatement.TheVariants as simple_statement
use Rattle.as3_parser.specs.declared.tree.LoopStart.{LoopStart}
use Rattle.as3_parser.specs.declared.tree.LoopStart.TheVariants as loop_start
use Rattle.as3_parser.specs.declared.tree.LoopHead.{LoopHead}
use Rattle.as3_parser.specs.declared.tree.Statement.{Statement}
use Rattle.as3_parser.specs.declared.tree.Statement.TheVariants as s
use Rattle.as3_parser.specs.Trees.{span_of, lexeme_of, IsPath}
use Rattle.as3_parser.specs.Expressions.{conditional_strength, postfix_strength, IsExpression}

abbrev pub assignment_mark : AssignmentOperator → Mark
assignment_mark assignment_operator.Assign = mark.Assign
assignment_mark assignment_operator.Add = mark.PlusAssign
assignment_mark assignment_operator.Subtract = mark.MinusAssign
assignment_mark assignment_operator.Multiply = mark.StarAssign

abbrev pub step_mark : StepOperator → Mark
step_mark step_operator.Increment = mark.Increment
step_mark step_operator.Decrement = mark.Decrement

-- name `:` path, and perhaps `=` value
pub data IsVariable (source : List ℕ) : Variable → List Token → Type 0 where
  plain : {w : List Token} (type_name : Vec Lexeme) (name colon : Token) → name.kind ≡ kind.Identifier → colon.kind ≡ kind.Mark mark.Colon → IsPath source type_name.items w →
      IsVariable source (record { name = lexeme_of source name; type_name = type_name; value = None }) (name ∷ colon ∷ w)
  with_value : {x : Expression} {v w : List Token} (type_name : Vec Lexeme) (name colon equals : Token) → name.kind ≡ kind.Identifier → colon.kind ≡ kind.Mark mark.Colon → IsPath source type_name.items v → equals.kind ≡ kind.Mark mark.Assign → IsExpression source conditional_strength x w →
      IsVariable source (record { name = lexeme_of source name; type_name = type_name; value = Some x }) (name ∷ colon ∷ (v ++ (equals ∷ w)))

-- one or more of them with commas between them
pub data AreVariables (source : List ℕ) : List Variable → List Token → Type 0 where
  one : {x : Variable} {w : List Token} → IsVariable source x w → AreVariables source (x ∷ []) w
  more : {xs : List Variable} {x : Variable} {v w : List Token} (comma : Token) → AreVariables source xs v → comma.kind ≡ kind.Mark mark.Comma → IsVariable source x w → AreVariables source (xs ++ x ∷ []) (v ++ (comma ∷ w))

pub data IsSimple (source : List ℕ) : SimpleStatement → List Token → Type 0 where
  expression : {x : Expression} {w : List Token} → IsExpression source conditional_strength x w → IsSimple source (simple_statement.Expression x) w
  -- target operator value
  assignment : {x y : Expression} {v w : List Token} (o : AssignmentOperator) (sign : Token) → IsExpression source conditional_strength x v → sign.kind ≡ kind.Mark (assignment_mark o) → IsExpression source conditional_strength y w →
      IsSimple source (simple_statement.Assignment (span_of (v ++ (sign ∷ w))) o x y) (v ++ (sign ∷ w))
  -- `++` operand
  prefix : {x : Expression} {w : List Token} (o : StepOperator) (sign : Token) → sign.kind ≡ kind.Mark (step_mark o) → IsExpression source postfix_strength x w →
      IsSimple source (simple_statement.Prefix (span_of (sign ∷ w)) o x) (sign ∷ w)
  -- operand `++`
  postfix : {x : Expression} {w : List Token} (o : StepOperator) (sign : Token) → IsExpression source conditional_strength x w → sign.kind ≡ kind.Mark (step_mark o) →
      IsSimple source (simple_statement.Postfix (span_of (w ++ (sign ∷ []))) o x) (w ++ (sign ∷ []))

-- `(` condition `)`
pub data IsCondition (source : List ℕ) : Expression → List Token → Type 0 where
  condition : {x : Expression} {w : List Token} (left right : Token) → left.kind ≡ kind.Mark mark.LeftParenthesis → IsExpression source conditional_strength x w → right.kind ≡ kind.Mark mark.RightParenthesis → IsCondition source x (left ∷ (w ++ (right ∷ [])))

-- what stands first in the head of a `for`, if anything, and `;`
pub data IsLoopStart (source : List ℕ) : Option LoopStart → List Token → Type 0 where
  none : (t : Token) → t.kind ≡ kind.Mark mark.Semicolon → IsLoopStart source None (t ∷ [])
  variables : {w : List Token} (v : Vec Variable) (word t : Token) → word.kind ≡ kind.Keyword keyword.Var → AreVariables source v.items w → t.kind ≡ kind.Mark mark.Semicolon → IsLoopStart source (Some (loop_start.Variables (span_of (word ∷ w)) v)) (word ∷ (w ++ (t ∷ [])))
  simple : {x : SimpleStatement} {w : List Token} (t : Token) → IsSimple source x w → t.kind ≡ kind.Mark mark.Semicolon → IsLoopStart source (Some (loop_start.Simple x)) (w ++ (t ∷ []))

-- an expression, if there is one, and `;`
pub data IsOptionalExpression (source : List ℕ) : Option Expression → List Token → Type 0 where
  none : (t : Token) → t.kind ≡ kind.Mark mark.Semicolon → IsOptionalExpression source None (t ∷ [])
  some : {x : Expression} {w : List Token} (t : Token) → IsExpression source conditional_strength x w → t.kind ≡ kind.Mark mark.Semicolon → IsOptionalExpression source (Some x) (w ++ (t ∷ []))

-- what stands last in the head of a `for`, if anything, and `)`
pub data IsLoopStep (source : List ℕ) : Option SimpleStatement → List Token → Type 0 where
  none : (t : Token) → t.kind ≡ kind.Mark mark.RightParenthesis → IsLoopStep source None (t ∷ [])
  some : {x : SimpleStatement} {w : List Token} (t : Token) → IsSimple source x w → t.kind ≡ kind.Mark mark.RightParenthesis → IsLoopStep source (Some x) (w ++ (t ∷ []))

-- `(` start `;` condition `;` step `)`
pub data IsLoopHead (source : List ℕ) : LoopHead → List Token → Type 0 where
  head : {f : Option LoopStart} {c : Option Expression} {t : Option SimpleStatement} {u v w : List Token} (left : Token) → left.kind ≡ kind.Mark mark.LeftParenthesis → IsLoopStart source f u → IsOptionalExpression source c v → IsLoopStep source t w →
      IsLoopHead source (record { start = f; condition = c; step = t }) (left ∷ (u ++ (v ++ w)))

-- a statement that can't take an `else` that stands behind it: each `if` at its end has one
pub data TakesNoElse : Statement → Type 0 where
  block : (p : Span) (v : Vec Statement) → TakesNoElse (s.Block p v)
  variables : (p : Span) (v : Vec Variable) → TakesNoElse (s.Variables p v)
  if_else : (p : Span) (x : Expression) (a b : Box Statement) → TakesNoElse b.value → TakesNoElse (s.IfElse p x a b)
  while : (p : Span) (x : Expression) (a : Box Statement) → TakesNoElse a.value → TakesNoElse (s.While p x a)
  do_while : (p : Span) (a : Box Statement) (x : Expression) → TakesNoElse (s.DoWhile p a x)
  for : (p : Span) (h : LoopHead) (a : Box Statement) → TakesNoElse a.value → TakesNoElse (s.For p h a)
  break : (p : Span) → TakesNoElse (s.Break p)
  continue : (p : Span) → TakesNoElse (s.Continue p)
  return : (p : Span) (x : Option Expression) → TakesNoElse (s.Return p x)
  empty : (p : Span) → TakesNoElse (s.Empty p)
  simple : (p : Span) (x : SimpleStatement) → TakesNoElse (s.Simple p x)

mutual
  -- these tokens are this statement
  pub data IsStatement (source : List ℕ) : Statement → List Token → Type 0 where
    -- `{` statements `}`
    block : {w : List Token} (v : Vec Statement) → IsBlock source v.items w → IsStatement source (s.Block (span_of w) v) w
    -- `var` variables `;`
    variables : {w : List Token} (v : Vec Variable) (word t : Token) → word.kind ≡ kind.Keyword keyword.Var → AreVariables source v.items w → t.kind ≡ kind.Mark mark.Semicolon →
        IsStatement source (s.Variables (span_of (word ∷ (w ++ (t ∷ [])))) v) (word ∷ (w ++ (t ∷ [])))
    -- `if` condition statement
    if : {x : Expression} {v w : List Token} (a : Box Statement) (word : Token) → word.kind ≡ kind.Keyword keyword.If → IsCondition source x v → IsStatement source a.value w →
        IsStatement source (s.If (span_of (word ∷ (v ++ w))) x a) (word ∷ (v ++ w))
    -- `if` condition statement `else` statement; the `else` belongs to the nearest `if`, so the statement before it takes none
    if_else : {x : Expression} {u v w : List Token} (a b : Box Statement) (word other : Token) → word.kind ≡ kind.Keyword keyword.If → IsCondition source x u → IsStatement source a.value v → TakesNoElse a.value → other.kind ≡ kind.Keyword keyword.Else → IsStatement source b.value w →
        IsStatement source (s.IfElse (span_of (word ∷ (u ++ (v ++ (other ∷ w))))) x a b) (word ∷ (u ++ (v ++ (other ∷ w))))
    -- `while` condition statement
    while : {x : Expression} {v w : List Token} (a : Box Statement) (word : Token) → word.kind ≡ kind.Keyword keyword.While → IsCondition source x v → IsStatement source a.value w →
        IsStatement source (s.While (span_of (word ∷ (v ++ w))) x a) (word ∷ (v ++ w))
    -- `do` statement `while` condition `;`
    do_while : {x : Expression} {v w : List Token} (a : Box Statement) (word other t : Token) → word.kind ≡ kind.Keyword keyword.Do → IsStatement source a.value v → other.kind ≡ kind.Keyword keyword.While → IsCondition source x w → t.kind ≡ kind.Mark mark.Semicolon →
        IsStatement source (s.DoWhile (span_of (word ∷ (v ++ (other ∷ (w ++ (t ∷ [])))))) a x) (word ∷ (v ++ (other ∷ (w ++ (t ∷ [])))))
    -- `for` head statement
    for : {h : LoopHead} {v w : List Token} (a : Box Statement) (word : Token) → word.kind ≡ kind.Keyword keyword.For → IsLoopHead source h v → IsStatement source a.value w →
        IsStatement source (s.For (span_of (word ∷ (v ++ w))) h a) (word ∷ (v ++ w))
    -- `break` `;`
    break : (word t : Token) → word.kind ≡ kind.Keyword keyword.Break → t.kind ≡ kind.Mark mark.Semicolon → IsStatement source (s.Break (span_of (word ∷ t ∷ []))) (word ∷ t ∷ [])
    -- `continue` `;`
    continue : (word t : Token) → word.kind ≡ kind.Keyword keyword.Continue → t.kind ≡ kind.Mark mark.Semicolon → IsStatement source (s.Continue (span_of (word ∷ t ∷ []))) (word ∷ t ∷ [])
    -- `return` value `;`
    return : {x : Option Expression} {w : List Token} (word : Token) → word.kind ≡ kind.Keyword keyword.Return → IsOptionalExpression source x w → IsStatement source (s.Return (span_of (word ∷ w)) x) (word ∷ w)
    -- `;`
    empty : (t : Token) → t.kind ≡ kind.Mark mark.Semicolon → IsStatement source (s.Empty (span_of (t ∷ []))) (t ∷ [])
    -- a simple statement and `;`
    simple : {x : SimpleStatement} {w : List Token} (t : Token) → IsSimple source x w → t.kind ≡ kind.Mark mark.Semicolon → IsStatement source (s.Simple (span_of (w ++ (t ∷ []))) x) (w ++ (t ∷ []))

  -- any number of statements
  pub data AreStatements (source : List ℕ) : List Statement → List Token → Type 0 where
    none : AreStatements source [] []
    more : {xs : List Statement} {x : Statement} {v w : List Token} → AreStatements source xs v → IsStatement source x w → AreStatements source (xs ++ x ∷ []) (v ++ w)

  -- `{` statements `}`
  pub data IsBlock (source : List ℕ) : List Statement → List Token → Type 0 where
    braces : {xs : List Statement} {w : List Token} (left right : Token) → left.kind ≡ kind.Mark mark.LeftBrace → AreStatements source xs w → right.kind ≡ kind.Mark mark.RightBrace → IsBlock source xs (left ∷ (w ++ (right ∷ [])))

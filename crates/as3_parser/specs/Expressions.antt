-- Which tokens an expression is: for each form its tokens in order, and its tree.
use Rattle.std.specs.Prelude.{◌≡◌, ℕ, suc, List, [], ◌∷◌, ◌++◌}
use Rattle.std.specs.Global.{Box, Vec}
use Rattle.as3_lexer.specs.declared.keyword.Keyword.TheVariants as keyword
use Rattle.as3_lexer.specs.declared.mark.Mark.{Mark}
use Rattle.as3_lexer.specs.declared.mark.Mark.TheVariants as mark
use Rattle.as3_lexer.specs.declared.token.Token.{Token}
use Rattle.as3_lexer.specs.declared.token.TokenKind.TheVariants as kind
use Rattle.as3_parser.specs.declared.tree.Lexeme.{Lexeme}
use Rattle.as3_parser.specs.declared.tree.BinaryOperator.{BinaryOperator}
use Rattle.as3_parser.specs.declared.tree.BinaryOperator.TheVariants as binary_operator
use Rattle.as3_parser.specs.declared.tree.UnaryOperator.{UnaryOperator}
use Rattle.as3_parser.specs.declared.tree.UnaryOperator.TheVariants as unary_operator
use Rattle.as3_parser.specs.declared.tree.Expression.{Expression}
use Rattle.as3_parser.specs.declared.tree.Expression.TheVariants as e
use Rattle.as3_parser.specs.Trees.{span_of, lexeme_of, IsPath}

-- how an operator is written
abbrev pub binary_mark : BinaryOperator → Mark
binary_mark binary_operator.Or = mark.Or
binary_mark binary_operator.And = mark.And
binary_mark binary_operator.Equal = mark.Equal
binary_mark binary_operator.NotEqual = mark.NotEqual
binary_mark binary_operator.StrictEqual = mark.StrictEqual
binary_mark binary_operator.StrictNotEqual = mark.StrictNotEqual
binary_mark binary_operator.Less = mark.Less
binary_mark binary_operator.LessOrEqual = mark.LessOrEqual
binary_mark binary_operator.Greater = mark.Greater
binary_mark binary_operator.GreaterOrEqual = mark.GreaterOrEqual
binary_mark binary_operator.Add = mark.Plus
binary_mark binary_operator.Subtract = mark.Minus
binary_mark binary_operator.Multiply = mark.Star
binary_mark binary_operator.Remainder = mark.Percent

abbrev pub unary_mark : UnaryOperator → Mark
unary_mark unary_operator.Negate = mark.Minus
unary_mark unary_operator.Not = mark.Not

-- how strongly a form binds its parts
abbrev pub conditional_strength : ℕ
conditional_strength = 0

abbrev pub strength : BinaryOperator → ℕ
strength binary_operator.Or = 1
strength binary_operator.And = 2
strength binary_operator.Equal = 3
strength binary_operator.NotEqual = 3
strength binary_operator.StrictEqual = 3
strength binary_operator.StrictNotEqual = 3
strength binary_operator.Less = 4
strength binary_operator.LessOrEqual = 4
strength binary_operator.Greater = 4
strength binary_operator.GreaterOrEqual = 4
strength binary_operator.Add = 5
strength binary_operator.Subtract = 5
strength binary_operator.Multiply = 6
strength binary_operator.Remainder = 6

abbrev pub prefix_strength : ℕ
prefix_strength = 7

abbrev pub postfix_strength : ℕ
postfix_strength = 8

abbrev pub primary_strength : ℕ
primary_strength = 9

mutual
  -- these tokens are this expression, which binds at least so strongly
  pub data IsExpression (source : List ℕ) : ℕ → Expression → List Token → Type 0 where
    name : (t : Token) → t.kind ≡ kind.Identifier → IsExpression source primary_strength (e.Name (lexeme_of source t)) (t ∷ [])
    number : (t : Token) → t.kind ≡ kind.Number → IsExpression source primary_strength (e.Number (lexeme_of source t)) (t ∷ [])
    text : (t : Token) → t.kind ≡ kind.Text → IsExpression source primary_strength (e.Text (lexeme_of source t)) (t ∷ [])
    true : (t : Token) → t.kind ≡ kind.Keyword keyword.True → IsExpression source primary_strength (e.True (span_of (t ∷ []))) (t ∷ [])
    false : (t : Token) → t.kind ≡ kind.Keyword keyword.False → IsExpression source primary_strength (e.False (span_of (t ∷ []))) (t ∷ [])
    null : (t : Token) → t.kind ≡ kind.Keyword keyword.Null → IsExpression source primary_strength (e.Null (span_of (t ∷ []))) (t ∷ [])
    this : (t : Token) → t.kind ≡ kind.Keyword keyword.This → IsExpression source primary_strength (e.This (span_of (t ∷ []))) (t ∷ [])
    super : (t : Token) → t.kind ≡ kind.Keyword keyword.Super → IsExpression source primary_strength (e.Super (span_of (t ∷ []))) (t ∷ [])
    -- `(` expression `)`
    parenthesized : {b : Box Expression} {v : List Token} (left right : Token) → left.kind ≡ kind.Mark mark.LeftParenthesis → IsExpression source conditional_strength b.value v → right.kind ≡ kind.Mark mark.RightParenthesis →
        IsExpression source primary_strength (e.Parenthesized (span_of (left ∷ (v ++ (right ∷ [])))) b) (left ∷ (v ++ (right ∷ [])))
    -- `[` items `]`
    array : {v : List Token} (items : Vec Expression) (left : Token) → left.kind ≡ kind.Mark mark.LeftBracket → AreEnclosed source mark.RightBracket items.items v →
        IsExpression source primary_strength (e.Array (span_of (left ∷ v)) items) (left ∷ v)
    -- `new` path `(` arguments `)`
    new : {u v : List Token} (path : Vec Lexeme) (arguments : Vec Expression) (word left : Token) → word.kind ≡ kind.Keyword keyword.New → IsPath source path.items u → left.kind ≡ kind.Mark mark.LeftParenthesis → AreEnclosed source mark.RightParenthesis arguments.items v →
        IsExpression source primary_strength (e.New (span_of (word ∷ (u ++ (left ∷ v)))) path arguments) (word ∷ (u ++ (left ∷ v)))
    -- object `.` name
    member : {b : Box Expression} {v : List Token} (dot t : Token) → IsExpression source postfix_strength b.value v → dot.kind ≡ kind.Mark mark.Dot → t.kind ≡ kind.Identifier →
        IsExpression source postfix_strength (e.Member (span_of (v ++ (dot ∷ t ∷ []))) b (lexeme_of source t)) (v ++ (dot ∷ t ∷ []))
    -- object `[` index `]`
    index : {a b : Box Expression} {u v : List Token} (left right : Token) → IsExpression source postfix_strength a.value u → left.kind ≡ kind.Mark mark.LeftBracket → IsExpression source conditional_strength b.value v → right.kind ≡ kind.Mark mark.RightBracket →
        IsExpression source postfix_strength (e.Index (span_of (u ++ (left ∷ (v ++ (right ∷ []))))) a b) (u ++ (left ∷ (v ++ (right ∷ []))))
    -- function `(` arguments `)`
    call : {b : Box Expression} {u v : List Token} (arguments : Vec Expression) (left : Token) → IsExpression source postfix_strength b.value u → left.kind ≡ kind.Mark mark.LeftParenthesis → AreEnclosed source mark.RightParenthesis arguments.items v →
        IsExpression source postfix_strength (e.Call (span_of (u ++ (left ∷ v))) b arguments) (u ++ (left ∷ v))
    -- operator operand
    unary : {b : Box Expression} {v : List Token} (o : UnaryOperator) (sign : Token) → sign.kind ≡ kind.Mark (unary_mark o) → IsExpression source prefix_strength b.value v →
        IsExpression source prefix_strength (e.Unary (span_of (sign ∷ v)) o b) (sign ∷ v)
    -- operand operator operand, where the one on the right binds more strongly
    binary : {a b : Box Expression} {u v : List Token} (o : BinaryOperator) (sign : Token) → IsExpression source (strength o) a.value u → sign.kind ≡ kind.Mark (binary_mark o) → IsExpression source (suc (strength o)) b.value v →
        IsExpression source (strength o) (e.Binary (span_of (u ++ (sign ∷ v))) o a b) (u ++ (sign ∷ v))
    -- condition `?` expression `:` expression
    conditional : {a b c : Box Expression} {t u v : List Token} (question colon : Token) → IsExpression source (suc conditional_strength) a.value t → question.kind ≡ kind.Mark mark.Question → IsExpression source conditional_strength b.value u → colon.kind ≡ kind.Mark mark.Colon → IsExpression source conditional_strength c.value v →
        IsExpression source conditional_strength (e.Conditional (span_of (t ++ (question ∷ (u ++ (colon ∷ v))))) a b c) (t ++ (question ∷ (u ++ (colon ∷ v))))
    -- what binds more strongly may stand where this is enough
    stronger : {n : ℕ} {x : Expression} {w : List Token} → IsExpression source (suc n) x w → IsExpression source n x w

  -- one or more expressions with commas between them
  pub data AreListed (source : List ℕ) : List Expression → List Token → Type 0 where
    one : {x : Expression} {w : List Token} → IsExpression source conditional_strength x w → AreListed source (x ∷ []) w
    more : {xs : List Expression} {x : Expression} {v w : List Token} (comma : Token) → AreListed source xs v → comma.kind ≡ kind.Mark mark.Comma → IsExpression source conditional_strength x w → AreListed source (xs ++ x ∷ []) (v ++ (comma ∷ w))

  -- any number of them, and a mark behind
  pub data AreEnclosed (source : List ℕ) : Mark → List Expression → List Token → Type 0 where
    none : {close : Mark} (t : Token) → t.kind ≡ kind.Mark close → AreEnclosed source close [] (t ∷ [])
    some : {close : Mark} {xs : List Expression} {w : List Token} (t : Token) → AreListed source xs w → t.kind ≡ kind.Mark close → AreEnclosed source close xs (w ++ (t ∷ []))

-- The operators that kinds of tokens are.
use Rattle.std.specs.Prelude.{ℕ, nat_eq, Option, Some, None, if◌then◌else◌}
use Rattle.as3_lexer.specs.declared.mark.Mark.{Mark}
use Rattle.as3_lexer.specs.declared.mark.Mark.TheVariants as mark
use Rattle.as3_lexer.specs.declared.token.TokenKind.{TokenKind}
use Rattle.as3_lexer.specs.declared.token.TokenKind.TheVariants as kind
use Rattle.as3_parser.specs.declared.tree.BinaryOperator.{BinaryOperator}
use Rattle.as3_parser.specs.declared.tree.BinaryOperator.TheVariants as binary_operator
use Rattle.as3_parser.specs.declared.tree.UnaryOperator.{UnaryOperator}
use Rattle.as3_parser.specs.declared.tree.UnaryOperator.TheVariants as unary_operator
use Rattle.as3_parser.specs.declared.tree.AssignmentOperator.{AssignmentOperator}
use Rattle.as3_parser.specs.declared.tree.AssignmentOperator.TheVariants as assignment_operator
use Rattle.as3_parser.specs.declared.tree.StepOperator.{StepOperator}
use Rattle.as3_parser.specs.declared.tree.StepOperator.TheVariants as step_operator
use Rattle.as3_parser.specs.Expressions.{strength}

abbrev pub operator_of : Mark → Option BinaryOperator
operator_of mark.Or = Some binary_operator.Or
operator_of mark.And = Some binary_operator.And
operator_of mark.Equal = Some binary_operator.Equal
operator_of mark.NotEqual = Some binary_operator.NotEqual
operator_of mark.StrictEqual = Some binary_operator.StrictEqual
operator_of mark.StrictNotEqual = Some binary_operator.StrictNotEqual
operator_of mark.Less = Some binary_operator.Less
operator_of mark.LessOrEqual = Some binary_operator.LessOrEqual
operator_of mark.Greater = Some binary_operator.Greater
operator_of mark.GreaterOrEqual = Some binary_operator.GreaterOrEqual
operator_of mark.Plus = Some binary_operator.Add
operator_of mark.Minus = Some binary_operator.Subtract
operator_of mark.Star = Some binary_operator.Multiply
operator_of mark.Percent = Some binary_operator.Remainder
operator_of _ = None

abbrev pub with_strength : ℕ → Option BinaryOperator → Option BinaryOperator
with_strength n None = None
with_strength n (Some o) = if nat_eq (strength o) n then Some o else None

-- the binary operator of a strength that a kind is
abbrev pub operator_at : Option TokenKind → ℕ → Option BinaryOperator
operator_at (Some (kind.Mark m)) n = with_strength n (operator_of m)
operator_at _ n = None

-- the prefix operator that a kind is
abbrev pub unary_operator_at : Option TokenKind → Option UnaryOperator
unary_operator_at (Some (kind.Mark mark.Minus)) = Some unary_operator.Negate
unary_operator_at (Some (kind.Mark mark.Not)) = Some unary_operator.Not
unary_operator_at _ = None

-- the assignment operator that a kind is
abbrev pub assignment_operator_at : Option TokenKind → Option AssignmentOperator
assignment_operator_at (Some (kind.Mark mark.Assign)) = Some assignment_operator.Assign
assignment_operator_at (Some (kind.Mark mark.PlusAssign)) = Some assignment_operator.Add
assignment_operator_at (Some (kind.Mark mark.MinusAssign)) = Some assignment_operator.Subtract
assignment_operator_at (Some (kind.Mark mark.StarAssign)) = Some assignment_operator.Multiply
assignment_operator_at _ = None

-- the operator of a step that a kind is
abbrev pub step_operator_at : Option TokenKind → Option StepOperator
step_operator_at (Some (kind.Mark mark.Increment)) = Some step_operator.Increment
step_operator_at (Some (kind.Mark mark.Decrement)) = Some step_operator.Decrement
step_operator_at _ = None

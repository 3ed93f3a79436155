use Rattle.as3_parser.proofs.StatementSteps as steps
use Rattle.as3_parser.proofs.statements.return_statement.Goals as goal

pub overflow_sub-levels : goal.overflow_sub-levels
overflow_sub-levels c = steps.statement_levels c.requires.begun

pub optional_expression-requires : goal.optional_expression-requires
optional_expression-requires c = steps.return_value c.requires.begun c.requires.form c.skip.ensures

pub returns : goal.returns
returns c = steps.return_whole c.requires.form c.skip.ensures c.in_ok-value.ensures c.span.ensures

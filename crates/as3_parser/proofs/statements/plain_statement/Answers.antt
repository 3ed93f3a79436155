use Rattle.as3_parser.proofs.StatementSteps as steps
use Rattle.as3_parser.proofs.statements.plain_statement.Goals as goal

pub overflow_sub-levels : goal.overflow_sub-levels
overflow_sub-levels c = steps.statement_levels c.requires.begun

pub simple_statement-requires : goal.simple_statement-requires
simple_statement-requires c = steps.plain_begun c.requires.begun c.requires.form

pub returns : goal.returns
returns c = steps.plain_whole c.requires.form c.in_ok-simple.ensures c.skip.ensures c.span.ensures

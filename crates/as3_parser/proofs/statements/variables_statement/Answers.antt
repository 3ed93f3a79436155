use Rattle.as3_parser.proofs.StatementSteps as steps
use Rattle.as3_parser.proofs.statements.variables_statement.Goals as goal

pub overflow_sub-levels : goal.overflow_sub-levels
overflow_sub-levels c = steps.statement_levels c.requires.begun

pub variables-requires : goal.variables-requires
variables-requires c = steps.variables_begun c.requires.begun c.requires.form c.skip.ensures

pub returns : goal.returns
returns c = steps.variables_statement c.in_ok-variables.variables c.requires.form c.skip.ensures c.in_ok-variables.ensures c.skip-2.ensures c.span.ensures

use Rattle.as3_parser.proofs.StatementSteps as steps
use Rattle.as3_parser.proofs.statements.condition.Goals as goal

pub expression-requires : goal.expression-requires
expression-requires c = steps.condition_begun c.requires c.skip.ensures

pub returns : goal.returns
returns c = steps.condition_whole c.skip.ensures c.in_ok-test.ensures c.skip-2.ensures

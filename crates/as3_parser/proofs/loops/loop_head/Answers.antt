use Rattle.as3_parser.proofs.StatementSteps as steps
use Rattle.as3_parser.proofs.loops.loop_head.Goals as goal

pub loop_start-requires : goal.loop_start-requires
loop_start-requires c = steps.head_start c.requires c.skip.ensures

pub optional_expression-requires : goal.optional_expression-requires
optional_expression-requires c = steps.head_condition c.requires c.skip.ensures c.in_ok-start.ensures

pub loop_step-requires : goal.loop_step-requires
loop_step-requires c = steps.head_step c.requires c.skip.ensures c.in_ok-start.ensures c.in_ok-condition.ensures

pub returns : goal.returns
returns c = steps.head_whole c.skip.ensures c.in_ok-start.ensures c.in_ok-condition.ensures c.in_ok-step.ensures

use Rattle.as3_parser.proofs.Reach.{not_so}
use Rattle.as3_parser.proofs.StatementSteps as steps
use Rattle.as3_parser.proofs.loops.optional_expression.Goals as goal

pub returns-then-is_next : goal.returns-then-is_next
returns-then-is_next c = steps.value_none (c.is_next.ensures.0 c.if-is_next.true) c.skip.ensures

pub expression-requires : goal.expression-requires
expression-requires c = steps.value_begun c.requires (not_so c.is_next.ensures c.if-is_next.false)

pub returns : goal.returns
returns c = steps.value_whole (not_so c.is_next.ensures c.if-is_next.false) c.in_ok-value.ensures c.skip-2.ensures

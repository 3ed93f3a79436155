use Rattle.as3_parser.proofs.Reach.{not_so}
use Rattle.as3_parser.proofs.StatementSteps as steps
use Rattle.as3_parser.proofs.loops.loop_start.Goals as goal

pub returns-then-is_next : goal.returns-then-is_next
returns-then-is_next c = steps.start_none (c.is_next.ensures.0 c.if-is_next.true) c.skip.ensures

pub variables-requires : goal.variables-requires
variables-requires c = steps.start_variables_begun c.requires (not_so c.is_next.ensures c.if-is_next.false) (c.is_keyword_next.ensures.0 c.if-is_keyword_next.true) c.skip-then-is_keyword_next.ensures

pub returns-then-is_keyword_next : goal.returns-then-is_keyword_next
returns-then-is_keyword_next c = steps.start_variables_whole c.in_ok-variables.variables (not_so c.is_next.ensures c.if-is_next.false) (c.is_keyword_next.ensures.0 c.if-is_keyword_next.true) c.skip-then-is_keyword_next.ensures c.in_ok-variables.ensures c.span-span.ensures c.skip-then-is_keyword_next-2.ensures

pub simple_statement-requires : goal.simple_statement-requires
simple_statement-requires c = steps.start_simple_begun c.requires (not_so c.is_next.ensures c.if-is_next.false) (not_so c.is_keyword_next.ensures c.if-is_keyword_next.false)

pub returns : goal.returns
returns c = steps.start_simple_whole (not_so c.is_next.ensures c.if-is_next.false) (not_so c.is_keyword_next.ensures c.if-is_keyword_next.false) c.in_ok-simple.ensures c.skip-2.ensures

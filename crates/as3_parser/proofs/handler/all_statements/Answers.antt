use Rattle.as3_parser.proofs.HandlerSteps.{all_start, all_next, all_more, all_on, all_end}
use Rattle.as3_parser.proofs.handler.all_statements.Goals as goal

pub loop-at-init : goal.loop-at-init
loop-at-init c = all_start c.requires c.new-statements.ensures.items

pub statement-requires : goal.statement-requires
statement-requires c = all_next c.requires c.loop-at.invariant c.loop-at-test.true

pub loop-at-smaller : goal.loop-at-smaller
loop-at-smaller c = all_on c.loop-at.invariant c.loop-at-test.true c.in_ok-next.ensures

pub loop-at-preserved : goal.loop-at-preserved
loop-at-preserved c = all_more c.loop-at.invariant c.loop-at-test.true c.in_ok-next.ensures c.in_ok-push.ensures.items

pub returns : goal.returns
returns c = all_end c.loop-at.statements c.loop-at.invariant c.loop-at-test.false

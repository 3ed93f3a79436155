use Rattle.as3_parser.proofs.MemberSteps as steps
use Rattle.as3_parser.proofs.members.all_items.Goals as goal

pub loop-at-init : goal.loop-at-init
loop-at-init c = steps.all_start c.requires c.new-items.ensures.items

pub item-requires : goal.item-requires
item-requires c = steps.all_next c.requires c.loop-at.invariant c.loop-at-test.true

pub loop-at-smaller : goal.loop-at-smaller
loop-at-smaller c = steps.all_on c.in_ok-next.ensures

pub loop-at-preserved : goal.loop-at-preserved
loop-at-preserved c = steps.all_more c.loop-at.invariant c.in_ok-next.ensures c.in_ok-push.ensures.items

pub returns : goal.returns
returns c = steps.all_end c.loop-at.items c.loop-at.invariant c.loop-at-test.false

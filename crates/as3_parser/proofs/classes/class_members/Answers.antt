use Rattle.as3_parser.proofs.Reach.{not_so}
use Rattle.as3_parser.proofs.ClassSteps as steps
use Rattle.as3_parser.proofs.classes.class_members.Goals as goal

pub loop-alloc-init : goal.loop-alloc-init
loop-alloc-init c = steps.members_start c.new-members.ensures.items

pub member-requires : goal.member-requires
member-requires c = steps.members_next c.requires c.loop-alloc.invariant (not_so c.is_next.ensures c.loop-alloc-test.true)

pub loop-alloc-smaller : goal.loop-alloc-smaller
loop-alloc-smaller c = steps.members_on c.requires c.loop-alloc.invariant (not_so c.is_next.ensures c.loop-alloc-test.true) c.in_ok-next.ensures

pub loop-alloc-preserved : goal.loop-alloc-preserved
loop-alloc-preserved c = steps.members_more c.loop-alloc.invariant (not_so c.is_next.ensures c.loop-alloc-test.true) c.in_ok-next.ensures c.in_ok-push.ensures.items

pub returns : goal.returns
returns c = steps.members_whole c.loop-alloc.members c.loop-alloc.invariant (c.is_next.ensures.0 c.loop-alloc-test.false) c.skip.ensures

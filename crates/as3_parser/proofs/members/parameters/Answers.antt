use Rattle.as3_parser.proofs.Reach.{not_so, sole}
use Rattle.as3_parser.proofs.MemberSteps as steps
use Rattle.as3_parser.proofs.members.parameters.Goals as goal

pub returns-then-is_next : goal.returns-then-is_next
returns-then-is_next c = steps.parameters_none c.new-parameters.result (c.is_next.ensures.0 c.if-is_next.true) c.skip.ensures c.new-parameters.ensures.items

pub parameter-requires : goal.parameter-requires
parameter-requires c = steps.parameters_begun c.requires (not_so c.is_next.ensures c.if-is_next.false)

pub loop-alloc-init : goal.loop-alloc-init
loop-alloc-init c = steps.parameters_start (not_so c.is_next.ensures c.if-is_next.false) c.in_ok-first.ensures (sole c.new-parameters.ensures.items c.in_ok-push.ensures.items)

pub parameter-requires-in-loop-alloc : goal.parameter-requires-in-loop-alloc
parameter-requires-in-loop-alloc c = steps.parameters_next c.requires c.loop-alloc.invariant (c.is_next-in-loop-alloc.ensures.0 c.loop-alloc-test.true) c.skip-in-loop-alloc.ensures

pub loop-alloc-smaller : goal.loop-alloc-smaller
loop-alloc-smaller c = steps.parameters_on c.requires c.loop-alloc.invariant (c.is_next-in-loop-alloc.ensures.0 c.loop-alloc-test.true) c.skip-in-loop-alloc.ensures c.in_ok-next.ensures

pub loop-alloc-preserved : goal.loop-alloc-preserved
loop-alloc-preserved c = steps.parameters_more c.loop-alloc.invariant (c.is_next-in-loop-alloc.ensures.0 c.loop-alloc-test.true) c.skip-in-loop-alloc.ensures c.in_ok-next.ensures c.in_ok-push-2.ensures.items

pub returns : goal.returns
returns c = steps.parameters_whole c.loop-alloc.parameters c.loop-alloc.invariant (not_so c.is_next-in-loop-alloc.ensures c.loop-alloc-test.false) c.skip-2.ensures

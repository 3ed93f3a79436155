use Rattle.as3_parser.proofs.Reach.{not_so, sole}
use Rattle.as3_parser.proofs.MetadataSteps.{arguments_none, arguments_begun, arguments_start, arguments_next, arguments_more, arguments_on, arguments_whole}
use Rattle.as3_parser.proofs.metadata.arguments.Goals as goal

pub returns-then-is_next : goal.returns-then-is_next
returns-then-is_next c = arguments_none c.new-arguments.result (c.is_next.ensures.0 c.if-is_next.true) c.skip.ensures c.new-arguments.ensures.items

pub argument-requires : goal.argument-requires
argument-requires c = arguments_begun c.requires (not_so c.is_next.ensures c.if-is_next.false)

pub loop-alloc-init : goal.loop-alloc-init
loop-alloc-init c = arguments_start (not_so c.is_next.ensures c.if-is_next.false) c.in_ok-first.ensures (sole c.new-arguments.ensures.items c.in_ok-push.ensures.items)

pub argument-requires-in-loop-alloc : goal.argument-requires-in-loop-alloc
argument-requires-in-loop-alloc c = arguments_next c.requires c.loop-alloc.invariant (c.is_next-in-loop-alloc.ensures.0 c.loop-alloc-test.true) c.skip-in-loop-alloc.ensures

pub loop-alloc-smaller : goal.loop-alloc-smaller
loop-alloc-smaller c = arguments_on c.requires c.loop-alloc.invariant (c.is_next-in-loop-alloc.ensures.0 c.loop-alloc-test.true) c.skip-in-loop-alloc.ensures c.in_ok-next.ensures

pub loop-alloc-preserved : goal.loop-alloc-preserved
loop-alloc-preserved c = arguments_more c.loop-alloc.invariant (c.is_next-in-loop-alloc.ensures.0 c.loop-alloc-test.true) c.skip-in-loop-alloc.ensures c.in_ok-next.ensures c.in_ok-push-2.ensures.items

pub returns : goal.returns
returns c = record { is = (arguments_whole c.loop-alloc.arguments c.loop-alloc.invariant (not_so c.is_next-in-loop-alloc.ensures c.loop-alloc-test.false) c.skip-2.ensures).is }

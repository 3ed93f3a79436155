use Rattle.as3_parser.proofs.Reach.{not_so, sole}
use Rattle.as3_parser.proofs.SimpleSteps.{variables_begun, variables_start, variables_next, variables_more, variables_on, variables_end}
use Rattle.as3_parser.proofs.declarations.variables.Goals as goal

pub variable-requires : goal.variable-requires
variable-requires c = variables_begun c.requires

pub loop-alloc-init : goal.loop-alloc-init
loop-alloc-init c = variables_start c.in_ok-first.ensures (sole c.new-variables.ensures.items c.in_ok-push.ensures.items)

pub variable-requires-in-loop-alloc : goal.variable-requires-in-loop-alloc
variable-requires-in-loop-alloc c = variables_next c.requires c.loop-alloc.invariant (c.is_next.ensures.0 c.loop-alloc-test.true) c.skip.ensures

pub loop-alloc-smaller : goal.loop-alloc-smaller
loop-alloc-smaller c = variables_on c.requires c.loop-alloc.invariant (c.is_next.ensures.0 c.loop-alloc-test.true) c.skip.ensures c.in_ok-next.ensures

pub loop-alloc-preserved : goal.loop-alloc-preserved
loop-alloc-preserved c = variables_more c.loop-alloc.invariant (c.is_next.ensures.0 c.loop-alloc-test.true) c.skip.ensures c.in_ok-next.ensures c.in_ok-push-2.ensures.items

pub returns : goal.returns
returns c = variables_end c.loop-alloc.variables c.loop-alloc.invariant (not_so c.is_next.ensures c.loop-alloc-test.false)

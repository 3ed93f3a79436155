use Rattle.as3_parser.proofs.Reach.{not_so, sole}
use Rattle.as3_parser.proofs.MemberSteps as steps
use Rattle.as3_parser.proofs.imports.import_steps.Goals as goal

pub loop-alloc-init : goal.loop-alloc-init
loop-alloc-init c = steps.steps_start c.new-steps.ensures.items

pub import_step-requires : goal.import_step-requires
import_step-requires c = steps.steps_next c.requires c.loop-alloc.invariant (c.is_next.ensures.0 c.loop-alloc-test.true) c.skip.ensures

pub loop-alloc-smaller : goal.loop-alloc-smaller
loop-alloc-smaller c = steps.steps_on c.requires c.loop-alloc.invariant (c.is_next.ensures.0 c.loop-alloc-test.true) c.skip.ensures c.in_ok-step.ensures

pub loop-alloc-preserved : goal.loop-alloc-preserved
loop-alloc-preserved c = steps.steps_more c.loop-alloc.invariant (c.is_next.ensures.0 c.loop-alloc-test.true) c.skip.ensures c.in_ok-step.ensures c.in_ok-push.ensures.items

pub returns : goal.returns
returns c = steps.steps_end c.loop-alloc.steps c.loop-alloc.invariant (not_so c.is_next.ensures c.loop-alloc-test.false)

use Rattle.as3_parser.proofs.Reach.{not_so}
use Rattle.as3_parser.proofs.ClassSteps as steps
use Rattle.as3_parser.proofs.classes.imports.Goals as goal

pub loop-alloc-init : goal.loop-alloc-init
loop-alloc-init c = steps.imports_start c.new-imports.ensures.items

pub import_directive-requires : goal.import_directive-requires
import_directive-requires c = steps.imports_next c.requires c.loop-alloc.invariant (c.is_keyword_next.ensures.0 c.loop-alloc-test.true)

pub loop-alloc-smaller : goal.loop-alloc-smaller
loop-alloc-smaller c = steps.imports_on c.requires c.loop-alloc.invariant (c.is_keyword_next.ensures.0 c.loop-alloc-test.true) c.in_ok-next.ensures

pub loop-alloc-preserved : goal.loop-alloc-preserved
loop-alloc-preserved c = steps.imports_more c.loop-alloc.invariant (c.is_keyword_next.ensures.0 c.loop-alloc-test.true) c.in_ok-next.ensures c.in_ok-push.ensures.items

pub returns : goal.returns
returns c = steps.imports_end c.loop-alloc.imports c.loop-alloc.invariant (not_so c.is_keyword_next.ensures c.loop-alloc-test.false)

use Rattle.as3_parser.proofs.Reach.{not_so, sole}
use Rattle.as3_parser.proofs.PathSteps.{path_there, path_first, path_more_there, path_more, path_ends, path_gets_on}
use Rattle.as3_parser.proofs.paths.path.Goals as goal

pub lexeme-requires : goal.lexeme-requires
lexeme-requires c = path_there c.requires

pub loop-alloc-init : goal.loop-alloc-init
loop-alloc-init c = path_first c.in_ok-first.ensures (sole c.new-names.ensures.items c.in_ok-push.ensures.items)

pub lexeme-requires-in-loop-alloc : goal.lexeme-requires-in-loop-alloc
lexeme-requires-in-loop-alloc c = path_more_there c.requires c.loop-alloc.invariant (c.is_next.ensures.0 c.loop-alloc-test.true) c.skip.ensures

pub loop-alloc-smaller : goal.loop-alloc-smaller
loop-alloc-smaller c = path_gets_on c.requires c.loop-alloc.invariant (c.is_next.ensures.0 c.loop-alloc-test.true) c.skip.ensures c.in_ok-name.ensures

pub loop-alloc-preserved : goal.loop-alloc-preserved
loop-alloc-preserved c = path_more c.loop-alloc.invariant (c.is_next.ensures.0 c.loop-alloc-test.true) c.skip.ensures c.in_ok-name.ensures c.in_ok-push-2.ensures.items

pub returns : goal.returns
returns c = record { is = path_ends c.loop-alloc.invariant (not_so c.is_next.ensures c.loop-alloc-test.false) }

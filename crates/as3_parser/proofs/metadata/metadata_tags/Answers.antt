use Rattle.as3_parser.proofs.Reach.{not_so}
use Rattle.as3_parser.proofs.MetadataSteps.{tags_start, tags_next, tags_more, tags_on, tags_end}
use Rattle.as3_parser.proofs.metadata.metadata_tags.Goals as goal

pub loop-alloc-init : goal.loop-alloc-init
loop-alloc-init c = tags_start c.new-tags.ensures.items

pub metadata_tag-requires : goal.metadata_tag-requires
metadata_tag-requires c = tags_next c.requires c.loop-alloc.invariant (c.is_next.ensures.0 c.loop-alloc-test.true)

pub loop-alloc-smaller : goal.loop-alloc-smaller
loop-alloc-smaller c = tags_on c.requires c.loop-alloc.invariant (c.is_next.ensures.0 c.loop-alloc-test.true) c.in_ok-tag.ensures

pub loop-alloc-preserved : goal.loop-alloc-preserved
loop-alloc-preserved c = tags_more c.loop-alloc.invariant (c.is_next.ensures.0 c.loop-alloc-test.true) c.in_ok-tag.ensures c.in_ok-push.ensures.items

pub returns : goal.returns
returns c = tags_end c.loop-alloc.tags c.loop-alloc.invariant (not_so c.is_next.ensures c.loop-alloc-test.false)

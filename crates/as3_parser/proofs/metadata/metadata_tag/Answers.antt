use Rattle.as3_parser.proofs.Reach.{not_so}
use Rattle.as3_parser.proofs.MetadataSteps.{tag_name, tag_arguments, tag_plain, tag_whole}
use Rattle.as3_parser.proofs.metadata.metadata_tag.Goals as goal

pub lexeme-requires : goal.lexeme-requires
lexeme-requires c = tag_name c.requires c.skip.ensures

pub returns-then-not-is_next : goal.returns-then-not-is_next
returns-then-not-is_next c = tag_plain c.new.result c.skip.ensures c.in_ok-name.ensures (not_so c.is_next.ensures c.if-not-is_next.true) c.skip-then-not-is_next.ensures c.new.ensures.items c.span.ensures

pub arguments-requires : goal.arguments-requires
arguments-requires c = tag_arguments c.requires c.skip.ensures c.in_ok-name.ensures (c.is_next.ensures.0 c.if-not-is_next.false) c.skip-2.ensures

pub returns : goal.returns
returns c = tag_whole c.in_ok-arguments.arguments c.skip.ensures c.in_ok-name.ensures (c.is_next.ensures.0 c.if-not-is_next.false) c.skip-2.ensures c.in_ok-arguments.ensures c.skip-3.ensures c.span-2.ensures

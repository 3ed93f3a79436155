use Rattle.as3_parser.proofs.Reach.{not_so}
use Rattle.as3_parser.proofs.ClassSteps as steps
use Rattle.as3_parser.proofs.classes.base_class.Goals as goal

pub returns-then-not-is_keyword_next : goal.returns-then-not-is_keyword_next
returns-then-not-is_keyword_next c = steps.base_none (not_so c.is_keyword_next.ensures c.if-not-is_keyword_next.true)

pub path-requires : goal.path-requires
path-requires c = steps.base_begun c.requires (c.is_keyword_next.ensures.0 c.if-not-is_keyword_next.false) c.skip.ensures

pub returns : goal.returns
returns c = steps.base_whole c.in_ok-names.names (c.is_keyword_next.ensures.0 c.if-not-is_keyword_next.false) c.skip.ensures c.in_ok-names.ensures

use Rattle.as3_parser.proofs.Reach.{not_so, sole}
use Rattle.as3_parser.proofs.MemberSteps as steps
use Rattle.as3_parser.proofs.members.optional_result.Goals as goal

pub returns-then-not-is_next : goal.returns-then-not-is_next
returns-then-not-is_next c = steps.result_none (not_so c.is_next.ensures c.if-not-is_next.true)

pub returns-then-is_keyword_next : goal.returns-then-is_keyword_next
returns-then-is_keyword_next c = steps.result_void (c.is_next.ensures.0 c.if-not-is_next.false) c.skip.ensures (c.is_keyword_next.ensures.0 c.if-is_keyword_next.true) c.skip-then-is_keyword_next.ensures c.span.ensures

pub path-requires : goal.path-requires
path-requires c = steps.result_path c.requires (c.is_next.ensures.0 c.if-not-is_next.false) c.skip.ensures (not_so c.is_keyword_next.ensures c.if-is_keyword_next.false)

pub returns : goal.returns
returns c = steps.result_whole c.in_ok-names.names (c.is_next.ensures.0 c.if-not-is_next.false) c.skip.ensures (not_so c.is_keyword_next.ensures c.if-is_keyword_next.false) c.in_ok-names.ensures

use Rattle.as3_parser.proofs.Reach.{not_so, sole}
use Rattle.as3_parser.proofs.MemberSteps as steps
use Rattle.as3_parser.proofs.members.member_kind.Goals as goal

pub method-requires : goal.method-requires
method-requires c = steps.kind_method c.requires (not_so c.is_keyword_next.ensures c.if-not-is_keyword_next.true)

pub returns-then-not-is_keyword_next : goal.returns-then-not-is_keyword_next
returns-then-not-is_keyword_next c = steps.kind_returned _ _ _ _ _ (not_so c.is_keyword_next.ensures c.if-not-is_keyword_next.true) c.method.ensures

pub variables-requires : goal.variables-requires
variables-requires c = steps.kind_variables c.requires (c.is_keyword_next.ensures.0 c.if-not-is_keyword_next.false) c.skip.ensures

pub returns : goal.returns
returns c = steps.kind_whole c.in_ok-variables.variables (c.is_keyword_next.ensures.0 c.if-not-is_keyword_next.false) c.skip.ensures c.in_ok-variables.ensures c.skip-2.ensures

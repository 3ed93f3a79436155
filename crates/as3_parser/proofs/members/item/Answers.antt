use Rattle.as3_parser.proofs.Reach.{not_so, sole}
use Rattle.as3_parser.proofs.MemberSteps as steps
use Rattle.as3_parser.proofs.members.item.Goals as goal

pub import_directive-requires : goal.import_directive-requires
import_directive-requires c = steps.item_import c.requires (c.is_keyword_next.ensures.0 c.if-is_keyword_next.true)

pub returns-then-is_keyword_next : goal.returns-then-is_keyword_next
returns-then-is_keyword_next c = steps.item_of_import c.requires (c.is_keyword_next.ensures.0 c.if-is_keyword_next.true) c.in_ok-import.ensures

pub member-requires : goal.member-requires
member-requires c = steps.item_member c.requires (not_so c.is_keyword_next.ensures c.if-is_keyword_next.false)

pub returns : goal.returns
returns c = steps.item_of_member c.requires (not_so c.is_keyword_next.ensures c.if-is_keyword_next.false) c.in_ok-member.ensures

use Rattle.as3_parser.proofs.MemberSteps.{members_begun, members_of}
use Rattle.as3_parser.proofs.parse.parse_members.Goals as goal

pub all_items-requires : goal.all_items-requires
all_items-requires c = members_begun c.as_slice.ensures c.utf8.text c.requires c.in_ok-check_syntax.ensures.sentence

pub returns-clause-tree : goal.returns-clause-tree
returns-clause-tree c = members_of c.in_ok-items.items c.as_slice.ensures c.in_ok-check_syntax.ensures.sentence c.in_ok-items.ensures

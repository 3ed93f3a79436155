use Rattle.as3_parser.proofs.MemberSteps as steps
use Rattle.as3_parser.proofs.members.member.Goals as goal

pub metadata_tags-requires : goal.metadata_tags-requires
metadata_tags-requires c = steps.member_tags c.requires

pub modifiers-requires : goal.modifiers-requires
modifiers-requires c = steps.member_modifiers c.requires c.in_ok-metadata.ensures

pub member_kind-requires : goal.member_kind-requires
member_kind-requires c = steps.member_kind_begun c.requires c.in_ok-metadata.ensures c.in_ok-modifiers.ensures

pub returns : goal.returns
returns c = steps.member_whole c.in_ok-metadata.metadata c.in_ok-modifiers.modifiers c.in_ok-metadata.ensures c.in_ok-modifiers.ensures c.in_ok-kind.ensures c.span.ensures

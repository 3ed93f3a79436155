use Rattle.as3_parser.proofs.ClassSteps as steps
use Rattle.as3_parser.proofs.classes.class.Goals as goal

pub metadata_tags-requires : goal.metadata_tags-requires
metadata_tags-requires c = steps.class_tags c.requires

pub modifiers-requires : goal.modifiers-requires
modifiers-requires c = steps.class_modifiers c.requires c.in_ok-metadata.ensures

pub lexeme-requires : goal.lexeme-requires
lexeme-requires c = steps.class_name c.requires c.in_ok-metadata.ensures c.in_ok-modifiers.ensures c.skip.ensures

pub base_class-requires : goal.base_class-requires
base_class-requires c = steps.class_base c.requires c.in_ok-metadata.ensures c.in_ok-modifiers.ensures c.skip.ensures c.in_ok-name.ensures

pub class_members-requires : goal.class_members-requires
class_members-requires c = steps.class_members c.requires c.in_ok-metadata.ensures c.in_ok-modifiers.ensures c.skip.ensures c.in_ok-name.ensures c.in_ok-base.ensures c.skip-2.ensures

pub returns : goal.returns
returns c = steps.class_whole c.in_ok-metadata.metadata c.in_ok-modifiers.modifiers c.in_ok-members.members c.in_ok-metadata.ensures c.in_ok-modifiers.ensures c.skip.ensures c.in_ok-name.ensures c.in_ok-base.ensures c.skip-2.ensures c.in_ok-members.ensures

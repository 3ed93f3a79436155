use Rattle.as3_parser.proofs.MemberSteps as steps
use Rattle.as3_parser.proofs.members.parameter.Goals as goal

pub lexeme-requires : goal.lexeme-requires
lexeme-requires c = steps.parameter_name c.requires

pub path-requires : goal.path-requires
path-requires c = steps.parameter_path c.requires c.in_ok-name.ensures c.skip.ensures

pub returns : goal.returns
returns c = steps.parameter_whole c.in_ok-type_name.type_name c.in_ok-name.ensures c.skip.ensures c.in_ok-type_name.ensures

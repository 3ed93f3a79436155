use Rattle.as3_parser.proofs.MemberSteps as steps
use Rattle.as3_parser.proofs.members.method.Goals as goal

pub lexeme-requires : goal.lexeme-requires
lexeme-requires c = steps.method_name c.requires c.skip.ensures

pub parameters-requires : goal.parameters-requires
parameters-requires c = steps.method_parameters c.requires c.skip.ensures c.in_ok-name.ensures c.skip-2.ensures

pub optional_result-requires : goal.optional_result-requires
optional_result-requires c = steps.method_result c.requires c.skip.ensures c.in_ok-name.ensures c.skip-2.ensures c.in_ok-parameters.ensures

pub block-requires : goal.block-requires
block-requires c = steps.method_block c.requires c.skip.ensures c.in_ok-name.ensures c.skip-2.ensures c.in_ok-parameters.ensures c.in_ok-result.ensures

pub returns : goal.returns
returns c = steps.method_whole c.in_ok-parameters.parameters c.in_ok-statements.statements c.skip.ensures c.in_ok-name.ensures c.skip-2.ensures c.in_ok-parameters.ensures c.in_ok-result.ensures c.in_ok-statements.ensures

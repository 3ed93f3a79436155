use Rattle.as3_parser.proofs.MemberSteps as steps
use Rattle.as3_parser.proofs.imports.import_directive.Goals as goal

pub lexeme-requires : goal.lexeme-requires
lexeme-requires c = steps.import_name c.requires c.skip.ensures

pub import_steps-requires : goal.import_steps-requires
import_steps-requires c = steps.import_steps c.requires c.skip.ensures c.in_ok-first.ensures

pub returns : goal.returns
returns c = steps.import_whole c.in_ok-steps.steps c.skip.ensures c.in_ok-first.ensures c.in_ok-steps.ensures c.skip-2.ensures c.span.ensures

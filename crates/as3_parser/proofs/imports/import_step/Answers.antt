use Rattle.as3_parser.proofs.Reach.{not_so, sole}
use Rattle.as3_parser.proofs.MemberSteps as steps
use Rattle.as3_parser.proofs.imports.import_step.Goals as goal

pub returns-then-is_next : goal.returns-then-is_next
returns-then-is_next c = steps.step_all (c.is_next.ensures.0 c.if-is_next.true) c.skip.ensures c.span.ensures

pub lexeme-requires : goal.lexeme-requires
lexeme-requires c = steps.step_there c.requires (not_so c.is_next.ensures c.if-is_next.false)

pub returns : goal.returns
returns c = steps.step_name (not_so c.is_next.ensures c.if-is_next.false) c.in_ok-lexeme.ensures

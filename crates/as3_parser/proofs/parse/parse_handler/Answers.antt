use Rattle.std.proofs.Common.{◌∙◌}
use Rattle.as3_parser.proofs.HandlerSteps.{handler_begun, handler_of}
use Rattle.as3_parser.proofs.parse.parse_handler.Goals as goal

pub all_statements-requires : goal.all_statements-requires
all_statements-requires c = handler_begun c.as_slice.ensures (c.as_slice-2.ensures.value ∙ c.in_ok-ended.ensures) c.utf8.text c.requires c.in_ok-check_syntax.ensures.sentence

pub returns-clause-tree : goal.returns-clause-tree
returns-clause-tree c = handler_of c.in_ok-statements.statements c.as_slice.ensures (c.as_slice-2.ensures.value ∙ c.in_ok-ended.ensures) c.in_ok-check_syntax.ensures.sentence c.in_ok-statements.ensures

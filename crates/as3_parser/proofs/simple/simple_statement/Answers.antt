use Rattle.std.proofs.Common.{sym}
use Rattle.as3_parser.proofs.SimpleSteps.{prefix_operand, prefix_whole}
use Rattle.as3_parser.proofs.simple.simple_statement.Goals as goal

pub postfix-requires : goal.postfix-requires
postfix-requires c = prefix_operand c.requires (sym c.in-Some.ensures) c.skip.ensures

pub returns : goal.returns
returns c = prefix_whole (sym c.in-Some.ensures) c.skip.ensures c.in_ok-operand.ensures c.span.ensures

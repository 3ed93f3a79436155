use Rattle.std.proofs.Common.{◌+◌, ◌-◌, ◌*◌, length}
use Rattle.as3_parser.specs.Ahead.{Reads}
use Rattle.as3_parser.specs.Productions as production
use Rattle.as3_parser.specs.Forms.{part}
use Rattle.as3_parser.proofs.StatementSteps.{behind_statements, OpenBlock}
use Rattle.as3_parser.proofs.statements.+statements.Given as goal

abbrev pub decreases-block : goal.decreases-block
decreases-block l = 4 * l.levels + 3

abbrev pub decreases-statement : goal.decreases-statement
decreases-statement l = 4 * l.levels + 1

abbrev pub decreases-block_statement : goal.decreases-block_statement
decreases-block_statement l = 4 * l.levels

abbrev pub decreases-if_statement : goal.decreases-if_statement
decreases-if_statement l = 4 * l.levels

abbrev pub decreases-while_statement : goal.decreases-while_statement
decreases-while_statement l = 4 * l.levels

abbrev pub decreases-do_statement : goal.decreases-do_statement
decreases-do_statement l = 4 * l.levels

abbrev pub decreases-for_statement : goal.decreases-for_statement
decreases-for_statement l = 4 * l.levels

abbrev pub invariant-block-loop-alloc : goal.invariant-block-loop-alloc
invariant-block-loop-alloc l = Reads l.tokens l.fn.at l.at (part production.block) behind_statements (OpenBlock l.text l.items.items)

abbrev pub decreases-block-loop-alloc : goal.decreases-block-loop-alloc
decreases-block-loop-alloc l = length l.tokens - l.at

abbrev pub decreases-nested_statement : goal.decreases-nested_statement
decreases-nested_statement l = 4 * l.levels + 2

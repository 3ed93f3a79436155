use Rattle.std.proofs.Common.{◌-◌, length}
use Rattle.as3_parser.specs.Ahead.{Reached}
use Rattle.as3_parser.specs.Productions as production
use Rattle.as3_parser.specs.Statements.{AreStatements}
use Rattle.as3_parser.specs.Forms.{part}
use Rattle.as3_parser.proofs.handler.all_statements.Given as goal

abbrev pub invariant-loop-at : goal.invariant-loop-at
invariant-loop-at l = Reached l.tokens 0 l.at (part production.statements) (AreStatements l.text l.statements.items)

abbrev pub decreases-loop-at : goal.decreases-loop-at
decreases-loop-at l = length l.tokens - l.at

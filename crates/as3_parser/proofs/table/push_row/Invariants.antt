use Rattle.as3_parser.specs.Here.{Gathered}
use Rattle.as3_parser.proofs.table.push_row.Given as goal

abbrev pub invariant-loop-at : goal.invariant-loop-at
invariant-loop-at l = Gathered l.from l.to l.at l.initial.stack l.stack

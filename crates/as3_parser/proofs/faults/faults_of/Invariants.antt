use Rattle.as3_parser.specs.Syntax.{part_of}
use Rattle.as3_parser.specs.Here.{SoFar, symbols}
use Rattle.as3_parser.proofs.faults.faults_of.Given as goal

abbrev pub invariant-loop-at : goal.invariant-loop-at
invariant-loop-at l = SoFar (part_of l.fn.start) l.kinds l.at (symbols l.stack) l.deep

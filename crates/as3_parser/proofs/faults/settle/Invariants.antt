use Rattle.as3_parser.specs.Here.{load, Reaches}
use Rattle.as3_parser.proofs.faults.settle.Given as goal

abbrev pub invariant-loop-top : goal.invariant-loop-top
invariant-loop-top l = Reaches l.next l.initial.stack l.stack

abbrev pub decreases-loop-top : goal.decreases-loop-top
decreases-loop-top l = load l.stack

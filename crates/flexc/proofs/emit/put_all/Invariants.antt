use Rattle.std.proofs.Common.{◌≡◌, ◌++◌, take}
use Rattle.flexc.proofs.emit.put_all.Given as goal

abbrev pub invariant-loop-instruction : goal.invariant-loop-instruction
invariant-loop-instruction l = l.code ≡ l.initial.code ++ take l.instruction-index l.instructions

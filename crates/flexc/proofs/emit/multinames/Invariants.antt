use Rattle.std.proofs.Common.{◌≡◌, ◌++◌}
use Rattle.flexc.specs.Emitted.{each_from, element_names}
use Rattle.flexc.proofs.emit.multinames.Given as goal

abbrev pub invariant-loop-element : goal.invariant-loop-element
invariant-loop-element l = l.multinames ≡ l.initial.multinames ++ each_from element_names 0 l.element

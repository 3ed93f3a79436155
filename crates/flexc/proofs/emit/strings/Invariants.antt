use Rattle.std.proofs.Common.{◌≡◌, ◌++◌, take}
use Rattle.std.specs.List.{flat_map}
use Rattle.flexc.specs.Emitted.{element_strings}
use Rattle.flexc.proofs.emit.strings.Given as goal

abbrev pub invariant-loop-element : goal.invariant-loop-element
invariant-loop-element l = l.strings ≡ l.initial.strings ++ flat_map element_strings (take l.element-index l.elements)

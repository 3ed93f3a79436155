use Rattle.std.proofs.Common.{◌≡◌, ◌++◌, take}
use Rattle.flexc.specs.Emitted.{each_element, element_code}
use Rattle.flexc.proofs.emit.building_code.Given as goal

abbrev pub invariant-loop-number : goal.invariant-loop-number
invariant-loop-number l = l.code ≡ l.initial.code ++ each_element element_code 0 (take l.number l.elements)

use Rattle.std.proofs.Common.{◌≡◌, [], ◌∷◌, ◌++◌, take}
use Rattle.flexc.specs.Emitted.{each_element, id_trait}
use Rattle.flexc.proofs.emit.instance_traits.Given as goal

abbrev pub invariant-loop-number : goal.invariant-loop-number
invariant-loop-number l = l.traits ≡ l.initial.traits ++ each_element (λ k e. id_trait k e ∷ []) 0 (take l.number l.elements)

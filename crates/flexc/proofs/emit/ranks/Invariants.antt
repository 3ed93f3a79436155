use Rattle.std.proofs.Common.{◌≡◌, [], ◌∷◌, ◌++◌}
use Rattle.std.specs.Prelude.{pos}
use Rattle.flexc.specs.Emitted.{each_from}
use Rattle.flexc.proofs.emit.ranks.Given as goal

abbrev pub invariant-loop-element : goal.invariant-loop-element
invariant-loop-element l = l.integers ≡ l.initial.integers ++ each_from (λ k. pos k ∷ []) 0 l.element

use Rattle.std.proofs.Common.{◌≡◌, ◌≤◌, length, map}
use Rattle.std.specs.Prelude.{drop}
use Rattle.avm2_effects.proofs.starting.watchers.Given as goal
use Rattle.avm2_meaning.specs.Properties.{watcher_of}

abbrev pub invariant-loop-left : goal.invariant-loop-left
invariant-loop-left l = (l.watchers ≡ map watcher_of (drop l.left l.fn.pairs)) × (l.left ≤ length l.fn.pairs)

abbrev pub decreases-loop-left : goal.decreases-loop-left
decreases-loop-left l = l.left

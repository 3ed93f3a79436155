use Rattle.std.proofs.Common.{length, map, ◌++◌, ◌≡◌}
use Rattle.flex_base.specs.Events.{arrival}
use Rattle.flex_base.specs.declared.event.Phase.TheVariants as phase
use Rattle.avm2_natives.proofs.paths.outward.Given as goal

abbrev pub invariant-loop-node : goal.invariant-loop-node
invariant-loop-node l = map (arrival phase.Bubble) l.fn.ancestors ≡ map (arrival phase.Bubble) l.rest ++ l.arrivals

abbrev pub decreases-loop-node : goal.decreases-loop-node
decreases-loop-node l = length l.rest

use Rattle.std.proofs.Common.{length, map, ◌++◌, ◌≡◌}
use Rattle.std.specs.Prelude.{reverse}
use Rattle.flex_base.specs.Events.{arrival}
use Rattle.flex_base.specs.declared.event.Phase.TheVariants as phase
use Rattle.avm2_natives.proofs.paths.put_inward.Given as goal

abbrev pub invariant-loop-node : goal.invariant-loop-node
invariant-loop-node l =
    reverse (map (arrival phase.Capture) l.fn.ancestors) ++ l.fn.arrivals ≡ reverse (map (arrival phase.Capture) l.rest) ++ l.arrivals

abbrev pub decreases-loop-node : goal.decreases-loop-node
decreases-loop-node l = length l.rest

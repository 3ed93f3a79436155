use Rattle.std.proofs.Common.{◌≡◌, ◌++◌, map, take}
use Rattle.std.specs.Prelude.{reverse}
use Rattle.flex_base.specs.Events.{arrival}
use Rattle.flex_base.specs.declared.event.Phase.TheVariants.{Capture}
use Rattle.avm2_machine.proofs.dispatch.put_capturing.Given as goal

abbrev pub invariant-loop-node : goal.invariant-loop-node
invariant-loop-node l = l.nodes ≡ reverse (map (arrival Capture) (take l.node-index l.outer)) ++ l.initial.nodes

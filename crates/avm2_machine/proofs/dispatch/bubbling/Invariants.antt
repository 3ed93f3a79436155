use Rattle.std.proofs.Common.{◌≡◌, map, take}
use Rattle.flex_base.specs.Events.{arrival}
use Rattle.flex_base.specs.declared.event.Phase.TheVariants.{Bubble}
use Rattle.avm2_machine.proofs.dispatch.bubbling.Given as goal

abbrev pub invariant-loop-node : goal.invariant-loop-node
invariant-loop-node l = l.nodes ≡ map (arrival Bubble) (take l.node-index l.outer)

use Rattle.std.proofs.Common.{◌≡◌, map, take}
use Rattle.std.specs.List.{filter}
use Rattle.std.specs.Str.{bytes_eq}
use Rattle.avm2_machine.specs.Machine.{call_at}
use Rattle.avm2_machine.proofs.dispatch.calls_to.Given as goal

abbrev pub invariant-loop-listener : goal.invariant-loop-listener
invariant-loop-listener l = l.calls ≡ map (call_at l.arrival) (filter (λ r. bytes_eq r.event l.kind) (take l.listener-index l.listeners))

use Rattle.std.proofs.Common.{◌≡◌, ◌++◌}
use Rattle.event_flow.specs.Hearers.{listeners}
use Rattle.event_flow.proofs.hearers.Hearers.list.Given as goal

-- the listeners so far, and those that are left
abbrev pub invariant-loop-listener : goal.invariant-loop-listener
invariant-loop-listener l = l.list ++ l.listener-iterator ≡ listeners l.self

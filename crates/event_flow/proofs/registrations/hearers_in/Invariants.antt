use Rattle.std.proofs.Common.{◌≡◌, []}
use Rattle.event_flow.specs.Hearers.{hearers_after}
use Rattle.event_flow.proofs.registrations.hearers_in.Given as goal

-- the registrations that are left are still to be asked
abbrev pub invariant-loop-key : goal.invariant-loop-key
invariant-loop-key l = hearers_after l.kind l.phase l.hearers l.key-iterator ≡ hearers_after l.kind l.phase [] l.pairs.entries

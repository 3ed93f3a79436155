use Rattle.std.proofs.Common.{◌≡◌, ◌+◌, ◌≤◌, length}
use Rattle.flexc.specs.Lines.{script_of, events_from, lines}
use Rattle.flexc.proofs.Lines.{with_before}
use Rattle.flexc.proofs.script.read_script.Given as goal

abbrev pub invariant-loop-line : goal.invariant-loop-line
invariant-loop-line l = (with_before l.events (events_from l.number (lines l.rest)) ≡ script_of l.fn.script) × (l.number + length l.rest ≤ 1 + length l.fn.script)

abbrev pub decreases-loop-line : goal.decreases-loop-line
decreases-loop-line l = length l.rest

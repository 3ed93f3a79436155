use Rattle.avm2_machine.specs.Progress.{remaining}
use Rattle.script_player.specs.Printed.{HasRun}
use Rattle.script_player.proofs.playing.run.Given as goal

abbrev pub invariant-loop-alloc : goal.invariant-loop-alloc
invariant-loop-alloc g l = HasRun l.abc l.main l.fn.machine l.machine (g.O.Sink.state l.fn.out) (g.O.Sink.state l.out)

abbrev pub decreases-loop-alloc : goal.decreases-loop-alloc
decreases-loop-alloc g l = remaining l.abc l.machine

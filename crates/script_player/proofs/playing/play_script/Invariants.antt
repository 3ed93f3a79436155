use Rattle.std.proofs.Common.{drop}
use Rattle.script_player.proofs.Shown.{IsPlaying}
use Rattle.script_player.proofs.playing.play_script.Given as goal

abbrev pub invariant-loop-event : goal.invariant-loop-event
invariant-loop-event g l =
    IsPlaying l.abc l.main l.script l.fn.machine (g.O.Sink.state l.fn.out) l.machine (drop l.event-index l.script) (g.O.Sink.state l.out)

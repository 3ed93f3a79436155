use Rattle.std.proofs.Common.{rules, ◌≡◌, Ok, Err}
use Rattle.flex_base.specs.Line.{outcome_line}
use Rattle.flex_edge.specs.declared.refused.Refused.TheVariants as refused
use Rattle.script_player.specs.Playing.{ComesTo, boot}
use Rattle.script_player.specs.Printed.{HasShown}
use Rattle.flex_base.specs.Story.{with_end}
use Rattle.flex_edge.specs.Whole.{Prints}
use Rattle.script_player.proofs.Played.{nothing_printed, whole_printed, end_printed}
use Rattle.script_player.proofs.playing.play_program.Goals as goal

pub returns-in_err-machine : goal.returns-in_err-machine
returns-in_err-machine g c =
    let is : c.from_residual.result ≡ Err refused.NoMemory = search rules in
    rw is (nothing_printed (ComesTo c.args.abc.now c.args.main.now c.args.script.now (boot c.args.abc.now c.args.turns)) (g.O.Sink.state c.args.out.now))

pub returns-in_err-print_line : goal.returns-in_err-print_line
returns-in_err-print_line g c =
    let shown : HasShown c.args.abc.now c.args.main.now c.args.script.now (boot c.args.abc.now c.args.turns) c.in_ok-outcome.outcome (g.O.Sink.state c.args.out.now) (g.O.Sink.state c.play_script.new.out) = search rules in
    let printed : Prints (g.O.Sink.state c.play_script.new.out) (with_end (outcome_line c.in_ok-outcome.outcome)) (Err c.in_err-print_line.field-0.0) (g.O.Sink.state c.print_line.new.out) = search rules in
    let is : c.from_residual-in_err-print_line.result ≡ Err c.in_err-print_line.field-0.0 = search rules in
    rw is (end_printed _ _ _ _ c.in_err-print_line.field-0.0 c.in_ok-outcome.outcome _ _ _ shown printed)

pub returns : goal.returns
returns g c =
    let shown : HasShown c.args.abc.now c.args.main.now c.args.script.now (boot c.args.abc.now c.args.turns) c.in_ok-outcome.outcome (g.O.Sink.state c.args.out.now) (g.O.Sink.state c.play_script.new.out) = search rules in
    let printed : Prints (g.O.Sink.state c.play_script.new.out) (with_end (outcome_line c.in_ok-outcome.outcome)) (Ok tt) (g.O.Sink.state c.print_line.new.out) = search rules in
    whole_printed _ _ _ _ c.in_ok-outcome.outcome _ _ _ shown printed

use Rattle.std.proofs.Common.{rules, arith, ◌≡◌, ◌+◌, ◌<◌, ◌≤◌, ◌∷◌, None, Err, length, drop, sym, ap, ◌∙◌, subst}
use Rattle.std.proofs.lemmas.List.{drop_more, drop_all}
use Rattle.flex_edge.specs.declared.refused.Refused.TheVariants as refused
use Rattle.script_player.proofs.Shown.{IsPlaying, playing_runs, playing_line, playing_stops, playing_ends, playing_refused, playing_starved}
use Rattle.script_player.proofs.playing.play_script.Goals as goal

pub returns-in_err-run : goal.returns-in_err-run
returns-in_err-run g c =
    let is : c.from_residual.result ≡ Err c.in_err-run.field-0.0 = search rules in
    rw is (playing_refused _ _ _ _ _ _ _ _ _ _ c.in_err-run.field-0.0 c.loop-event.invariant c.in_err-run.ensures.runs)

pub returns-in-Some : goal.returns-in-Some
returns-in-Some g c =
    playing_stops _ _ _ _ _ _ c.in-Some.outcome _ _ (playing_runs _ _ _ _ _ _ _ _ _ _ c.loop-event.invariant c.in_ok-run.ensures.runs) c.in-Some.is

pub returns-in_err-start : goal.returns-in_err-start
returns-in_err-start g c =
    let is : c.from_residual-in_err-start.result ≡ Err refused.NoMemory = search rules in
    rw is (playing_starved _ _ _ _ _ _ _ _ (playing_runs _ _ _ _ _ _ _ _ _ _ c.loop-event.invariant c.in_ok-run.ensures.runs))

pub loop-event-preserved : goal.loop-event-preserved
loop-event-preserved g c =
    let script = c.args.script.now in
    let i = c.loop-event.event-index in
    let event = c.event-item.result in
    let within : i < length script = omega arith in
    let more : drop i script ≡ event ∷ drop (i + 1) script = drop_more script i event within ∙ ap (λ x. x ∷ drop (i + 1) script) (sym c.event-item.is) in
    let ran = playing_runs _ _ _ _ _ _ _ _ _ _ c.loop-event.invariant c.in_ok-run.ensures.runs in
    let before = subst (λ l. IsPlaying c.args.abc.now c.args.main.now script c.args.machine.now (g.O.Sink.state c.args.out.now) c.run.new.machine l (g.O.Sink.state c.run.new.out)) more ran in
    let none : c.run.new.machine.outcome ≡ None = search rules in
    playing_line _ _ _ _ _ _ event _ _ _ before none c.in_ok-run.ensures.rests c.in_ok-start.ensures

pub returns-in_err-run-2 : goal.returns-in_err-run-2
returns-in_err-run-2 g c =
    let is : c.from_residual-in_err-run-2.result ≡ Err c.in_err-run-2.field-0.0 = search rules in
    rw is (playing_refused _ _ _ _ _ _ _ _ _ _ c.in_err-run-2.field-0.0 c.loop-event.invariant c.in_err-run-2.ensures.runs)

pub returns : goal.returns
returns g c =
    let ends : length c.args.script.now ≤ c.loop-event.event-index = omega arith in
    rw c.unwrap_or.ensures
    (playing_ends _ _ _ _ _ _ _ _ (playing_runs _ _ _ _ _ _ _ _ _ _ c.loop-event.invariant c.in_ok-run-2.ensures.runs) (drop_all c.loop-event.event-index c.args.script.now ends)
    c.in_ok-run-2.ensures.rests)

use Rattle.std.proofs.Common.{rules, ◌≡◌, None, Err}
use Rattle.avm2_machine.specs.Machine.{result_of}
use Rattle.script_player.proofs.Ran.{run_goes_on, run_stops}
use Rattle.script_player.proofs.playing.run.Goals as goal

pub loop-alloc-preserved : goal.loop-alloc-preserved
loop-alloc-preserved g c =
    let still : result_of c.loop-alloc.machine ≡ None = search rules in
    run_goes_on _ _ _ _ _ _ _ _ c.loop-alloc.invariant still c.in_ok-advance.ensures.moved c.in_ok-advance.ensures.printed

pub returns-in_err-advance-clause-runs : goal.returns-in_err-advance-clause-runs
returns-in_err-advance-clause-runs g c =
    let still : result_of c.loop-alloc.machine ≡ None = search rules in
    let is : c.from_residual.result ≡ Err c.in_err-advance.field-0.0 = search rules in
    rw is (run_stops _ _ _ _ _ _ _ _ c.in_err-advance.field-0.0 c.loop-alloc.invariant still c.in_err-advance.ensures.printed)

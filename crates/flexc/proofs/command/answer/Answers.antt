use Rattle.std.proofs.Common.{rules, ◌≡◌}
use Rattle.flexc.specs.Command.{outcome_status}
use Rattle.flexc.specs.Words.{texts}
use Rattle.flexc.specs.Work.{HasFailed, HasRun, Reports}
use Rattle.flexc.proofs.Courses.{failed_course, played_course, run_ends}
use Rattle.flexc.proofs.command.answer.Goals as goal

pub returns-in-Err : goal.returns-in-Err
returns-in-Err g c =
    let failed : HasFailed (texts c.args.words.now) c.in-Err.failure (g.F.Files.state c.args.files.now) (g.F.Files.state c.build_and_play.new.files) (g.O.Sink.state c.args.out.now) (g.O.Sink.state c.build_and_play.new.out) = search rules in
    let reports : Reports c.in-Err.failure (g.O.Sink.state c.build_and_play.new.out) c.report.result (g.O.Sink.state c.report.new.out) = search rules in
    failed_course _ c.in-Err.failure _ _ _ _ _ c.report.result failed reports

pub returns : goal.returns
returns g c =
    let run : HasRun (texts c.args.words.now) c.in-Ok.outcome (g.F.Files.state c.args.files.now) (g.F.Files.state c.build_and_play.new.files) (g.O.Sink.state c.args.out.now) (g.O.Sink.state c.build_and_play.new.out) = search rules in
    let is : c.status_of.result ≡ outcome_status c.in-Ok.outcome = search rules in
    played_course _ c.in-Ok.outcome _ _ _ _ c.status_of.result run is (run_ends _ _ _ _ _ _ run)

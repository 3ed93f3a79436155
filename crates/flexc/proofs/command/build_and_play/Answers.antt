use Rattle.std.proofs.Common.{rules, ◌≡◌, Ok, Err, refl, subst}
use Rattle.flexc.specs.Command.{HasBuilt, Writing, Playing}
use Rattle.flexc.specs.Words.{turns, texts, AreWords}
use Rattle.flexc.specs.PlaysAs.{PlaysAs}
use Rattle.script_player.specs.Printed.{HasPlayed, Plays}
use Rattle.flex_edge.specs.Whole.{WritesFile}
use Rattle.flexc.specs.Work.{HasNoDocument}
use Rattle.flex_edge.specs.declared.refused.Refused.TheVariants as refused
use Rattle.flexc.proofs.Works.{nothing_to_play, built_early, written_file}
use Rattle.flexc.proofs.command.build_and_play.Goals as goal

pub returns-in-Err : goal.returns-in-Err
returns-in-Err g c =
    let are : AreWords (texts c.args.words.now) c.in-Some.run'.script.now c.in-Some.run'.out.now c.in-Some.run'.main.now = c.in-Some.ensures.0 in
    let none : HasNoDocument c.in-Some.run'.script.now c.in-Some.run'.main.now c.in-Err.failure (g.F.Files.state c.args.files.now) (g.F.Files.state c.read_job.new.files) = search rules in
    nothing_to_play _ c.in-Some.run'.script.now c.in-Some.run'.out.now c.in-Some.run'.main.now c.in-Err.failure _ _ _ are none

pub returns-in_default-build : goal.returns-in_default-build
returns-in_default-build g c =
    let are : AreWords (texts c.args.words.now) c.in-Some.run'.script.now c.in-Some.run'.out.now c.in-Some.run'.main.now = c.in-Some.ensures.0 in
    let built : HasBuilt c.in-Some.run'.script.now c.in-Some.run'.main.now c.in-Ok.job.document c.in-Ok.job.script (g.F.Files.state c.args.files.now) (g.F.Files.state c.read_job.new.files) = search rules in
    built_early _ c.in-Some.run'.script.now c.in-Some.run'.out.now c.in-Some.run'.main.now c.in-Ok.job.document c.in-Ok.job.script _ _ _ are built

pub returns-in-Err-Failed : goal.returns-in-Err-Failed
returns-in-Err-Failed g c =
    let are : AreWords (texts c.args.words.now) c.in-Some.run'.script.now c.in-Some.run'.out.now c.in-Some.run'.main.now = c.in-Some.ensures.0 in
    let built : HasBuilt c.in-Some.run'.script.now c.in-Some.run'.main.now c.in-Ok.job.document c.in-Ok.job.script (g.F.Files.state c.args.files.now) (g.F.Files.state c.read_job.new.files) = search rules in
    let plays : PlaysAs c.in-Ok-build.swf c.in-Ok.job.document = search rules in
    let written : WritesFile (g.F.Files.state c.read_job.new.files) c.in-Some.run'.out.now c.in-Ok-build.swf (Err refused.Failed) (g.F.Files.state c.write_file.new.files) = search rules in
    (record { script = c.in-Some.run'.script.now; main = c.in-Some.run'.main.now; document = c.in-Ok.job.document; events = c.in-Ok.job.script; are = are; written = written_file _ _ _ _ c.in-Ok.job.document c.in-Ok.job.script (Err refused.Failed) _ _ _ built plays written }, refl)

pub returns-in-Err-NoMemory : goal.returns-in-Err-NoMemory
returns-in-Err-NoMemory g c =
    let are : AreWords (texts c.args.words.now) c.in-Some.run'.script.now c.in-Some.run'.out.now c.in-Some.run'.main.now = c.in-Some.ensures.0 in
    let built : HasBuilt c.in-Some.run'.script.now c.in-Some.run'.main.now c.in-Ok.job.document c.in-Ok.job.script (g.F.Files.state c.args.files.now) (g.F.Files.state c.read_job.new.files) = search rules in
    let plays : PlaysAs c.in-Ok-build.swf c.in-Ok.job.document = search rules in
    let written : WritesFile (g.F.Files.state c.read_job.new.files) c.in-Some.run'.out.now c.in-Ok-build.swf (Err refused.NoMemory) (g.F.Files.state c.write_file.new.files) = search rules in
    Writing c.in-Some.run'.script.now c.in-Some.run'.out.now c.in-Some.run'.main.now c.in-Ok.job.document c.in-Ok.job.script are (written_file _ _ _ _ c.in-Ok.job.document c.in-Ok.job.script (Err refused.NoMemory) _ _ _ built plays written) refl

pub returns-in-Ok-play : goal.returns-in-Ok-play
returns-in-Ok-play g c =
    let are : AreWords (texts c.args.words.now) c.in-Some.run'.script.now c.in-Some.run'.out.now c.in-Some.run'.main.now = c.in-Some.ensures.0 in
    let built : HasBuilt c.in-Some.run'.script.now c.in-Some.run'.main.now c.in-Ok.job.document c.in-Ok.job.script (g.F.Files.state c.args.files.now) (g.F.Files.state c.read_job.new.files) = search rules in
    let plays : PlaysAs c.in-Ok-build.swf c.in-Ok.job.document = search rules in
    let written : WritesFile (g.F.Files.state c.read_job.new.files) c.in-Some.run'.out.now c.in-Ok-build.swf (Ok tt) (g.F.Files.state c.write_file.new.files) = search rules in
    let same : c.in-Some.run'.turns ≡ turns (texts c.args.words.now) = c.in-Some.ensures.1 in
    let by_run : HasPlayed c.in-Ok-build.swf c.in-Ok.job.script c.in-Some.run'.turns c.in-Ok-play.outcome (g.O.Sink.state c.args.out.now) (g.O.Sink.state c.play.new.out) = search rules in
    let played : HasPlayed c.in-Ok-build.swf c.in-Ok.job.script (turns (texts c.args.words.now)) c.in-Ok-play.outcome (g.O.Sink.state c.args.out.now) (g.O.Sink.state c.play.new.out) = subst (λ n. HasPlayed c.in-Ok-build.swf c.in-Ok.job.script n c.in-Ok-play.outcome (g.O.Sink.state c.args.out.now) (g.O.Sink.state c.play.new.out)) same by_run in
    record { script = c.in-Some.run'.script.now; out = c.in-Some.run'.out.now; main = c.in-Some.run'.main.now; document = c.in-Ok.job.document; events = c.in-Ok.job.script; are = are; written = written_file _ _ _ _ c.in-Ok.job.document c.in-Ok.job.script (Ok tt) _ _ _ built plays written; plays = played }

pub returns-in-Err-Failed-play : goal.returns-in-Err-Failed-play
returns-in-Err-Failed-play g c =
    let are : AreWords (texts c.args.words.now) c.in-Some.run'.script.now c.in-Some.run'.out.now c.in-Some.run'.main.now = c.in-Some.ensures.0 in
    let built : HasBuilt c.in-Some.run'.script.now c.in-Some.run'.main.now c.in-Ok.job.document c.in-Ok.job.script (g.F.Files.state c.args.files.now) (g.F.Files.state c.read_job.new.files) = search rules in
    let plays : PlaysAs c.in-Ok-build.swf c.in-Ok.job.document = search rules in
    let written : WritesFile (g.F.Files.state c.read_job.new.files) c.in-Some.run'.out.now c.in-Ok-build.swf (Ok tt) (g.F.Files.state c.write_file.new.files) = search rules in
    let same : c.in-Some.run'.turns ≡ turns (texts c.args.words.now) = c.in-Some.ensures.1 in
    let by_run : Plays c.in-Ok-build.swf c.in-Ok.job.script c.in-Some.run'.turns (g.O.Sink.state c.args.out.now) (Err refused.Failed) (g.O.Sink.state c.play.new.out) = search rules in
    let played : Plays c.in-Ok-build.swf c.in-Ok.job.script (turns (texts c.args.words.now)) (g.O.Sink.state c.args.out.now) (Err refused.Failed) (g.O.Sink.state c.play.new.out) = subst (λ n. Plays c.in-Ok-build.swf c.in-Ok.job.script n (g.O.Sink.state c.args.out.now) (Err refused.Failed) (g.O.Sink.state c.play.new.out)) same by_run in
    record { script = c.in-Some.run'.script.now; out = c.in-Some.run'.out.now; main = c.in-Some.run'.main.now; document = c.in-Ok.job.document; events = c.in-Ok.job.script; are = are; written = written_file _ _ _ _ c.in-Ok.job.document c.in-Ok.job.script (Ok tt) _ _ _ built plays written; plays = played }

pub returns : goal.returns
returns g c =
    let are : AreWords (texts c.args.words.now) c.in-Some.run'.script.now c.in-Some.run'.out.now c.in-Some.run'.main.now = c.in-Some.ensures.0 in
    let built : HasBuilt c.in-Some.run'.script.now c.in-Some.run'.main.now c.in-Ok.job.document c.in-Ok.job.script (g.F.Files.state c.args.files.now) (g.F.Files.state c.read_job.new.files) = search rules in
    let plays : PlaysAs c.in-Ok-build.swf c.in-Ok.job.document = search rules in
    let written : WritesFile (g.F.Files.state c.read_job.new.files) c.in-Some.run'.out.now c.in-Ok-build.swf (Ok tt) (g.F.Files.state c.write_file.new.files) = search rules in
    let same : c.in-Some.run'.turns ≡ turns (texts c.args.words.now) = c.in-Some.ensures.1 in
    let by_run : Plays c.in-Ok-build.swf c.in-Ok.job.script c.in-Some.run'.turns (g.O.Sink.state c.args.out.now) (Err refused.NoMemory) (g.O.Sink.state c.play.new.out) = search rules in
    let played : Plays c.in-Ok-build.swf c.in-Ok.job.script (turns (texts c.args.words.now)) (g.O.Sink.state c.args.out.now) (Err refused.NoMemory) (g.O.Sink.state c.play.new.out) = subst (λ n. Plays c.in-Ok-build.swf c.in-Ok.job.script n (g.O.Sink.state c.args.out.now) (Err refused.NoMemory) (g.O.Sink.state c.play.new.out)) same by_run in
    Playing c.in-Some.run'.script.now c.in-Some.run'.out.now c.in-Some.run'.main.now c.in-Ok.job.document c.in-Ok.job.script are (written_file _ _ _ _ c.in-Ok.job.document c.in-Ok.job.script (Ok tt) _ _ _ built plays written) played

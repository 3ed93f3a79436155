use Rattle.std.proofs.Common.{rules, ◌≡◌, Ok, sym, ap, ◌∙◌}
use Rattle.abc_format.specs.Reading.{read_abc, abc_fault}
use Rattle.script_player.specs.Playing.{HasTrace}
use Rattle.script_player.proofs.Played.{file_is_there, program_is_there, file_played, nothing_printed}
use Rattle.script_player.proofs.playing.play.Goals as goal

pub unreachable-requires : goal.unreachable-requires
unreachable-requires g c =
    let bad = rw c.in-Err-BadSwf.field-0-is at c.in-Err-BadSwf.ensures in
    file_is_there c.args.swf.now c.requires (record { place = c.in-Err-BadSwf.field-0-0; reason = c.in-Err-BadSwf.field-0-1 }) bad

pub unreachable-requires-in-Err-BadAbc : goal.unreachable-requires-in-Err-BadAbc
unreachable-requires-in-Err-BadAbc g c =
    let bad = rw c.in-Err-BadAbc.field-0-is at c.in-Err-BadAbc.ensures in
    program_is_there c.args.swf.now c.requires c.in-Ok.file c.in-Ok.ensures (record { place = c.in-Err-BadAbc.field-0-0; reason = c.in-Err-BadAbc.field-0-1 })
    (sym (ap abc_fault c.as_slice.ensures) ∙ bad)

pub returns-in-Ok-read_abc : goal.returns-in-Ok-read_abc
returns-in-Ok-read_abc g c =
    let program : read_abc c.as_slice.result.now ≡ Ok c.in-Ok-read_abc.abc = search rules in
    file_played c.args.swf.now c.requires c.in-Ok.file c.in-Ok.ensures c.in-Ok-read_abc.abc c.args.script.now c.args.turns _ _ _ (sym (ap read_abc c.as_slice.ensures) ∙ program)
    c.play_program.ensures

pub returns-in-Err-NoMemory : goal.returns-in-Err-NoMemory
returns-in-Err-NoMemory g c = nothing_printed (HasTrace c.args.swf.now c.args.script.now c.args.turns) (g.O.Sink.state c.args.out.now)

pub returns : goal.returns
returns g c = nothing_printed (HasTrace c.args.swf.now c.args.script.now c.args.turns) (g.O.Sink.state c.args.out.now)

-- Tag by tag.
use Rattle.std.proofs.Common.{◌∙◌, ◌++◌, ap, sym, map, append_assoc}
use Rattle.std.specs.Option.{option_to_list}
use Rattle.as3_types.specs.Tables.{event_of}
use Rattle.class_table.specs.Columns.{event_declared, events_declared}
use Rattle.source_table.proofs.SameEvents.{in_front}
use Rattle.source_table.proofs.events.add_events.Goals as goal

pub loop-tag-preserved : goal.loop-tag-preserved
loop-tag-preserved c =
    let table = c.args.table.now in
    let here = c.args.here.now in
    let had = map event_of c.loop-tag.events in
    let event = event_declared table here c.in-Some.tag.now in
    let others = events_declared table here c.in-Some.others.now in
    ap (λ es. es ++ others) c.in_ok-add_event.ensures
    ∙ (append_assoc had (option_to_list event) others ∙ (ap (λ es. had ++ es) (in_front event others) ∙ (ap (λ ts. had ++ events_declared table here ts) (sym c.in-Some.ensures.cases.0) ∙ c.loop-tag.invariant)))

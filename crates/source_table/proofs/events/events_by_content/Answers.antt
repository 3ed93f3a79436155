-- File by file.
use Rattle.std.proofs.Common.{◌∙◌, ◌++◌, [], ◌∷◌, ap, sym, append_assoc, map}
use Rattle.std.proofs.lemmas.List.{map-append, nil_from_length}
use Rattle.as3_types.specs.Tables.{event_of}
use Rattle.source_table.specs.Events.{events_read}
use Rattle.source_table.proofs.SameEvents.{no_event_left}
use Rattle.source_table.proofs.events.events_by_content.Goals as goal

pub loop-file-preserved : goal.loop-file-preserved
loop-file-preserved c =
    let table = c.args.table.now in
    let had = map (map event_of) c.loop-file.events in
    let here = c.in-Some-split_first.here.now in
    let others = c.in-Some-split_first.others.now in
    let found = c.in_ok-found.found in
    let behind = events_read table others c.in-Some.behind.now in
    ap (λ es. map (map event_of) es ++ behind) c.in_ok-push.ensures.ok
    ∙ (ap (λ es. es ++ behind) (map-append (map event_of) c.loop-file.events (found ∷ []))
    ∙ (append_assoc had (map event_of found ∷ []) behind
    ∙ (ap (λ es. had ++ es ∷ behind) c.in_ok-found.ensures
    ∙ (ap (λ fs. had ++ events_read table (here ∷ others) fs) (sym c.in-Some.ensures.cases.0)
    ∙ (ap (λ cs. had ++ events_read table cs c.loop-file.rest.now) (sym c.in-Some-split_first.ensures.cases.0) ∙ c.loop-file.invariant)))))

pub returns : goal.returns
returns c =
    no_event_left c.args.table.now (map (map event_of) c.loop-file.events) c.loop-file.named.now (events_read c.args.table.now c.args.table.now.classes c.args.files.now) c.loop-file.rest.now c.loop-file.invariant
    (nil_from_length c.loop-file.rest.now c.in_default.ensures.cases)

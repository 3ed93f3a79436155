-- Element by element.
use Rattle.std.proofs.Common.{◌∙◌, ◌++◌, ap, sym, append_assoc, filter_map, flat_map, map}
use Rattle.std.proofs.lemmas.List.Elements.{filter_map-append}
use Rattle.source_sites.specs.Trees.{tags_of}
use Rattle.as3_types.specs.Tables.{event_of}
use Rattle.class_table.specs.Columns.{events_declared}
use Rattle.source_table.specs.Events.{declares}
use Rattle.source_table.proofs.events.events_of_metadata.Goals as goal

pub loop-written-preserved : goal.loop-written-preserved
loop-written-preserved c =
    let table = c.args.table.now in
    let here = c.args.here.now in
    let had = map event_of c.loop-written.events in
    let written = c.in-Some.written.now in
    let others = c.in-Some.others.now in
    let behind = filter_map (declares table here) (flat_map tags_of others) in
    ap (λ es. es ++ behind) c.in_ok-add_events.ensures
    ∙ (ap (λ ts. (had ++ events_declared table here ts) ++ behind) c.as_slice.ensures.value
    ∙ (append_assoc had (filter_map (declares table here) (tags_of written)) behind
    ∙ (ap (λ es. had ++ es) (sym (filter_map-append (declares table here) (tags_of written) (flat_map tags_of others)))
    ∙ (ap (λ ms. had ++ filter_map (declares table here) (flat_map tags_of ms)) (sym c.in-Some.ensures.cases.0) ∙ c.loop-written.invariant))))

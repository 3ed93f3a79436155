-- No event, or one.
use Rattle.std.proofs.Common.{◌∙◌, ◌++◌, [], ◌∷◌, ap, sym, map, append-nil}
use Rattle.std.specs.Option.{option_to_list}
use Rattle.std.proofs.lemmas.List.{map-append}
use Rattle.as3_types.specs.declared.table.OwnEvent.{OwnEvent}
use Rattle.as3_types.specs.Tables.{event_of}
use Rattle.class_table.proofs.NamedEvents.{with_class, without_class}
use Rattle.class_table.proofs.events.add_event.Goals as goal

pub returns-in_default : goal.returns-in_default
returns-in_default c =
    sym (append-nil (map event_of c.args.events.now))
    ∙ ap (λ o. map event_of c.args.events.now ++ option_to_list o) (without_class c.args.table.now c.args.here.now c.args.tag.now (sym c.in_default.is ∙ c.in_ok-class.ensures))

pub returns : goal.returns
returns c =
    let event : OwnEvent = record { name = c.in_ok-name.name; class = c.in-Some.class } in
    ap (map event_of) c.in_ok-push.ensures.ok
    ∙ (map-append event_of c.args.events.now (event ∷ [])
    ∙ ap (λ o. map event_of c.args.events.now ++ option_to_list o)
    (with_class c.args.table.now c.args.here.now c.args.tag.now c.in_ok-name.name c.in-Some.class (sym c.in-Some.is ∙ c.in_ok-class.ensures) c.in_ok-name.ensures))

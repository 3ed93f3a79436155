-- The first of this name among the events of a class.
use Rattle.std.proofs.Common.{◌∙◌, ap, bytes_eq}
use Rattle.std.specs.Prelude.{Some, None}
use Rattle.std.specs.List.{find}
use Rattle.as3_types.specs.declared.table.OwnEvent.{OwnEvent}
use Rattle.class_table.proofs.OwnEvents.{of_source}
use Rattle.class_table.proofs.event_look_ups.source_event.Goals as goal

pub returns-in-Some : goal.returns-in-Some
returns-in-Some c =
    of_source c.args.name.now c.args.table.now.events c.args.number c.in_ok-events.events.now (Some c.in-Some.event.now) c.in_ok-events.ensures.value
    (c.in-Some.ensures ∙ (ap (λ n. find (λ (e : OwnEvent). bytes_eq e.name n) c.as_slice.result.now) c.as_bytes.ensures.value ∙ ap (find (λ (e : OwnEvent). bytes_eq e.name c.args.name.now)) c.as_slice.ensures))

pub returns-in-None : goal.returns-in-None
returns-in-None c =
    of_source c.args.name.now c.args.table.now.events c.args.number c.in_ok-events.events.now None c.in_ok-events.ensures.value
    (c.in-None.ensures ∙ (ap (λ n. find (λ (e : OwnEvent). bytes_eq e.name n) c.as_slice.result.now) c.as_bytes.ensures.value ∙ ap (find (λ (e : OwnEvent). bytes_eq e.name c.args.name.now)) c.as_slice.ensures))

use Rattle.std.proofs.Common.{◌∙◌, ap, sym}
use Rattle.std.proofs.lemmas.Option.{slice_get-map}
use Rattle.std.specs.Prelude.{option_map, slice_get}
use Rattle.flex_objects.specs.Properties.{is_slot_in}
use Rattle.flex_objects.specs.Tables.{entry_field}
use Rattle.flex_objects.proofs.slots.SlotTable.is_slot.Goals as goal

pub returns-in-Some : goal.returns-in-Some
returns-in-Some c =
    ap (λ o. is_slot_in (option_map entry_field o)) c.in-Some.ensures.entry
    ∙ ap is_slot_in (sym (slice_get-map entry_field c.self.inside.slots.entries c.args.place) ∙ ap (λ fields. slice_get fields c.args.place) c.self.view_is)

pub returns-in-None : goal.returns-in-None
returns-in-None c =
    ap (λ o. is_slot_in (option_map entry_field o)) c.in-None.ensures.entry
    ∙ ap is_slot_in (sym (slice_get-map entry_field c.self.inside.slots.entries c.args.place) ∙ ap (λ fields. slice_get fields c.args.place) c.self.view_is)

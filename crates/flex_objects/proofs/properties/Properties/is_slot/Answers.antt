use Rattle.std.proofs.Common.{◌≡◌, ◌∙◌, ap, sym}
use Rattle.std.specs.Prelude.{option_map, slice_get}
use Rattle.flex_objects.specs.Properties.{is_slot_in, items_of}
use Rattle.flex_objects.proofs.Fields.{slots_alike}
use Rattle.flex_objects.proofs.properties.Properties.is_slot.Goals as goal

pub returns-in-Some : goal.returns-in-Some
returns-in-Some c =
    let n = c.args.place in
    let fields = items_of (option_map (λ t. t.value) c.self.inside.table) in
    let table : fields ≡ c.in-Some.table.value = ap (λ o. items_of (option_map (λ t. t.value) o)) c.in-Some.is in
    c.is_slot.ensures ∙ ap (λ l. is_slot_in (slice_get l n)) (c.deref.ensures ∙ sym table)
    ∙ sym (slots_alike fields c.self.inside.values.items n c.self.inside.all) ∙ ap (λ l. is_slot_in (slice_get l n)) c.self.view_is

use Rattle.std.proofs.Common.{◌∙◌, ap, sym}
use Rattle.flex_world.specs.Objects.{field_named}
use Rattle.flex_objects.specs.Properties.{is_watched}
use Rattle.flex_objects.proofs.Tables.{is_bindable, watched_found}
use Rattle.flex_objects.proofs.slots.SlotTable.is_bindable.Goals as goal

pub returns-in-Some : goal.returns-in-Some
returns-in-Some c =
    let key = c.args.key.now in
    ap is_bindable c.in-Some.ensures.value ∙ sym (watched_found key c.self.inside.slots.entries) ∙ ap (λ fields. is_watched (field_named key fields)) c.self.view_is

pub returns-in-None : goal.returns-in-None
returns-in-None c =
    let key = c.args.key.now in
    ap is_bindable c.in-None.ensures.value ∙ sym (watched_found key c.self.inside.slots.entries) ∙ ap (λ fields. is_watched (field_named key fields)) c.self.view_is

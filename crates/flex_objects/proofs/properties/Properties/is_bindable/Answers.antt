use Rattle.std.proofs.Common.{◌≡◌, ◌∙◌, ap, sym}
use Rattle.std.specs.Prelude.{option_map}
use Rattle.flex_world.specs.Objects.{field_named}
use Rattle.flex_objects.specs.Properties.{is_watched, items_of}
use Rattle.flex_objects.proofs.Fields.{watched_alike}
use Rattle.flex_objects.proofs.properties.Properties.is_bindable.Goals as goal

pub returns-in-Some : goal.returns-in-Some
returns-in-Some c =
    let key = c.args.key.now in
    let fields = items_of (option_map (λ t. t.value) c.self.inside.table) in
    let table : fields ≡ c.in-Some.table.value = ap (λ o. items_of (option_map (λ t. t.value) o)) c.in-Some.is in
    c.is_bindable.ensures ∙ ap (λ l. is_watched (field_named key l)) (c.deref.ensures ∙ sym table)
    ∙ sym (watched_alike key fields c.self.inside.values.items c.self.inside.all) ∙ ap (λ l. is_watched (field_named key l)) c.self.view_is

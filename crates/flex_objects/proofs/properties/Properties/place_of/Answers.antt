use Rattle.std.proofs.Common.{◌≡◌, ◌∙◌, ap, sym}
use Rattle.std.specs.Prelude.{option_map}
use Rattle.flex_objects.specs.Properties.{items_of, place_of}
use Rattle.flex_objects.proofs.Fields.{place_filled}
use Rattle.flex_objects.proofs.properties.Properties.place_of.Goals as goal

pub returns-in-Some : goal.returns-in-Some
returns-in-Some c =
    let key = c.args.key.now in
    let fields = items_of (option_map (λ t. t.value) c.self.inside.table) in
    let table : fields ≡ c.in-Some.table.value = ap (λ o. items_of (option_map (λ t. t.value) o)) c.in-Some.is in
    c.place_of.ensures ∙ ap (place_of key) (c.deref.ensures ∙ sym table)
    ∙ sym (place_filled key fields c.self.inside.values.items c.self.inside.all) ∙ ap (place_of key) c.self.view_is

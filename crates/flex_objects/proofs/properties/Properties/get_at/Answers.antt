use Rattle.std.proofs.Common.{◌∙◌, ap, sym}
use Rattle.std.specs.Prelude.{option_map, slice_get}
use Rattle.flex_world.specs.Objects.{Field}
use Rattle.flex_objects.specs.Properties.{items_of}
use Rattle.flex_objects.proofs.Fields.{value_filled}
use Rattle.flex_objects.proofs.properties.Properties.get_at.Goals as goal

pub returns : goal.returns
returns c =
    let fields = items_of (option_map (λ t. t.value) c.self.inside.table) in
    c.value_at.ensures ∙ sym (value_filled fields c.self.inside.values.items c.args.place c.self.inside.all)
    ∙ ap (λ l. option_map (λ (f : Field). f.value) (slice_get l c.args.place)) c.self.view_is

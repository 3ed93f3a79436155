use Rattle.std.proofs.Common.{rules, ◌≡◌, ◌∙◌, ap, map}
use Rattle.flex_world.specs.Objects.{Field}
use Rattle.flex_objects.specs.Properties.{filled}
use Rattle.flex_objects.proofs.Fields.{filled_own}
use Rattle.flex_objects.proofs.properties.Properties.of.Goals as goal

pub returns : goal.returns
returns c =
    let fields = c.args.table.now.value in
    let same : c.in_ok-clone.field-0.value ≡ fields = search rules in
    let values : c.in_ok-values.values.items ≡ map (λ (f : Field). f.value) fields = c.in_ok-values.ensures ∙ ap (map (λ (f : Field). f.value)) c.deref.ensures in
    ap (λ l. filled l c.in_ok-values.values.items) same ∙ ap (filled fields) values ∙ filled_own fields

use Rattle.std.proofs.Common.{◌∙◌, ap, sym}
use Rattle.std.specs.Prelude.{option_and_then}
use Rattle.flex_world.specs.Objects.{object_in_slot}
use Rattle.flex_objects.proofs.Fields.{field_at, field_found}
use Rattle.flex_objects.proofs.properties.Properties.object.Goals as goal

pub returns-in-Some : goal.returns-in-Some
returns-in-Some c =
    let fields = c.args.self.now in
    c.object_at.ensures ∙ ap (λ r. option_and_then object_in_slot (field_at fields r)) (sym c.in-Some.is ∙ c.place_of.ensures)
    ∙ ap (option_and_then object_in_slot) (field_found c.args.key.now fields)

pub returns-in-None : goal.returns-in-None
returns-in-None c =
    let fields = c.args.self.now in
    ap (λ r. option_and_then object_in_slot (field_at fields r)) (sym c.in-None.is ∙ c.place_of.ensures)
    ∙ ap (option_and_then object_in_slot) (field_found c.args.key.now fields)

use Rattle.std.proofs.Common.{◌∙◌, ap, sym}
use Rattle.flex_objects.proofs.Fields.{changed_where, value_placed}
use Rattle.flex_objects.proofs.properties.Properties.set.Goals as goal

pub returns-in-Some : goal.returns-in-Some
returns-in-Some c =
    let fields = c.args.self.now in
    c.set_at.ensures ∙ ap (changed_where c.args.value fields) (sym c.in-Some.is ∙ c.place_of.ensures) ∙ value_placed c.args.key.now c.args.value fields

pub returns-in_default : goal.returns-in_default
returns-in_default c =
    let fields = c.args.self.now in
    ap (changed_where c.args.value fields) (sym c.in_default.is ∙ c.place_of.ensures) ∙ value_placed c.args.key.now c.args.value fields

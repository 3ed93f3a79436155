-- A name that is among those of the class.
use Rattle.std.proofs.Common.{◌∙◌, sym}
use Rattle.as3_types.proofs.Natives.{named_property, unnamed_property}
use Rattle.as3_types.proofs.look_ups.own_property.Goals as goal

pub returns-then-stands_among : goal.returns-then-stands_among
returns-then-stands_among c =
    c.property_of.ensures
    ∙ named_property c.args.name.now c.property_names.result.now c.args.class c.property_names.ensures (sym c.stands_among.ensures ∙ c.if-stands_among.true)

pub returns-else-stands_among : goal.returns-else-stands_among
returns-else-stands_among c =
    unnamed_property c.args.name.now c.property_names.result.now c.args.class c.property_names.ensures (sym c.stands_among.ensures ∙ c.if-stands_among.false)

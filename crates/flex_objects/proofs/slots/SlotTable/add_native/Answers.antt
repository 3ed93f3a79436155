use Rattle.std.proofs.Common.{◌∙◌, ap, subst, sym}
use Rattle.std.specs.List.{fold}
use Rattle.flex_objects.specs.Properties.{with_named}
use Rattle.flex_objects.proofs.NativeSlots.{Ready, start_named, start_ready}
use Rattle.flex_objects.proofs.slots.SlotTable.add_native.Goals as goal

pub loop-name-init : goal.loop-name-init
loop-name-init c =
    let class = c.args.class in
    let fields = c.args.self.now in
    let names = c.property_names-name-items.ensures in
    (ap (fold (with_named class) fields) names ∙ start_named class fields, subst (Ready class fields) (sym names) (start_ready class fields c.requires))

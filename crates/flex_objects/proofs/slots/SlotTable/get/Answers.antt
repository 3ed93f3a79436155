use Rattle.std.proofs.Common.{◌∙◌, ap}
use Rattle.std.specs.Prelude.{option_map}
use Rattle.flex_world.specs.Objects.{field_named}
use Rattle.flex_objects.specs.Properties.{slot_field}
use Rattle.flex_objects.proofs.Tables.{found_kept}
use Rattle.flex_objects.proofs.slots.SlotTable.get.Goals as goal

pub returns : goal.returns
returns c =
    let key = c.args.key.now in
    ap (option_map (slot_field key)) c.get.ensures.value ∙ found_kept key c.self.inside.slots.entries ∙ ap (field_named key) c.self.view_is

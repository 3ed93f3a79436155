use Rattle.std.proofs.Common.{◌∙◌, ap, sym}
use Rattle.std.specs.Prelude.{Some, option_map}
use Rattle.flex_objects.specs.Properties.{slot_field}
use Rattle.flex_world.specs.Objects.{field_named}
use Rattle.avm2_effects.specs.Writes.{target_of}
use Rattle.avm2_effects.proofs.Told.{target_told}
use Rattle.avm2_effects.proofs.targets.target_in.Goals as goal

pub returns-in_ok-target_of-in-Some : goal.returns-in_ok-target_of-in-Some
returns-in_ok-target_of-in-Some c =
    let slot = c.in-Some.slot.now in
    let fields = c.args.properties.now in
    let text = c.as_str.result.now in
    ap Some c.in_ok-target_of-in-Some.ensures ∙ ap (λ key. Some (target_of (slot_field key slot))) (sym c.as_str.ensures)
    ∙ target_told text slot (field_named text fields) c.in-Some.ensures ∙ ap (λ key. option_map target_of (field_named key fields)) c.as_str.ensures

-- How a table of properties is kept.
use Rattle.std.specs.Prelude.{String}
use Rattle.std.specs.String.{string_bytes}
use Rattle.flex_world.specs.Objects.{Field}
use Rattle.flex_objects.specs.Properties.{slot_field}
use Rattle.flex_objects.specs.declared.slots.Slot.{Slot}

abbrev pub entry_field : {A : Type 0} → String A × Slot → Field
entry_field e = slot_field (string_bytes e.0) e.1

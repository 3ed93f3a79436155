use Rattle.std.proofs.Common.{◌≡◌, ◌≤◌, length, take}
use Rattle.flex_world.specs.Making.{slots}
use Rattle.flex_objects.proofs.slots.SlotTable.slot_count.Given as goal

-- those before the place are counted
abbrev pub invariant-loop-place : goal.invariant-loop-place
invariant-loop-place l = (l.count ≡ length (slots (take l.place l.fn.self))) × (l.count ≤ l.place)

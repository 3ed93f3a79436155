use Rattle.std.proofs.Common.{◌≡◌, map, take}
use Rattle.flex_world.specs.Objects.{Field}
use Rattle.flex_objects.proofs.slots.SlotTable.first_values.Given as goal

-- the values of the properties before the place
abbrev pub invariant-loop-place : goal.invariant-loop-place
invariant-loop-place l = l.values.items ≡ take l.place (map (λ (f : Field). f.value) l.fn.self)

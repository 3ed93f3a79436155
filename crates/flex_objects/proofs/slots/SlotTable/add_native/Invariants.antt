use Rattle.std.proofs.Common.{◌≡◌, ◌++◌, drop, map}
use Rattle.std.specs.List.{fold}
use Rattle.flex_world.specs.Making.{native_fields}
use Rattle.flex_objects.specs.Properties.{with_named}
use Rattle.flex_objects.proofs.NativeSlots.{Ready}
use Rattle.flex_objects.proofs.slots.SlotTable.add_native.Given as goal

-- the names that are left can be added one after another, and then all are there
abbrev pub invariant-loop-name : goal.invariant-loop-name
invariant-loop-name l =
    (fold (with_named l.class) l.self (map (λ n. n.now) (drop l.name-index l.name-items)) ≡ l.fn.self ++ native_fields l.fn.class)
    × Ready l.class l.self (map (λ n. n.now) (drop l.name-index l.name-items))

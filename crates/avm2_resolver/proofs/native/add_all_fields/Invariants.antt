use Rattle.std.proofs.Common.{◌≡◌, ◌++◌, drop}
use Rattle.std.specs.List.{flat_map}
use Rattle.flex_world.specs.Making.{native_fields}
use Rattle.avm2_resolver.proofs.native.add_all_fields.Given as goal

abbrev pub invariant-loop-class : goal.invariant-loop-class
invariant-loop-class l = l.fields ++ flat_map native_fields (drop l.class-index l.classes) ≡ l.fn.fields ++ flat_map native_fields l.classes

use Rattle.std.proofs.Common.{◌≡◌, ◌++◌, map, drop}
use Rattle.std.specs.List.{flat_map}
use Rattle.flex_world.specs.Making.{native_fields}
use Rattle.avm2_resolver.specs.Natives.{fields_named}
use Rattle.avm2_resolver.proofs.native.add_fields.Given as goal

abbrev pub invariant-loop-name : goal.invariant-loop-name
invariant-loop-name l = l.fields ++ flat_map (fields_named l.class) (map (λ n. n.now) (drop l.name-index l.name-items)) ≡ l.fn.fields ++ native_fields l.class

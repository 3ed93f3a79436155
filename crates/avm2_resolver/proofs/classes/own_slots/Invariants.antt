use Rattle.std.proofs.Common.{◌≡◌, ◌++◌, map, drop}
use Rattle.avm2_program.specs.Naming.{naming_with}
use Rattle.avm2_program.specs.Traits.{own_slot}
use Rattle.avm2_resolver.proofs.classes.own_slots.Given as goal

abbrev pub invariant-loop-info : goal.invariant-loop-info
invariant-loop-info l = l.slots ++ map (own_slot (naming_with l.abc l.classes)) (drop l.info-index l.traits) ≡ map (own_slot (naming_with l.abc l.classes)) l.traits

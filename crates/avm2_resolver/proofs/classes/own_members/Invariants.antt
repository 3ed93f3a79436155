use Rattle.std.proofs.Common.{◌≡◌, ◌++◌, map, drop}
use Rattle.avm2_program.specs.Naming.{naming_with}
use Rattle.avm2_program.specs.Traits.{own_member_of, placed, placed_from}
use Rattle.avm2_resolver.proofs.classes.own_members.Given as goal

abbrev pub invariant-loop-info : goal.invariant-loop-info
invariant-loop-info l =
    l.members ++ map (own_member_of (naming_with l.abc l.classes)) (placed_from l.holder l.number (drop l.info-index l.traits))
    ≡ map (own_member_of (naming_with l.abc l.classes)) (placed l.holder l.traits)

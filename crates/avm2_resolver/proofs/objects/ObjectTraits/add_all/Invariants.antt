use Rattle.std.proofs.Common.{◌≡◌, drop}
use Rattle.std.specs.List.{fold}
use Rattle.avm2_program.specs.Naming.{naming_with}
use Rattle.avm2_program.specs.Traits.{placed, placed_from}
use Rattle.avm2_resolver.specs.Gathering.{with_trait}
use Rattle.avm2_resolver.proofs.objects.ObjectTraits.add_all.Given as goal

-- the traits from here on are still to be added
abbrev pub invariant-loop-info : goal.invariant-loop-info
invariant-loop-info l =
    fold (with_trait (naming_with l.abc l.classes)) l.self (placed_from l.holder l.number (drop l.info-index l.traits))
    ≡ fold (with_trait (naming_with l.abc l.classes)) l.fn.self (placed l.holder l.traits)

use Rattle.std.proofs.Common.{◌≡◌, ◌≤◌, ◌-◌}
use Rattle.std.specs.List.{flat_map, fold}
use Rattle.flex_world.specs.Classes.{lineage_in, upward_in}
use Rattle.flex_world.specs.declared.kind.Class.TheVariants as Class
use Rattle.avm2_program.specs.Naming.{naming_with}
use Rattle.avm2_program.specs.Resolving.{own_traits}
use Rattle.avm2_resolver.specs.Gathering.{with_trait}
use Rattle.avm2_resolver.proofs.objects.ObjectTraits.add_lineage.Given as goal

-- the traits of the classes from this level on are still to be added
abbrev pub invariant-loop : goal.invariant-loop
invariant-loop l =
    (fold (with_trait (naming_with l.abc l.classes)) l.self (flat_map (own_traits (naming_with l.abc l.classes)) (upward_in l.bases (l.most - l.counter) l.level))
    ≡ fold (with_trait (naming_with l.abc l.classes)) l.fn.self (flat_map (own_traits (naming_with l.abc l.classes)) (lineage_in l.bases (Class.File l.fn.class))))
    × (l.counter ≤ l.most)

use Rattle.std.proofs.Common.{◌≡◌, ◌++◌, map, drop}
use Rattle.std.specs.List.{flat_map}
use Rattle.component_catalog.specs.Properties.{Property, properties}
use Rattle.avm2_resolver.proofs.native.add_all_names.Given as goal

abbrev pub invariant-loop-class : goal.invariant-loop-class
invariant-loop-class l =
    l.names ++ flat_map (λ level. map (λ (p : Property). p.name) (properties level)) (drop l.class-index l.classes)
    ≡ l.fn.names ++ flat_map (λ level. map (λ (p : Property). p.name) (properties level)) l.classes

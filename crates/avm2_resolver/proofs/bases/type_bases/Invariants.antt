use Rattle.std.proofs.Common.{◌≡◌, ◌++◌, map, drop}
use Rattle.avm2_program.specs.Naming.{naming_with}
use Rattle.avm2_program.specs.Resolving.{base_with, type_bases}
use Rattle.avm2_resolver.proofs.bases.type_bases.Given as goal

abbrev pub invariant-loop-instance : goal.invariant-loop-instance
invariant-loop-instance l =
    l.bases ++ map (λ i. base_with (naming_with l.abc l.classes) i.super_name) (drop l.instance-index l.instance-items) ≡ type_bases (naming_with l.abc l.classes)

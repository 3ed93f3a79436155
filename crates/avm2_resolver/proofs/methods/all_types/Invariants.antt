use Rattle.std.proofs.Common.{◌≡◌, ◌++◌, map, drop}
use Rattle.avm2_program.specs.Naming.{naming_with, type_at}
use Rattle.avm2_resolver.proofs.methods.all_types.Given as goal

abbrev pub invariant-loop-index : goal.invariant-loop-index
invariant-loop-index l =
    l.found ++ map (type_at (naming_with l.abc l.classes)) (drop l.index-index l.types) ≡ map (type_at (naming_with l.abc l.classes)) l.types

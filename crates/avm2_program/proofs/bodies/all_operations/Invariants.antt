use Rattle.std.proofs.Common.{◌≡◌, ◌++◌, map, drop}
use Rattle.avm2_program.specs.Decoding.{target}
use Rattle.avm2_program.specs.Naming.{naming_with}
use Rattle.avm2_program.specs.Operations.{operation, operations_of}
use Rattle.avm2_program.proofs.bodies.all_operations.Given as goal

-- the instructions from here on are still to be made ready
abbrev pub invariant-loop-placed : goal.invariant-loop-placed
invariant-loop-placed l =
    l.ready ++ map (λ d. operation (naming_with l.abc l.classes) (target l.code d.next) d.instruction) (drop l.placed-index l.code) ≡ operations_of (naming_with l.abc l.classes) l.code

use Rattle.std.proofs.Common.{◌≡◌, ◌++◌, drop}
use Rattle.avm2_program.specs.Naming.{naming_with}
use Rattle.avm2_program.specs.Resolving.{methods_from}
use Rattle.avm2_resolver.proofs.methods.methods.Given as goal

-- the methods from here on are still to be made ready
abbrev pub invariant-loop-info : goal.invariant-loop-info
invariant-loop-info l =
    l.methods ++ methods_from (naming_with l.abc l.classes) l.number (drop l.info-index l.info-items) ≡ methods_from (naming_with l.abc l.classes) 0 l.abc.methods

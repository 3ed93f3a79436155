use Rattle.std.proofs.Common.{◌≡◌, ◌++◌, drop}
use Rattle.avm2_program.specs.Naming.{naming_with}
use Rattle.avm2_program.specs.Resolving.{scripts_from}
use Rattle.avm2_resolver.proofs.classes.scripts.Given as goal

abbrev pub invariant-loop-info : goal.invariant-loop-info
invariant-loop-info l =
    l.scripts ++ scripts_from (naming_with l.abc l.classes) l.number (drop l.info-index l.info-items) ≡ scripts_from (naming_with l.abc l.classes) 0 l.abc.scripts

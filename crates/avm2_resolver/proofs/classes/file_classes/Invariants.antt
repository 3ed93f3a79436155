use Rattle.std.proofs.Common.{◌≡◌, ◌++◌, drop}
use Rattle.avm2_program.specs.Naming.{naming_with}
use Rattle.avm2_program.specs.Resolving.{classes_from}
use Rattle.avm2_resolver.proofs.classes.file_classes.Given as goal

-- the classes from here on are still to be made ready
abbrev pub invariant-loop-instance : goal.invariant-loop-instance
invariant-loop-instance l =
    l.ready ++ classes_from (naming_with l.abc l.classes) l.number (drop l.instance-index l.instance-items) (drop l.number l.abc.classes)
    ≡ classes_from (naming_with l.abc l.classes) 0 l.abc.instances l.abc.classes

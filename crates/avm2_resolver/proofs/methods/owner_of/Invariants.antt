use Rattle.std.proofs.Common.{◌≡◌, drop}
use Rattle.avm2_program.specs.Resolving.{owner_from}
use Rattle.avm2_resolver.proofs.methods.owner_of.Given as goal

-- no class before the number owns the method
abbrev pub invariant-loop-instance : goal.invariant-loop-instance
invariant-loop-instance l =
    owner_from l.method l.number (drop l.instance-index l.instance-items) (drop l.number l.abc.classes) ≡ owner_from l.method 0 l.abc.instances l.abc.classes

use Rattle.std.proofs.Common.{◌≡◌, map, take}
use Rattle.abc_writer.specs.Interning.{qualified_name}
use Rattle.abc_writer.proofs.pool.multinames.Given as goal

abbrev pub invariant-loop-namespace : goal.invariant-loop-namespace
invariant-loop-namespace l = l.multinames ≡ map qualified_name (take l.namespace-index l.names)

use Rattle.std.proofs.Common.{◌≡◌, map, take}
use Rattle.abc_writer.specs.Interning.{namespace_named}
use Rattle.abc_writer.proofs.pool.namespaces.Given as goal

abbrev pub invariant-loop-space : goal.invariant-loop-space
invariant-loop-space l = l.namespaces ≡ map namespace_named (take l.space-index l.spaces)

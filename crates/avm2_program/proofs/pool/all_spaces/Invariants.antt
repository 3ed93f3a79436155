use Rattle.std.proofs.Common.{◌≡◌, ◌++◌, map, drop}
use Rattle.avm2_program.specs.Naming.{space_at}
use Rattle.avm2_program.proofs.pool.all_spaces.Given as goal

-- the namespaces from here on are still to be read
abbrev pub invariant-loop-namespace : goal.invariant-loop-namespace
invariant-loop-namespace l = l.spaces ++ map (space_at l.abc) (drop l.namespace-index l.namespaces) ≡ map (space_at l.abc) l.namespaces

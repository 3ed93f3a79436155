use Rattle.std.proofs.Common.{◌≡◌, ◌++◌, drop, reverse}
use Rattle.avm2_instructions.proofs.classes.copy_of_scopes.Given as goal

abbrev pub invariant-loop-scope : goal.invariant-loop-scope
invariant-loop-scope l = l.copy ++ drop l.scope-index l.scope-items ≡ reverse l.scopes

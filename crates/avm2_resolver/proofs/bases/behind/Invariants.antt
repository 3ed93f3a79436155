use Rattle.std.proofs.Common.{◌≡◌, ◌≤◌, ◌-◌, length}
use Rattle.avm2_program.specs.Resolving.{behind_by, behind_class}
use Rattle.avm2_resolver.proofs.bases.behind.Given as goal

-- from the class that is found, as many steps are left as classes weren't looked at
abbrev pub invariant-loop : goal.invariant-loop
invariant-loop l = (behind_by l.bases (length l.bases - l.counter) l.found ≡ behind_class l.bases l.fn.class) × (l.counter ≤ length l.bases)

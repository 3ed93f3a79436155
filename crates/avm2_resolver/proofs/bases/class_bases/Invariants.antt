use Rattle.std.proofs.Common.{◌≡◌, ◌++◌, drop}
use Rattle.avm2_program.specs.Resolving.{class_bases}
use Rattle.avm2_resolver.proofs.bases.class_bases.Given as goal

abbrev pub invariant-loop-base : goal.invariant-loop-base
invariant-loop-base l = l.found ++ class_bases (drop l.base-index l.bases) ≡ class_bases l.bases

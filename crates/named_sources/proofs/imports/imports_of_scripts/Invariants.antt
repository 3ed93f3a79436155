use Rattle.std.proofs.Common.{◌≡◌, ◌++◌, flat_map, length}
use Rattle.source_sites.specs.Names.{import_in}
use Rattle.source_sites.specs.Trees.{items_of}
use Rattle.named_sources.proofs.imports.imports_of_scripts.Given as goal

abbrev pub invariant-loop-script : goal.invariant-loop-script
invariant-loop-script l = l.imports ++ flat_map import_in (flat_map items_of l.rest) ≡ flat_map import_in (flat_map items_of l.fn.scripts)

abbrev pub decreases-loop-script : goal.decreases-loop-script
decreases-loop-script l = length l.rest

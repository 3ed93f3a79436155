use Rattle.std.proofs.Common.{◌≡◌, ◌++◌, flat_map, length, map}
use Rattle.source_sites.specs.Names.{import_in}
use Rattle.source_sites.specs.Trees.{item_of}
use Rattle.named_sources.proofs.imports.add_imports.Given as goal

abbrev pub invariant-loop-item : goal.invariant-loop-item
invariant-loop-item l = l.imports ++ flat_map import_in (map item_of l.rest) ≡ l.fn.imports ++ flat_map import_in (map item_of l.fn.items)

abbrev pub decreases-loop-item : goal.decreases-loop-item
decreases-loop-item l = length l.rest

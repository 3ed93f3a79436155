use Rattle.std.proofs.Common.{◌≡◌, map, take}
use Rattle.source_sites.specs.Trees.{import_of}
use Rattle.named_sources.proofs.imports.imports_of_class.Given as goal

abbrev pub invariant-loop-import : goal.invariant-loop-import
invariant-loop-import l = l.imports ≡ map import_of (take l.import-index l.written)

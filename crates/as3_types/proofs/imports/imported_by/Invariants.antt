use Rattle.std.proofs.Common.{◌≡◌, length}
use Rattle.source_sites.specs.Names.{imported_by}
use Rattle.as3_types.proofs.imports.imported_by.Given as goal

abbrev pub invariant-loop-import : goal.invariant-loop-import
invariant-loop-import l = imported_by l.fn.classes l.fn.name l.fn.imports ≡ imported_by l.fn.classes l.fn.name l.rest

abbrev pub decreases-loop-import : goal.decreases-loop-import
decreases-loop-import l = length l.rest

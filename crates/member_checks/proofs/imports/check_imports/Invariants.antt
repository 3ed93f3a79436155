use Rattle.std.proofs.Common.{◌≡◌, map, length}
use Rattle.source_sites.specs.Sites.{first_site}
use Rattle.source_sites.specs.Trees.{import_of}
use Rattle.class_sites.specs.MemberSites.{wrong_import}
use Rattle.member_checks.proofs.imports.check_imports.Given as goal

abbrev pub invariant-loop-import : goal.invariant-loop-import
invariant-loop-import l = first_site l.fn.file (map wrong_import (map import_of l.fn.imports)) ≡ first_site l.fn.file (map wrong_import (map import_of l.rest))

abbrev pub decreases-loop-import : goal.decreases-loop-import
decreases-loop-import l = length l.rest

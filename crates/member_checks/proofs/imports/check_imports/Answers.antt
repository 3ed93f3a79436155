-- Import by import.
use Rattle.std.proofs.Common.{[], ◌∷◌, ap, sym, map}
use Rattle.source_sites.specs.Sites.{first_site}
use Rattle.source_sites.specs.Trees.{import_of}
use Rattle.class_sites.specs.MemberSites.{wrong_import}
use Rattle.member_checks.proofs.Walks.{fails_here, holds_here}
use Rattle.member_checks.proofs.imports.check_imports.Goals as goal

pub returns-then-is_some : goal.returns-then-is_some
returns-then-is_some c =
    fails_here c.args.file (first_site c.args.file (map wrong_import (map import_of c.args.imports.now))) c.wrong_import-site.result (wrong_import (import_of c.in-Some.import.now) ∷ [])
    (map wrong_import (map import_of c.in-Some.others.now)) (map wrong_import (map import_of c.loop-import.rest.now)) c.loop-import.invariant (ap (λ is. map wrong_import (map import_of is)) c.in-Some.ensures.cases.0)
    c.wrong_import-site.ensures (sym c.if-is_some.ensures)

pub loop-import-preserved : goal.loop-import-preserved
loop-import-preserved c =
    holds_here c.args.file (first_site c.args.file (map wrong_import (map import_of c.args.imports.now))) c.wrong_import-site.result (wrong_import (import_of c.in-Some.import.now) ∷ [])
    (map wrong_import (map import_of c.in-Some.others.now)) (map wrong_import (map import_of c.loop-import.rest.now)) c.loop-import.invariant (ap (λ is. map wrong_import (map import_of is)) c.in-Some.ensures.cases.0)
    c.wrong_import-site.ensures (sym c.if-is_some.ensures)

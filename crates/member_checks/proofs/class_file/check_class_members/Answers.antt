-- The imports, and then the class.
use Rattle.std.proofs.Common.{◌∙◌, ap, sym, map}
use Rattle.source_sites.specs.Sites.{first_site}
use Rattle.source_sites.specs.Trees.{class_file_of, import_of, member_of}
use Rattle.class_sites.specs.MemberSites.{names_of_members, wrong_import}
use Rattle.as3_types.specs.Tables.{table_of}
use Rattle.member_checks.proofs.OneRules.{class_part, imports_fail, imports_hold}
use Rattle.member_checks.proofs.class_file.check_class_members.Goals as goal

pub returns-then-is_some : goal.returns-then-is_some
returns-then-is_some c =
    let parsed = c.args.parsed.now in
    let names = names_of_members 0 (map member_of parsed.file.class.members.items) in
    λ s knows. imports_fail s.readers knows (table_of c.args.table.now) c.args.file c.args.here.now names c.args.file (class_file_of parsed) c.check_imports-imports.result
    (c.check_imports-imports.ensures ∙ ap (λ is. first_site c.args.file (map wrong_import (map import_of is))) c.as_slice.ensures.value) (sym c.if-is_some.ensures)

pub returns : goal.returns
returns c =
    let parsed = c.args.parsed.now in
    let names = names_of_members 0 (map member_of parsed.file.class.members.items) in
    λ s knows. imports_hold s.readers knows (table_of c.args.table.now) c.args.file c.args.here.now names c.args.file (class_file_of parsed) c.check_imports-imports.result c.in_ok-site.site
    (c.check_imports-imports.ensures ∙ ap (λ is. first_site c.args.file (map wrong_import (map import_of is))) c.as_slice.ensures.value) (sym c.if-is_some.ensures)
    (c.in_ok-site.ensures
    ∙ ap (λ ms. first_site c.args.file (class_part (table_of c.args.table.now) c.args.file c.args.here.now (names_of_members 0 (map member_of ms)) (class_file_of parsed))) c.as_slice-members.ensures.value)

-- File by file.
use Rattle.std.proofs.Common.{◌≡◌, ◌∙◌, ◌+◌, [], suc, ap, sym, length, arith}
use Rattle.std.proofs.lemmas.List.{nil_from_length}
use Rattle.source_sites.specs.Sites.{first_broken}
use Rattle.as3_types.specs.Tables.{table_of}
use Rattle.class_checks.specs.CodeSites.{rules_in}
use Rattle.class_checks.proofs.FileByFile.{found_here, goes_on, next_number, no_files}
use Rattle.class_checks.proofs.files.check_phase.Goals as goal

pub returns-then-is_some : goal.returns-then-is_some
returns-then-is_some c =
    let t = table_of c.args.table.now in
    let l = c.loop-file in
    let others = c.in-Some-split_first.others.now in
    let behind = c.in-Some.behind.now in
    λ s knows. found_here s t c.args.phase (first_broken (rules_in s t c.args.phase 0 c.args.table.now.classes c.args.files.now)) l.number l.classes.now others l.rest.now behind (l.invariant.0 s knows)
    c.in-Some-split_first.here.now c.in-Some.file.now c.in_ok-site.site c.in-Some-split_first.ensures.cases.0 c.in-Some.ensures.cases.0 (c.in_ok-site.ensures s knows) (sym c.if-is_some.ensures)

pub loop-file-preserved : goal.loop-file-preserved
loop-file-preserved c =
    let t = table_of c.args.table.now in
    let l = c.loop-file in
    let others = c.in-Some-split_first.others.now in
    let behind = c.in-Some.behind.now in
    let next : suc c.loop-file.number ≡ c.in_ok-number.number = next_number c.loop-file.number c.checked_add.result c.in_ok-number.number c.checked_add.ensures c.in_ok-number.ensures.ok_part in
    let fewer : length c.in-Some-split_first.others.now + 1 ≡ length c.loop-file.classes.now = c.in-Some-split_first.ensures.cases.1 in
    let so_far : c.loop-file.number + length c.loop-file.classes.now ≡ length c.args.table.now.classes = c.loop-file.invariant.1 in (
      λ s knows. goes_on s t c.args.phase (first_broken (rules_in s t c.args.phase 0 c.args.table.now.classes c.args.files.now)) l.number l.classes.now others l.rest.now behind (l.invariant.0 s knows)
          c.in-Some-split_first.here.now c.in-Some.file.now c.in_ok-site.site c.in-Some-split_first.ensures.cases.0 c.in-Some.ensures.cases.0 (c.in_ok-site.ensures s knows) (sym c.if-is_some.ensures)
          ∙ ap (λ n. first_broken (rules_in s t c.args.phase n others behind)) next,
      omega (arith, next, fewer, so_far),
    )

pub returns : goal.returns
returns c =
    let t = table_of c.args.table.now in
    let l = c.loop-file in
    λ s knows. no_files s t c.args.phase (first_broken (rules_in s t c.args.phase 0 c.args.table.now.classes c.args.files.now)) l.number l.classes.now [] l.rest.now [] (l.invariant.0 s knows)
    (nil_from_length l.rest.now c.in_default.ensures.cases)

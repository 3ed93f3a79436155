-- Statement by statement.
use Rattle.std.proofs.Common.{◌≡◌, ◌∙◌, ◌+◌, drop, ap, sym, subst, IfOk}
use Rattle.std.specs.Prelude.{Option}
use Rattle.source_sites.specs.declared.site.Site.{Site}
use Rattle.source_sites.specs.Trees.{locals_of, locals_of_body, locals_of_start}
use Rattle.member_checks.proofs.Walks.{dropped}
use Rattle.member_checks.proofs.BodyLocals.{fails_first, holds_first, locals_of_block, of_locals}
use Rattle.member_checks.proofs.locals.+locals.Goals as goal

pub check_locals-returns-then-is_some : goal.check_locals-returns-then-is_some
check_locals-returns-then-is_some t c =
    let s = c.args.scope.now in
    let xs = c.args.statements.now in
    let k = c.loop-statement.statement-index in
    let x = c.statement-item.result in
    fails_first s (locals_of x) (locals_of_body (drop (k + 1) xs)) (locals_of_body (drop k xs)) c.in_ok-site.site (ap locals_of_body (dropped xs k x c.statement-item.is c.loop-statement-test.true))
    c.in_ok-site.ensures (sym c.if-is_some.ensures)
    ∙ sym c.loop-statement.invariant

pub check_locals-loop-statement-preserved : goal.check_locals-loop-statement-preserved
check_locals-loop-statement-preserved t c =
    let s = c.args.scope.now in
    let xs = c.args.statements.now in
    let k = c.loop-statement.statement-index in
    let x = c.statement-item.result in
    c.loop-statement.invariant
    ∙ sym
    (holds_first s (locals_of x) (locals_of_body (drop (k + 1) xs)) (locals_of_body (drop k xs)) c.in_ok-site.site (ap locals_of_body (dropped xs k x c.statement-item.is c.loop-statement-test.true))
    c.in_ok-site.ensures (sym c.if-is_some.ensures))

pub check_statement-returns-in-Block : goal.check_statement-returns-in-Block
check_statement-returns-in-Block t c =
    let s = c.args.scope.now in
    let holds : Option Site → Type 0 = λ o. IfOk c.check_locals.result (λ site. site ≡ o) in
    let same : locals_of_body c.as_slice.result.now ≡ locals_of c.args.statement.now =
    ap locals_of_body c.as_slice.ensures.value ∙ (sym (locals_of_block c.in-Block.field-0 c.in-Block.statements) ∙ ap locals_of (sym c.in-Block.is)) in
    subst holds (ap (of_locals s) same) c.check_locals.ensures

pub check_statement-returns-then-is_some : goal.check_statement-returns-then-is_some
check_statement-returns-then-is_some t c =
    let s = c.args.scope.now in
    fails_first s (locals_of c.in-IfElse.body.value) (locals_of c.in-IfElse.other.value) (locals_of c.args.statement.now) c.in_ok-site-in-IfElse.site (ap locals_of c.in-IfElse.is)
    (c.in_ok-site-in-IfElse.ensures ∙ ap (λ x. of_locals s (locals_of x)) c.deref-in-IfElse.ensures) (sym c.if-is_some.ensures)

pub check_statement-returns-else-is_some : goal.check_statement-returns-else-is_some
check_statement-returns-else-is_some t c =
    let s = c.args.scope.now in
    let holds : Option Site → Type 0 = λ o. IfOk c.check_statement-in-IfElse-2.result (λ site. site ≡ o) in
    subst holds
    (ap (λ x. of_locals s (locals_of x)) c.deref-in-IfElse-2.ensures
    ∙ holds_first s (locals_of c.in-IfElse.body.value) (locals_of c.in-IfElse.other.value) (locals_of c.args.statement.now) c.in_ok-site-in-IfElse.site (ap locals_of c.in-IfElse.is)
    (c.in_ok-site-in-IfElse.ensures ∙ ap (λ x. of_locals s (locals_of x)) c.deref-in-IfElse.ensures) (sym c.if-is_some.ensures))
    c.check_statement-in-IfElse-2.ensures

pub check_statement-returns-then-is_some-2 : goal.check_statement-returns-then-is_some-2
check_statement-returns-then-is_some-2 t c =
    let s = c.args.scope.now in
    fails_first s (locals_of_start c.in-For.head.start) (locals_of c.in-For.body.value) (locals_of c.args.statement.now) c.in_ok-site-in-For.site (ap locals_of c.in-For.is) c.in_ok-site-in-For.ensures
    (sym c.if-is_some-2.ensures)

pub check_statement-returns-else-is_some-2 : goal.check_statement-returns-else-is_some-2
check_statement-returns-else-is_some-2 t c =
    let s = c.args.scope.now in
    let holds : Option Site → Type 0 = λ o. IfOk c.check_statement-in-For.result (λ site. site ≡ o) in
    subst holds
    (ap (λ x. of_locals s (locals_of x)) c.deref-in-For.ensures
    ∙ holds_first s (locals_of_start c.in-For.head.start) (locals_of c.in-For.body.value) (locals_of c.args.statement.now) c.in_ok-site-in-For.site (ap locals_of c.in-For.is) c.in_ok-site-in-For.ensures
    (sym c.if-is_some-2.ensures))
    c.check_statement-in-For.ensures

use Rattle.std.proofs.Common.{ℕ, ◌∙◌, List, sym, ap}
use Rattle.std.specs.Prelude.{not}
use Rattle.avm2_verify.specs.Known.{joined}
use Rattle.avm2_verify.specs.Ways.{passed}
use Rattle.avm2_verify.proofs.KnownLaws.{joined_is}
use Rattle.avm2_verify.proofs.ReasonLaws.{not_so}
use Rattle.avm2_verify.proofs.PathReasonLaws.{none_comes, lacking, leaving, going_on, keeps_from, none_found}
use Rattle.avm2_verify.proofs.body.path_ends.Goals as goal

pub returns-in_default : goal.returns-in_default
returns-in_default c = none_comes c.args.abc.now c.args.body.now c.args.table.now c.requires.depths c.args.place (λ d k. let w = c.in_default.ensures ∙ ap joined k in (cc))

pub returns-then-is_none : goal.returns-then-is_none
returns-then-is_none c =
    lacking c.args.abc.now c.args.body.now c.args.table.now c.requires.depths c.args.place c.requires.stands c.in-Some.before (joined_is _ c.in-Some.before (sym c.in-Some.ensures)) c.in-Ok.instruction c.in-Ok.next
    (ap (λ (l : List ℕ). passed c.args.abc.now l c.args.place) (sym c.as_slice.ensures) ∙ sym c.in-Ok.ensures.read)
    (λ k. none_found c.depths_behind.result (c.is_none.ensures ∙ ap not c.if-is_none.true) (c.depths_behind.ensures.all k))

pub returns-then-leaves : goal.returns-then-leaves
returns-then-leaves c =
    let h = c.leaves.ensures.0 c.if-leaves.true in
    leaving c.args.abc.now c.args.body.now c.args.table.now c.requires.depths c.args.place c.requires.stands c.in-Some.before (joined_is _ c.in-Some.before (sym c.in-Some.ensures)) c.in-Ok.instruction c.in-Ok.next
    (ap (λ (l : List ℕ). passed c.args.abc.now l c.args.place) (sym c.as_slice.ensures) ∙ sym c.in-Ok.ensures.read)
    (keeps_from c.depths_behind.result _ _ (c.is_none.ensures ∙ ap not c.if-is_none.false) c.depths_behind.ensures.only) h.0 (h.1 ∙ c.len.ensures)

pub returns-else-leaves : goal.returns-else-leaves
returns-else-leaves c =
    going_on c.args.abc.now c.args.body.now c.args.table.now c.requires.depths c.args.place c.requires.stands c.in-Some.before (joined_is _ c.in-Some.before (sym c.in-Some.ensures)) c.in-Ok.instruction c.in-Ok.next
    (ap (λ (l : List ℕ). passed c.args.abc.now l c.args.place) (sym c.as_slice.ensures) ∙ sym c.in-Ok.ensures.read)
    (keeps_from c.depths_behind.result _ _ (c.is_none.ensures ∙ ap not c.if-is_none.false) c.depths_behind.ensures.only)
    (λ f e. not_so c.leaves.result _ c.leaves.ensures c.if-leaves.false (f, e ∙ sym c.len.ensures))

use Rattle.std.proofs.Common.{ℕ, ◌∙◌, List, sym, ap}
use Rattle.avm2_verify.specs.Reasons.{own_reason}
use Rattle.avm2_verify.proofs.ReasonLaws.{no_exceptions, first_of_start, own_some, own_none, differing, not_so}
use Rattle.avm2_verify.proofs.body.reason_of_differing.Goals as goal

pub returns-in-Some : goal.returns-in-Some
returns-in-Some c =
    first_of_start c.args.abc.now c.args.body.now c.in-Some.reason
    (own_some c.args.abc.now c.args.body.now c.args.marks.now c.requires.marks 0 c.requires.stands c.in-Some.reason
    (ap (λ (l : List ℕ). own_reason c.args.abc.now l c.args.marks.now 0) (sym c.as_slice.ensures) ∙ sym c.in-Some.ensures)
    (no_exceptions c.args.abc.now c.args.body.now 0 (not_so c.is_excepted.result _ c.is_excepted.ensures c.if-is_excepted.false)))

pub returns-in-None : goal.returns-in-None
returns-in-None c =
    differing c.args.abc.now c.args.body.now c.requires.differ
    (own_none c.args.abc.now c.args.body.now c.args.marks.now c.requires.marks 0 c.requires.stands
    (ap (λ (l : List ℕ). own_reason c.args.abc.now l c.args.marks.now 0) (sym c.as_slice.ensures) ∙ sym c.in-None.ensures)
    (no_exceptions c.args.abc.now c.args.body.now 0 (not_so c.is_excepted.result _ c.is_excepted.ensures c.if-is_excepted.false)))

use Rattle.std.proofs.Common.{ℕ, ◌∙◌, List, sym, ap}
use Rattle.avm2_verify.specs.Reasons.{own_reason}
use Rattle.avm2_verify.proofs.ReasonLaws.{no_exceptions, own_some, own_none, not_so}
use Rattle.avm2_verify.proofs.body.reason_at.Goals as goal

pub late_reason-requires-clause-before : goal.late_reason-requires-clause-before
late_reason-requires-clause-before c =
    own_none c.args.abc.now c.args.body.now c.args.marks.now c.requires.marks c.args.place c.requires.stands (ap (λ (l : List ℕ). own_reason c.args.abc.now l c.args.marks.now c.args.place) (sym c.as_slice.ensures) ∙ sym c.in-None.ensures)
    (no_exceptions c.args.abc.now c.args.body.now c.args.place (not_so c.is_excepted.result _ c.is_excepted.ensures c.if-is_excepted.false))

pub returns-in-Some : goal.returns-in-Some
returns-in-Some c =
    own_some c.args.abc.now c.args.body.now c.args.marks.now c.requires.marks c.args.place c.requires.stands c.in-Some.reason
    (ap (λ (l : List ℕ). own_reason c.args.abc.now l c.args.marks.now c.args.place) (sym c.as_slice.ensures) ∙ sym c.in-Some.ensures)
    (no_exceptions c.args.abc.now c.args.body.now c.args.place (not_so c.is_excepted.result _ c.is_excepted.ensures c.if-is_excepted.false))

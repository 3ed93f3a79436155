use Rattle.std.proofs.Common.{length, sym, ◌∙◌, arith}
use Rattle.mxml_items.proofs.Marks.{splits_here, lacks_all}
use Rattle.mxml_items.proofs.bytes.around.Goals as goal

pub returns-in-Some : goal.returns-in-Some
returns-in-Some c =
    rw c.split_at.ensures.front
    (splits_here c.args.mark.now c.args.text.now c.in-Some.rest.now c.loop-i.i (omega arith) c.loop-i.invariant (sym c.split_at.ensures.back ∙ c.in-Some.ensures))

pub returns-in_err-rest : goal.returns-in_err-rest
returns-in_err-rest c =
    rw c.from_residual.ensures
    (lacks_all c.args.mark.now c.args.text.now (λ k less rest is. c.loop-i.invariant k (omega arith) rest is)
    (λ rest is. c.in_err-rest.ensures rest (c.split_at-2.ensures.back ∙ is)))

pub returns : goal.returns
returns c =
    let text = c.args.text.now in
    rw c.split_at-2.ensures.front
    (splits_here c.args.mark.now text c.in_ok-rest.rest.now (length text) (omega arith) (λ k less other is. c.loop-i.invariant k (omega arith) other is)
    (sym c.split_at-2.ensures.back ∙ c.in_ok-rest.ensures))

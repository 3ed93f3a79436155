use Rattle.mxml_items.proofs.AttributeLaws.{value_cut}
use Rattle.mxml_items.proofs.attributes.quoted_by.Goals as goal

pub returns-in_err-rest : goal.returns-in_err-rest
returns-in_err-rest c =
    rw c.from_residual.ensures
    (λ v r b. c.in_err-rest.ensures r (value_cut c.args.quote c.args.body.now c.pieces.result.0.now c.pieces.result.1.now c.pieces.ensures v r b).1)

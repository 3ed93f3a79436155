use Rattle.mxml_items.proofs.References.{match_weaker}
use Rattle.mxml_items.proofs.AttributeLaws.{no_equals, no_quoted, given_by}
use Rattle.mxml_items.proofs.attributes.value.Goals as goal

pub returns-in_err-behind_equals : goal.returns-in_err-behind_equals
returns-in_err-behind_equals c = rw c.from_residual.ensures (no_equals c.args.text.now c.run.result.0.now c.run.result.1.now c.run.ensures c.in_err-behind_equals.ensures)

pub returns : goal.returns
returns c =
    let text = c.args.text.now in
    let gap = c.run.result.0.now in
    let equals = c.run.result.1.now in
    let before = c.in_ok-behind_equals.behind_equals.now in
    let after = c.run-2.result.0.now in
    let value = c.run-2.result.1.now in
    match_weaker _ _ _ _ c.quoted.result
    (λ none. no_quoted text gap equals before after value c.run.ensures c.in_ok-behind_equals.ensures c.run-2.ensures none)
    (λ r q. given_by text gap equals before after value r.0.now r.1.now c.run.ensures c.in_ok-behind_equals.ensures c.run-2.ensures q)
    c.quoted.ensures

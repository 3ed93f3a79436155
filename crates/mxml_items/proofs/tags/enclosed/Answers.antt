use Rattle.mxml_items.proofs.References.{match_weaker}
use Rattle.mxml_items.proofs.TagLaws.{no_ending, enclosed_by}
use Rattle.mxml_items.proofs.tags.enclosed.Goals as goal

pub returns : goal.returns
returns c =
    let text = c.args.text.now in
    let opening = c.args.opening.now in
    let ending = c.args.ending.now in
    let body = c.in_ok-body.body.now in
    match_weaker _ _ _ _ c.around.result (λ none. no_ending opening ending text body c.in_ok-body.ensures none)
    (λ r s. enclosed_by opening ending text body r.0.now r.1.now c.in_ok-body.ensures s) c.around.ensures

use Rattle.std.proofs.Common.{ap, ◌∙◌, ◌++◌}
use Rattle.std.specs.Prelude.{codes}
use Rattle.mxml_items.proofs.References.{match_weaker, by_name, name_refers, by_hexadecimal, hexadecimal_refers, by_decimal, decimal_refers}
use Rattle.mxml_items.proofs.pieces.reference.Goals as goal

pub returns-in_default : goal.returns-in_default
returns-in_default c =
    let text = c.args.text.now in
    match_weaker _ _ _ _ c.named.result (λ none n rest r. none n rest (by_name text c.in_default.ensures n rest r)) (λ r h. name_refers text r.0 r.1.now h) c.named.ensures

pub returns-in-Some-behind : goal.returns-in-Some-behind
returns-in-Some-behind c =
    let text = c.args.text.now in
    let number = c.in-Some-behind.digits.now in
    let is = c.in-Some.ensures ∙ ap (λ x. codes "&#" ++ x) c.in-Some-behind.ensures in
    match_weaker _ _ _ _ c.hexadecimal.result (λ none n rest r. none n rest (by_hexadecimal text number is n rest r)) (λ r h. hexadecimal_refers text number is r.0 r.1.now h) c.hexadecimal.ensures

pub returns-in-None : goal.returns-in-None
returns-in-None c =
    let text = c.args.text.now in
    let number = c.in-Some.body.now in
    match_weaker _ _ _ _ c.decimal.result (λ none n rest r. none n rest (by_decimal text number c.in-Some.ensures c.in-None.ensures n rest r)) (λ r h. decimal_refers text number c.in-Some.ensures r.0 r.1.now h) c.decimal.ensures

use Rattle.std.proofs.Common.{rules, ◌∙◌, ap, length}
use Rattle.std.proofs.lemmas.Iterator.{YieldsList-from_slice}
use Rattle.std.proofs.lemmas.Iterator.Search.{position_from_yields_List}
use Rattle.std.specs.Prelude.{nat_lt, unwrap_or}
use Rattle.flex_objects.proofs.Positions.{found_or_last, place_within}
use Rattle.flex_objects.proofs.keeping.first_above.Goals as goal

pub returns : goal.returns
returns c =
    let found = position_from_yields_List (λ n. nat_lt c.args.number n) _ _ c.position.result c.position.ensures.ran (YieldsList-from_slice c.args.numbers.now cc) (λ x b q k. search rules) in
    c.unwrap_or.ensures ∙ ap (λ o. unwrap_or o (length c.args.numbers.now)) found ∙ found_or_last _ _ (place_within (λ n. nat_lt c.args.number n) c.args.numbers.now)

use Rattle.std.proofs.Common.{rules, tests, ◌∙◌, ap, length}
use Rattle.std.proofs.lemmas.Iterator.{YieldsList-from_slice}
use Rattle.std.proofs.lemmas.Iterator.Search.{position_from_yields_List}
use Rattle.std.specs.Prelude.{not, unwrap_or}
use Rattle.watch_table.specs.Affected.{is_before}
use Rattle.watch_table.proofs.Places.{found_or_last, place_within}
use Rattle.watch_table.proofs.pairs.first_from.Goals as goal

pub returns : goal.returns
returns c =
    let found = position_from_yields_List (λ p. not (is_before p c.args.pair)) _ _ c.position.result c.position.ensures.ran (YieldsList-from_slice c.args.pairs.now cc) (λ x b q k. search (rules, tests)) in
    c.unwrap_or.ensures ∙ ap (λ o. unwrap_or o (length c.args.pairs.now)) found ∙ found_or_last _ _ (place_within c.args.pair c.args.pairs.now)

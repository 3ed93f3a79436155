use Rattle.std.proofs.Common.{rules, ◌≡◌, ◌∙◌, length, ap, rules}
use Rattle.std.specs.List.{position_or_len}
use Rattle.std.specs.Option.{unwrap_or}
use Rattle.std.proofs.lemmas.Iterator.{YieldsList-from_slice}
use Rattle.std.proofs.lemmas.Iterator.Search.{position_from_yields_List}
use borrow.Author.Tests.{tests}
use Rattle.mxml_tree.proofs.TextLaws.{is_other, texts_up_to, place_or_end}
use Rattle.mxml_tree.proofs.texts.split_texts.Goals as goal

pub returns-clause-all : goal.returns-clause-all
returns-clause-all c =
    let items = c.args.items.now in
    let at = position_from_yields_List is_other _ _ c.position.result c.position.ensures.ran (YieldsList-from_slice items cc) (λ x b q k. search (rules, tests)) in
    let count : c.unwrap_or-count.result ≡ position_or_len is_other items = c.unwrap_or-count.ensures ∙ ap (λ place. unwrap_or place (length items)) at ∙ place_or_end items in
    rw (c.split_at.ensures.front, c.split_at.ensures.back, count) (texts_up_to items)

use Rattle.mxml_items.proofs.ItemLaws.{instruction_by, comment_by, cdata_by, end_tag_item, words_item, no_item, tag_or_none}
use Rattle.mxml_items.proofs.items.item.Goals as goal

pub returns-in-Some : goal.returns-in-Some
returns-in-Some c = instruction_by c.args.at c.args.text.now _ c.in-Some.rest.now c.in-Some.ensures

pub returns-in-Some-enclosed : goal.returns-in-Some-enclosed
returns-in-Some-enclosed c = comment_by c.args.at c.args.text.now _ c.in-Some-enclosed.rest.now c.in-Some-enclosed.ensures

pub returns-in-Some-enclosed-2 : goal.returns-in-Some-enclosed-2
returns-in-Some-enclosed-2 c = cdata_by c.args.at c.args.text.now c.in-Some-enclosed-2.content.now c.in-Some-enclosed-2.rest.now c.in-Some-enclosed-2.ensures

pub returns-in-Some-end_tag : goal.returns-in-Some-end_tag
returns-in-Some-end_tag c = end_tag_item c.args.at c.args.text.now c.in-Some-end_tag.name.now c.in-Some-end_tag.rest.now c.in-Some-end_tag.ensures

pub returns-in-Some-words : goal.returns-in-Some-words
returns-in-Some-words c = words_item c.args.at c.args.text.now c.in-Some-words.content.now c.in-Some-words.rest.now c.in-Some-words.ensures

pub returns : goal.returns
returns c =
    let text = c.args.text.now in
    tag_or_none c.args.at text c.tag.result
    (no_item c.args.at text c.in_default.ensures c.in_default-enclosed.ensures c.in_default-enclosed-2.ensures c.in_default-end_tag.ensures c.in_default-words.ensures) c.tag.ensures

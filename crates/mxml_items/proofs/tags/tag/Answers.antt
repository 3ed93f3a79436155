use Rattle.std.proofs.Common.{map, length, ◌+◌}
use Rattle.mxml_items.specs.Reading.{written}
use Rattle.mxml_items.proofs.TagLaws.{no_tag_name, no_tag_closing, tag_by}
use Rattle.mxml_items.proofs.tags.tag.Goals as goal

pub returns-in_default-name : goal.returns-in_default-name
returns-in_default-name c = no_tag_name c.args.text.now c.in-Some.body.now c.in-Some.ensures c.in_default-name.ensures

pub returns-in_default-closing : goal.returns-in_default-closing
returns-in_default-closing c =
    no_tag_closing c.args.text.now c.in-Some.body.now c.in-Some-name.name.now c.in-Some-name.behind_name.now (c.args.at + 1 + length c.in-Some-name.name.now) (map written c.in_ok-attributes.attributes) c.in_ok-attributes.behind_attributes.now c.run.result.0.now c.run.result.1.now
    c.in-Some.ensures c.in-Some-name.ensures c.in_ok-attributes.ensures c.run.ensures c.in_default-closing.ensures

pub returns : goal.returns
returns c =
    tag_by c.args.at c.args.text.now c.in-Some.body.now c.in-Some-name.name.now c.in-Some-name.behind_name.now (map written c.in_ok-attributes.attributes) c.in_ok-attributes.behind_attributes.now c.run.result.0.now c.run.result.1.now
    c.in-Some-closing.empty c.in-Some-closing.rest.now c.in-Some.ensures c.in-Some-name.ensures c.in_ok-attributes.ensures c.run.ensures c.in-Some-closing.ensures

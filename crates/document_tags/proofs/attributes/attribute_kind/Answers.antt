-- With a prefix.
use Rattle.std.proofs.Common.{◌≡◌, ◌∙◌, ap, length, false, rules}
use Rattle.std.specs.Prelude.{◌==◌}
use Rattle.document_sites.specs.Attributes.{Dotted, dotted_name}
use Rattle.document_tags.specs.Kinds.{attribute_on, kind_as}
use Rattle.document_tags.specs.Tags.{standing_as}
use Rattle.document_tags.proofs.Prefixed.{with_prefix}
use Rattle.document_tags.proofs.attributes.attribute_kind.Goals as goal

pub returns-else-is_empty : goal.returns-else-is_empty
returns-else-is_empty c =
    let d = c.args.document in
    let standing = standing_as c.args.standing in
    let a = c.args.attribute.now in
    let prefixed : (length a.space == 0) ≡ false = search rules in
    let on : kind_as c.attribute_on-kind.result ≡ attribute_on d standing (dotted_name a.local).name a.local =
    c.attribute_on-kind.ensures
    ∙ (ap (λ (n : Dotted). attribute_on d standing n.name c.as_str-local.result.now) c.dotted_name.ensures
    ∙ ap (λ l. attribute_on d standing (dotted_name l).name l) c.as_str-local.ensures) in
    with_prefix d standing a (kind_as c.attribute_on-kind.result) (kind_as c.if_judged.result) prefixed on (c.if_judged.ensures d)

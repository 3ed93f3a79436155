-- By what the readers know.
use Rattle.std.proofs.Common.{◌∙◌, [], ◌∷◌, ap}
use Rattle.source_sites.specs.declared.code.Code.TheVariants as code
use Rattle.source_sites.specs.Sites.{first_site, rule}
use Rattle.document_tags.specs.Kinds.{kind_as}
use Rattle.attribute_rules.proofs.Literals.{same_literal}
use Rattle.attribute_rules.proofs.values.bad_attribute_literal.Goals as goal

pub returns : goal.returns
returns c =
    λ j knows. c.site_unless.ensures
    ∙ ap (λ holds. first_site c.args.file (rule c.args.attribute.now.at code.BadLiteral holds ∷ [])) (c.in_ok-holds.ensures ∙ same_literal j knows (kind_as c.args.kind) c.args.attribute.now)

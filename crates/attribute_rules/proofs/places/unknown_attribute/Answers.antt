-- Whatever the document is judged by.
use Rattle.std.proofs.Common.{◌∙◌, [], ◌∷◌, ap, not}
use Rattle.source_sites.specs.declared.code.Code.TheVariants as code
use Rattle.source_sites.specs.Sites.{first_site, rule}
use Rattle.attribute_rules.proofs.places.unknown_attribute.Goals as goal

pub returns : goal.returns
returns c = λ j. c.site_unless.ensures ∙ ap (λ strange. first_site c.args.file (rule c.args.attribute.now.at code.UnknownAttribute (not strange) ∷ [])) c.is_strange-holds.ensures

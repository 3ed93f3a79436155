-- Whatever the document is judged by.
use Rattle.std.proofs.Common.{◌∙◌, [], ◌∷◌, ap}
use Rattle.source_sites.specs.declared.code.Code.TheVariants as code
use Rattle.source_sites.specs.Sites.{first_site, rule}
use Rattle.attribute_rules.proofs.places.wrong_attribute_place.Goals as goal

pub returns : goal.returns
returns c = λ j. c.site_unless.ensures ∙ ap (λ holds. first_site c.args.file (rule c.args.attribute.now.at code.WrongPlace holds ∷ [])) c.stands_rightly-holds.ensures

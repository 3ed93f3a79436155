-- Whatever the document is judged by.
use Rattle.std.proofs.Common.{◌∙◌, [], ◌∷◌, ap, not}
use Rattle.source_sites.specs.declared.code.Code.TheVariants as code
use Rattle.source_sites.specs.Sites.{first_site, rule}
use Rattle.attribute_rules.proofs.places.read_only_attribute.Goals as goal

pub returns : goal.returns
returns c = λ j. c.site_unless.ensures ∙ ap (λ fixed. first_site c.args.file (rule c.args.attribute.now.at code.ReadOnly (not fixed) ∷ [])) c.is_read_only-holds.ensures

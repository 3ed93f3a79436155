-- An event of this name.
use Rattle.std.proofs.Common.{◌∙◌, sym}
use Rattle.as3_types.specs.Meanings.{meaning_of}
use Rattle.document_tags.specs.Tags.{table_in}
use Rattle.document_tags.proofs.Heard.{heard}
use Rattle.document_tags.proofs.attributes.heard_or_strange.Goals as goal

pub returns-in-Some : goal.returns-in-Some
returns-in-Some c =
    heard c.args.name.now (table_in c.args.document) c.args.document.class (meaning_of c.args.meaning) c.in-Some.class (sym c.in-Some.is ∙ c.event_on.ensures)

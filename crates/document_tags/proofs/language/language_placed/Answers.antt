-- Another word.
use Rattle.std.proofs.Common.{◌≡◌, false, bytes_eq, codes, rules}
use Rattle.document_tags.specs.Tags.{placed_as}
use Rattle.document_tags.proofs.OtherWords.{other_word}
use Rattle.document_tags.proofs.language.language_placed.Goals as goal

pub returns-else-eq-4 : goal.returns-else-eq-4
returns-else-eq-4 c =
    let tag = c.args.tag.now in
    let script : bytes_eq tag.local (codes "Script") ≡ false = search rules in
    let metadata : bytes_eq tag.local (codes "Metadata") ≡ false = search rules in
    let declarations : bytes_eq tag.local (codes "Declarations") ≡ false = search rules in
    let binding : bytes_eq tag.local (codes "Binding") ≡ false = search rules in
    other_word c.args.right tag (placed_as c.literal_or_unknown.result) script metadata declarations binding c.literal_or_unknown.ensures

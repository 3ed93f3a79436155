use Rattle.std.proofs.Common.{sym, ◌∙◌, length}
use Rattle.mxml_items.proofs.AttributeLaws.{empty_from, some_from}
use Rattle.mxml_items.proofs.TagLaws.{no_words, words_by}
use Rattle.mxml_items.proofs.tags.words.Goals as goal

pub returns-then-is_empty : goal.returns-then-is_empty
returns-then-is_empty c =
    let content = c.pieces.result.0.now in
    no_words c.args.text.now content c.pieces.result.1.now c.pieces.ensures (empty_from (length content) (sym c.is_empty.ensures ∙ c.if-is_empty.true))

pub returns-else-is_empty : goal.returns-else-is_empty
returns-else-is_empty c =
    let content = c.pieces.result.0.now in
    words_by c.args.text.now content c.pieces.result.1.now c.pieces.ensures (some_from (length content) (sym c.is_empty.ensures ∙ c.if-is_empty.false))

use Rattle.std.proofs.Common.{◌∙◌, Some, ap, sym, true≢false}
use Rattle.flex_front.proofs.DocumentLaws.{no_button}
use Rattle.flex_front.proofs.reading.parts.read_clicked_button.Goals as goal

pub returns-then-not-is_text : goal.returns-then-not-is_text
returns-then-not-is_text c =
    no_button c.args.tag.now c.in_ok-id.id.now c.in_ok-text.text.now
    (c.requires.is_button, c.requires.two, sym c.in_ok-id.ensures, sym c.in_ok-call.ensures ∙ ap Some c.in_ok-text.ensures)
    (λ is_id is_text. true≢false (sym (c.is_text.ensures.1 is_text) ∙ c.if-not-is_text.true))

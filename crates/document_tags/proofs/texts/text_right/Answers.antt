-- In tags whose texts depend on what they hold.
use Rattle.std.proofs.Common.{◌∙◌, ap, sym}
use Rattle.document_tags.specs.declared.standing.Standing.{Standing}
use Rattle.document_tags.specs.Placing.{text_right}
use Rattle.document_tags.specs.Tags.{before_as, standing_as}
use Rattle.document_tags.proofs.texts.text_right.Goals as goal

pub returns-in-PropertyTag : goal.returns-in-PropertyTag
returns-in-PropertyTag c = λ d. c.text_in_property.ensures d ∙ ap (λ (s : Standing). text_right d (standing_as s) (before_as c.args.before)) (sym c.in-PropertyTag.is)

pub returns-in-Literal : goal.returns-in-Literal
returns-in-Literal c = λ d. c.text_in_literal.ensures d ∙ ap (λ (s : Standing). text_right d (standing_as s) (before_as c.args.before)) (sym c.in-Literal.is)

use Rattle.std.proofs.Common.{sym, ◌∙◌, length}
use Rattle.mxml_items.proofs.AttributeLaws.{no_gap, no_attribute_name, no_given, attribute_by, empty_from, some_from}
use Rattle.mxml_items.proofs.attributes.attribute.Goals as goal

pub returns-then-is_empty : goal.returns-then-is_empty
returns-then-is_empty c =
    no_gap c.args.text.now c.run.result.0.now c.run.result.1.now c.run.ensures (empty_from (length c.run.result.0.now) (sym c.is_empty.ensures ∙ c.if-is_empty.true))

pub returns-in_err-name : goal.returns-in_err-name
returns-in_err-name c = rw c.from_residual.ensures (no_attribute_name c.args.text.now c.run.result.0.now c.run.result.1.now c.run.ensures c.in_err-name.ensures)

pub returns-in_err-value : goal.returns-in_err-value
returns-in_err-value c =
    rw c.from_residual-in_err-value.ensures
    (no_given c.args.text.now c.run.result.0.now c.run.result.1.now c.in_ok-name.name.now c.in_ok-name.behind_name.now c.run.ensures c.in_ok-name.ensures c.in_err-value.ensures)

pub returns : goal.returns
returns c =
    attribute_by c.args.at c.args.text.now c.run.result.0.now c.run.result.1.now c.in_ok-name.name.now c.in_ok-name.behind_name.now c.in_ok-value.value.now c.in_ok-value.rest.now
    c.run.ensures (some_from (length c.run.result.0.now) (sym c.is_empty.ensures ∙ c.if-is_empty.false)) c.in_ok-name.ensures c.in_ok-value.ensures

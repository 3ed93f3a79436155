use Rattle.mxml_items.proofs.TagLaws.{no_end_name, no_end_closing, end_tag_by}
use Rattle.mxml_items.proofs.tags.end_tag.Goals as goal

pub returns-in_err-name : goal.returns-in_err-name
returns-in_err-name c = rw c.from_residual-in_err-name.ensures (no_end_name c.args.text.now c.in_ok-body.body.now c.in_ok-body.ensures c.in_err-name.ensures)

pub returns-in_err-rest : goal.returns-in_err-rest
returns-in_err-rest c =
    rw c.from_residual-in_err-rest.ensures
    (no_end_closing c.args.text.now c.in_ok-body.body.now c.in_ok-name.name.now c.in_ok-name.behind_name.now c.run.result.0.now c.run.result.1.now c.in_ok-body.ensures c.in_ok-name.ensures c.run.ensures c.in_err-rest.ensures)

pub returns : goal.returns
returns c =
    end_tag_by c.args.text.now c.in_ok-body.body.now c.in_ok-name.name.now c.in_ok-name.behind_name.now c.run.result.0.now c.run.result.1.now c.in_ok-rest.rest.now
    c.in_ok-body.ensures c.in_ok-name.ensures c.run.ensures c.in_ok-rest.ensures

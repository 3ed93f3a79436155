use Rattle.std.proofs.Common.{sym, ◌∙◌}
use Rattle.flex_edge.proofs.NamedFiles.{none_at, first_at, bytes_of-none, bytes_of-first}
use Rattle.flex_edge.proofs.named.find_file.Goals as goal

pub returns-in_err-place : goal.returns-in_err-place
returns-in_err-place c =
    let none = none_at c.args.files.now c.args.name.now (sym c.place_of.ensures ∙ c.in_err-place.was) in
    rw c.from_residual.ensures (sym (bytes_of-none _ _ none))

pub returns : goal.returns
returns c =
    let first = first_at c.args.files.now c.args.name.now c.in_ok-place.place (sym c.place_of.ensures ∙ c.in_ok-place.was) in
    sym (bytes_of-first _ _ _ _ first)

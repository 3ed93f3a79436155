use Rattle.std.proofs.Common.{rules, ◌≡◌, None, Some}
use Rattle.std.specs.List.{position}
use Rattle.flexc.proofs.Lines.{is_end, last_line, one_line}
use Rattle.flexc.proofs.script.first_line.Goals as goal

pub returns-in_err-end : goal.returns-in_err-end
returns-in_err-end c =
    let none : position is_end c.args.text.now ≡ None = search rules in
    rw c.from_residual.ensures (last_line c.args.text.now none)

pub returns : goal.returns
returns c =
    let found : position is_end c.args.text.now ≡ Some c.in_ok-end.end = search rules in
    one_line c.args.text.now c.in_ok-end.end c.without_return.result.now found c.without_return.ensures

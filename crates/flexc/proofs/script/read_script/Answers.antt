use Rattle.std.proofs.Common.{rules, ◌≡◌, [], ◌∷◌, Err}
use Rattle.flexc.specs.Lines.{lines}
use Rattle.flexc.proofs.Lines.{one_more, last_read, refused}
use Rattle.flexc.proofs.script.read_script.Goals as goal

pub returns-in_err-put_line : goal.returns-in_err-put_line
returns-in_err-put_line c =
    let is : c.from_residual.result ≡ Err c.in_err-put_line.field-0.0 = search rules in
    rw is (refused _ _ c.put_line.new.events _ _ _ c.args.script.now _ c.in-Some.ensures.0 c.in_err-put_line.ensures c.loop-line.invariant.0)

pub loop-line-preserved : goal.loop-line-preserved
loop-line-preserved c =
    (one_more _ _ _ _ _ _ _ c.in-Some.ensures.0 c.in_ok-put_line.ensures c.loop-line.invariant.0, search rules)

pub returns-in_err-put_line-2 : goal.returns-in_err-put_line-2
returns-in_err-put_line-2 c =
    let is : c.from_residual-in_err-put_line-2.result ≡ Err c.in_err-put_line-2.field-0.0 = search rules in
    let last : lines c.loop-line.rest.now ≡ c.loop-line.rest.now ∷ [] = search rules in
    rw is (refused _ _ c.put_line-2.new.events _ _ _ c.args.script.now _ last c.in_err-put_line-2.ensures c.loop-line.invariant.0)

pub returns : goal.returns
returns c =
    let last : lines c.loop-line.rest.now ≡ c.loop-line.rest.now ∷ [] = search rules in
    last_read _ _ _ _ _ _ last c.in_ok-put_line-2.ensures c.loop-line.invariant.0

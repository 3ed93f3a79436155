use Rattle.std.proofs.Common.{sym, subst, Option, ℕ}
use Rattle.mxml_items.specs.Pieces.{IsPlain, may_be_written}
use Rattle.mxml_items.proofs.PieceLaws.{text_run, value_run}
use Rattle.mxml_items.proofs.pieces.plain.Goals as goal

pub returns-in-None : goal.returns-in-None
returns-in-None c =
    let P : Option ℕ → Type 0 = λ q. IsPlain (may_be_written q) c.args.text.now c.run.result.1.now in
    subst P (sym c.in-None.is) (text_run c.args.text.now c.run.result.0.now c.run.result.1.now c.run.ensures)

pub returns-in-Some : goal.returns-in-Some
returns-in-Some c =
    let P : Option ℕ → Type 0 = λ q. IsPlain (may_be_written q) c.args.text.now c.run-in-Some.result.1.now in
    subst P (sym c.in-Some.is) (value_run c.in-Some.quote c.args.text.now c.run-in-Some.result.0.now c.run-in-Some.result.1.now c.run-in-Some.ensures)

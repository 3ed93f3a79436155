use Rattle.std.proofs.Common.{refl}
use Rattle.std.specs.Char.{is_ascii_digit}
use Rattle.mxml_items.proofs.References.{no_semicolon, no_character}
use Rattle.mxml_items.proofs.pieces.decimal.Goals as goal

pub returns-in_err-rest : goal.returns-in_err-rest
returns-in_err-rest c = rw c.from_residual.ensures (no_semicolon is_ascii_digit 10 c.args.text.now c.run.result.0.now c.run.result.1.now refl c.run.ensures c.in_err-rest.ensures)

pub returns-in_err-c : goal.returns-in_err-c
returns-in_err-c c = rw c.from_residual-in_err-c.ensures (no_character is_ascii_digit 10 c.args.text.now c.run.result.0.now c.run.result.1.now refl c.run.ensures c.in_err-c.ensures)

-- A text without tokens has its fault whatever it is to be.
use Rattle.std.proofs.lemmas.Result.{err_from_is_err_and}
use Rattle.as3_parser.specs.declared.start.Start.TheVariants as start
use Rattle.source_reading.proofs.texts.read_metadata.Goals as goal

pub returns-in_err-tokens-clause-refused : goal.returns-in_err-tokens-clause-refused
returns-in_err-tokens-clause-refused c =
    let p = err_from_is_err_and c.from_residual.result c.from_residual.ensures.1 in rw (p.1, p.2) (c.in_err-tokens.ensures.bad start.Metadata)

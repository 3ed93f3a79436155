use Rattle.as3_parser.proofs.statements.semicolon.Goals as goal

pub returns : goal.returns
returns c = record { skips = c.skip.ensures; span = c.span.ensures }

use Rattle.as3_parser.proofs.statements.word_and_semicolon.Goals as goal

pub returns : goal.returns
returns c = record { middle = c.skip.new.at; first = c.skip.ensures; second = c.skip-2.ensures; span = c.span.ensures }

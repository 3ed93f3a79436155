use Rattle.as3_lexer.proofs.Readings.{match_cases}
use Rattle.as3_lexer.proofs.scanning.longest_match.Goals as goal

pub returns : goal.returns
returns c = match_cases c.args.text.now c.utf8.text c.match_of.result c.match_of.ensures

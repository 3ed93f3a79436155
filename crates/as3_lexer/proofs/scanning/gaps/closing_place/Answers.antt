use Rattle.as3_lexer.proofs.Fronts.{finds_closing}
use Rattle.as3_lexer.proofs.scanning.gaps.closing_place.Goals as goal

pub returns-clause-place : goal.returns-clause-place
returns-clause-place c = finds_closing c.args.text.now c.find.result c.find.ensures.cases

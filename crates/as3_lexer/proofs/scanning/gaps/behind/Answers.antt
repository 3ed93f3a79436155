use Rattle.as3_lexer.proofs.Fronts.{strips}
use Rattle.as3_lexer.proofs.scanning.gaps.behind.Goals as goal

pub returns-clause-value : goal.returns-clause-value
returns-clause-value c = strips c.args.front.now c.args.text.now c.strip_prefix.result c.strip_prefix.ensures.cases

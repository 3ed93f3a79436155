use Rattle.as3_parser.proofs.Total.{is_judged}
use Rattle.as3_parser.proofs.Verdicts.{is_judged_one_way, has_one_fault}
use Rattle.as3_parser.proofs.syntax.laws_of_syntax.Goals as goal

pub returns-clause-judged : goal.returns-clause-judged
returns-clause-judged c = is_judged

pub returns-clause-one_way : goal.returns-clause-one_way
returns-clause-one_way c = is_judged_one_way

pub returns-clause-one_fault : goal.returns-clause-one_fault
returns-clause-one_fault c = has_one_fault

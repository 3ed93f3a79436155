use Rattle.verified_code.proofs.ReasonLaws.{one_first}
use Rattle.verified_code.proofs.laws_of_reasons.Goals as goal

pub returns : goal.returns
returns c = one_first

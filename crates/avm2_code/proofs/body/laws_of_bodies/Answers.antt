use Rattle.avm2_code.proofs.BodyLaws.{one_list}
use Rattle.avm2_code.proofs.body.laws_of_bodies.Goals as goal

pub returns : goal.returns
returns c = one_list

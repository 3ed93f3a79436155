use Rattle.flex_meaning.proofs.GoingOn as going_on
use Rattle.flex_meaning.proofs.laws.more_turns_go_on.Goals as goal

pub returns : goal.returns
returns c = going_on.more_turns_go_on

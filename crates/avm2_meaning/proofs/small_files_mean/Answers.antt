use Rattle.avm2_meaning.proofs.Examples.{greeting_plays, spent_plays, stops_by_cause}
use Rattle.avm2_meaning.proofs.small_files_mean.Goals as goal

pub returns-clause-greeting : goal.returns-clause-greeting
returns-clause-greeting c = greeting_plays

pub returns-clause-spent : goal.returns-clause-spent
returns-clause-spent c = spent_plays

pub returns-clause-stops : goal.returns-clause-stops
returns-clause-stops c = stops_by_cause

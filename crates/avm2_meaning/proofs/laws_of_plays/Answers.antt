use Rattle.avm2_meaning.proofs.Shown.{every_play_ends}
use Rattle.avm2_meaning.proofs.Plays.{more_turns_go_on, one_story}
use Rattle.avm2_meaning.proofs.laws_of_plays.Goals as goal

pub returns-clause-ends : goal.returns-clause-ends
returns-clause-ends c = every_play_ends

pub returns-clause-one : goal.returns-clause-one
returns-clause-one c = one_story

pub returns-clause-more : goal.returns-clause-more
returns-clause-more c = more_turns_go_on

use Rattle.flex_meaning.proofs.Sound as sound
use Rattle.flex_meaning.proofs.laws.fine_programs_are_never_stuck.Goals as goal

pub returns : goal.returns
returns c = sound.never_stuck

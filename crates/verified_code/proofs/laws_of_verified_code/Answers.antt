use Rattle.verified_code.proofs.SoundLaws.{verified_is_sound, verified_lists_are_sound}
use Rattle.verified_code.proofs.laws_of_verified_code.Goals as goal

pub returns-clause-sound : goal.returns-clause-sound
returns-clause-sound c = verified_is_sound

pub returns-clause-listed : goal.returns-clause-listed
returns-clause-listed c = verified_lists_are_sound

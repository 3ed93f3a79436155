use Rattle.program_simulation.proofs.Activities as activities
use Rattle.program_simulation.proofs.classes_play.Goals as goal

pub returns-clause-methods : goal.returns-clause-methods
returns-clause-methods c = activities.methods_play

pub returns-clause-constructors : goal.returns-clause-constructors
returns-clause-constructors c = activities.constructors_play

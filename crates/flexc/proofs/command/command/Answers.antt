use Rattle.std.proofs.Common.{inl, inr, refl}
use Rattle.flex_base.specs.declared.outcome.Outcome.TheVariants.{Ended, Stopped, TurnsSpent}
use Rattle.flex_base.specs.declared.outcome.Stop.TheVariants.{Cells}
use Rattle.flexc.proofs.Courses.{has_printed, runs_whole, runs_in_part, refuses_rightly}
use Rattle.flexc.proofs.command.command.Goals as goal

pub returns-clause-ended : goal.returns-clause-ended
returns-clause-ended g c = has_printed _ _ _ _ _ Ended (inl refl) c.answer.result c.answer.ensures

pub returns-clause-stopped : goal.returns-clause-stopped
returns-clause-stopped g c = has_printed _ _ _ _ _ (Stopped Cells) (inr (inr refl)) c.answer.result c.answer.ensures

pub returns-clause-spent : goal.returns-clause-spent
returns-clause-spent g c = has_printed _ _ _ _ _ TurnsSpent (inr (inl refl)) c.answer.result c.answer.ensures

pub returns-clause-whole : goal.returns-clause-whole
returns-clause-whole g c = runs_whole _ _ _ _ _ c.answer.result c.answer.ensures

pub returns-clause-part : goal.returns-clause-part
returns-clause-part g c = runs_in_part _ _ _ _ _ c.answer.result c.answer.ensures

pub returns-clause-refused : goal.returns-clause-refused
returns-clause-refused g c = λ meant line why tells none quiet. refuses_rightly _ _ _ _ _ none quiet tells c.answer.result c.answer.ensures meant line why

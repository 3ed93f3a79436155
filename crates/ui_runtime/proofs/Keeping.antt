-- A stage whose state is put back.
use Rattle.std.proofs.Common.{refl, subst, sym, ◌≡◌}
use Rattle.std.specs.Prelude.{Err, Ok, Option, Result, Some}
use Rattle.flex_base.specs.declared.memory.NoMemory.{NoMemory}
use Rattle.ui_runtime.specs.Answers.{Gives, Hands, kept_if_given}
use Rattle.ui_runtime.specs.Stage.{Stage}

given : {A : Type 0} (f : Stage → A × Stage) (s after : Stage) (answer : Result A NoMemory) → Hands (f s) answer after → Gives (Some s) f answer (kept_if_given answer after)
given f s after (Ok v) done = done
given f s after (Err e) done = refl

pub state_given : {A : Type 0} (f : Stage → A × Stage) (before : Option Stage) (s after : Stage) (answer : Result A NoMemory)
    → before ≡ Some s → Hands (f s) answer after → Gives before f answer (kept_if_given answer after)
state_given f before s after answer is done = subst (λ b. Gives b f answer (kept_if_given answer after)) (sym is) (given f s after answer done)

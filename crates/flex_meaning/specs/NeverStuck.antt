-- A fine program has a story.
use Rattle.std.specs.Prelude.{List, is_some, true, ℕ, ◌≡◌}
use Rattle.flex_base.specs.declared.event.UserEvent.{UserEvent}
use Rattle.flex_program.specs.Fine.{is_fine}
use Rattle.flex_program.specs.Program.{Program}
use Rattle.flex_meaning.specs.Trace.{source_trace}

-- under each script and with any number of turns something is seen of it: nothing comes up that its checks exclude
abbrev pub NeverStuck : Type 0
NeverStuck = (p : Program) → is_fine p ≡ true → (events : List UserEvent) (turns : ℕ) → is_some (source_trace p events turns) ≡ true

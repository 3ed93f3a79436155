-- Plays of one program and one script with more and more turns.
use Rattle.std.specs.Option.{IfSome}
use Rattle.std.specs.Prelude.{List, None, Option, Some, ℕ, ◌++◌, ◌+◌, ◌≡◌, ◌≢◌}
use Rattle.flex_base.specs.Story.{Story}
use Rattle.flex_base.specs.declared.event.UserEvent.{UserEvent}
use Rattle.flex_base.specs.declared.outcome.Outcome.TheVariants.{TurnsSpent}
use Rattle.flex_base.specs.declared.record.TraceItem.{TraceItem}
use Rattle.flex_program.specs.Program.{Program}
use Rattle.flex_meaning.specs.Trace.{source_trace}

-- items that others begin with
pub record IsBeginning (items all : List TraceItem) : Type 0 where
  pub others : List TraceItem
  pub is : all ≡ items ++ others

-- what a play with more turns is to one that is seen: it goes on where the turns were spent, and is the same where that came to another end
pub record GoesOnFrom (fewer : Story) (more : Option Story) : Type 0 where
  pub spent : fewer.outcome ≡ TurnsSpent → IfSome more (λ m. IsBeginning fewer.records m.records)
  pub over : fewer.outcome ≢ TurnsSpent → more ≡ Some fewer

-- where something came up that the checks exclude, it comes up with more turns too
abbrev pub GoesOn : Option Story → Option Story → Type 0
GoesOn None more = more ≡ None
GoesOn (Some fewer) more = GoesOnFrom fewer more

-- so it is of every program and every script
abbrev pub MoreTurnsGoOn : Type 0
MoreTurnsGoOn = (p : Program) (events : List UserEvent) (turns more : ℕ) → GoesOn (source_trace p events turns) (source_trace p events (turns + more))

-- Plays of one document and one script with more and more turns.
use Rattle.std.specs.Prelude.{◌≡◌, ◌≢◌, ℕ, ◌+◌, List, ◌++◌}
use Rattle.flex_base.specs.declared.outcome.Outcome.TheVariants.{TurnsSpent}
use Rattle.flex_base.specs.declared.record.TraceItem.{TraceItem}
use Rattle.flex_front.specs.declared.document.Document.{Document}
use Rattle.flex_base.specs.declared.event.UserEvent.{UserEvent}
use Rattle.flex_base.specs.Story.{Story}
use Rattle.flexc.specs.Meaning.{source_trace}

-- items that others begin with
pub record IsBeginning (items all : List TraceItem) : Type 0 where
  pub others : List TraceItem
  pub is : all ≡ items ++ others

-- a play with more turns goes on where the turns were spent, and is the same where it came to another end
pub record GoesOn (fewer more : Story) : Type 0 where
  pub spent : fewer.outcome ≡ TurnsSpent → IsBeginning fewer.records more.records
  pub over : fewer.outcome ≢ TurnsSpent → more ≡ fewer

-- so it is of every document and every script
abbrev pub MoreTurnsGoOn : Type 0
MoreTurnsGoOn = (d : Document) (events : List UserEvent) (turns more : ℕ) → GoesOn (source_trace d events turns) (source_trace d events (turns + more))

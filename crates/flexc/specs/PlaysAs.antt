-- A file that plays as a source.
use Rattle.std.specs.Prelude.{◌≡◌, ℕ, List}
use Rattle.flex_front.specs.declared.document.Document.{Document}
use Rattle.flexc.specs.Meaning.{source_trace}
use Rattle.script_player.specs.Playable.{IsPlayable}
use Rattle.script_player.specs.Playing.{HasTrace, NeverFaults}
use Rattle.flex_base.specs.declared.event.UserEvent.{UserEvent}
use Rattle.flex_base.specs.Story.{Story}

-- under every script and with every number of turns the file has the trace that the source means, has no other, and meets no fault
pub record PlaysAs (bytes : List ℕ) (document : Document) : Type 0 where
  pub file : IsPlayable bytes
  pub same : (events : List UserEvent) (turns : ℕ) → HasTrace bytes events turns (source_trace document events turns)
  pub only : (events : List UserEvent) (turns : ℕ) (a b : Story) → HasTrace bytes events turns a → HasTrace bytes events turns b → a ≡ b
  pub sound : (events : List UserEvent) (turns : ℕ) → NeverFaults bytes events turns

-- Laws of plays of one file under one script.
use Rattle.std.specs.Prelude.{List, ℕ, ◌++◌, ◌+◌, ◌≡◌, ◌≢◌}
use Rattle.abc_format.specs.declared.records.Abc.{Abc}
use Rattle.flex_base.specs.Story.{Story}
use Rattle.flex_base.specs.declared.event.UserEvent.{UserEvent}
use Rattle.flex_base.specs.declared.outcome.Outcome.TheVariants.{TurnsSpent}
use Rattle.flex_base.specs.declared.record.TraceItem.{TraceItem}
use Rattle.verified_code.specs.Verified.{IsVerified}
use Rattle.avm2_meaning.specs.Trace.{HasTrace}

-- every play of verified code ends
abbrev pub EveryPlayEnds : Type 0
EveryPlayEnds =
    (abc : Abc) (name : List ℕ) (events : List UserEvent) (turns : ℕ) → IsVerified abc → (s : Story) × HasTrace abc name events turns s

-- a file shows one story at most
abbrev pub HasOneStory : Type 0
HasOneStory =
    (abc : Abc) (name : List ℕ) (events : List UserEvent) (turns : ℕ) (s other : Story)
    → HasTrace abc name events turns s → HasTrace abc name events turns other → s ≡ other

-- a play with more turns is the same where the turns weren't spent, and otherwise goes on from what was seen
pub record MoreTurnsGoOn : Type 0 where
  pub same :
      (abc : Abc) (name : List ℕ) (events : List UserEvent) (turns more : ℕ) (s : Story)
      → HasTrace abc name events turns s → s.outcome ≢ TurnsSpent → HasTrace abc name events (more + turns) s
  pub beyond :
      (abc : Abc) (name : List ℕ) (events : List UserEvent) (turns more : ℕ) (s other : Story)
      → HasTrace abc name events turns s → HasTrace abc name events (more + turns) other
      → (others : List TraceItem) × (other.records ≡ s.records ++ others)

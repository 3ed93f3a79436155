-- What a play prints.
use Rattle.std.specs.Prelude.{◌≡◌, ℕ, List, [], ◌++◌, Option, Some, None, Result, Ok, Err}
use Rattle.abc_format.specs.declared.records.Abc.{Abc}
use Rattle.flex_base.specs.declared.outcome.Outcome.{Outcome}
use Rattle.flex_base.specs.declared.record.TraceItem.{TraceItem}
use Rattle.flex_edge.specs.Outside.{Rose, SinkState}
use Rattle.flex_edge.specs.Calls.{SinkChanges}
use Rattle.flex_base.specs.declared.event.UserEvent.{UserEvent}
use Rattle.avm2_machine.specs.declared.machine.Machine.{Machine}
use Rattle.avm2_machine.specs.Machine.{step}
use Rattle.flex_edge.specs.declared.refused.Refused.{Refused}
use Rattle.flex_edge.specs.declared.refused.Refused.TheVariants as refused
use Rattle.script_player.specs.Playing.{first, run, boot, ComesTo, HasTrace}
use Rattle.flex_base.specs.Story.{Story, record_line, lines, text}
use Rattle.flex_edge.specs.Whole.{HasTaken, Prints}

-- the line of the record that a step made, if any
abbrev pub item_lines : Option TraceItem → List ℕ
item_lines None = []
item_lines (Some item) = record_line item

-- what one step of the machine prints
abbrev pub PrintsStep : Abc → List ℕ → Machine → SinkState → Result (Unit {0}) Refused → SinkState → Type 0
PrintsStep abc main m old result new = Prints old (item_lines (step abc main m).item) result new

-- the machine made some steps by itself, and a line for each record was printed
pub record HasRun (abc : Abc) (main : List ℕ) (from to : Machine) (old new : SinkState) : Type 0 where
  pub steps : ℕ
  pub machine : to ≡ (run abc main steps (first from)).machine
  pub printed : SinkChanges old new (new.write_faults ≡ old.write_faults) (new.taken ≡ old.taken ++ lines (run abc main steps (first from)).records)

-- a first part of the lines for the records of some steps was printed
pub record HasRunPart (abc : Abc) (main : List ℕ) (from : Machine) (old new : SinkState) : Type 0 where
  pub steps : ℕ
  pub taken : HasTaken (lines (run abc main steps (first from)).records) old new

-- what steps of the machine by itself print; after a refusal a first part of the lines
abbrev pub Runs : Abc → List ℕ → Machine → SinkState → Result (Unit {0}) Refused → Machine → SinkState → Type 0
Runs abc main from old (Ok done) to new = HasRun abc main from to old new
Runs abc main from old (Err refused.Failed) to new = SinkChanges old new (Rose old.write_faults new.write_faults) (HasRunPart abc main from old new)
Runs abc main from old (Err refused.NoMemory) to new = SinkChanges old new (new.write_faults ≡ old.write_faults) (HasRunPart abc main from old new)

-- the play of a script from a machine on came to its end, and a line for each record was printed
pub record HasShown (abc : Abc) (main : List ℕ) (events : List UserEvent) (from : Machine) (outcome : Outcome) (old new : SinkState) : Type 0 where
  pub story : Story
  pub is : story.outcome ≡ outcome
  pub comes : ComesTo abc main events from story
  pub printed : SinkChanges old new (new.write_faults ≡ old.write_faults) (new.taken ≡ old.taken ++ lines story.records)

-- what the play of a script from a machine on prints, before the line of its outcome; after a refusal a first part of the text
abbrev pub Shows : Abc → List ℕ → List UserEvent → Machine → SinkState → Result Outcome Refused → SinkState → Type 0
Shows abc main events from old (Ok outcome) new = HasShown abc main events from outcome old new
Shows abc main events from old (Err refused.Failed) new =
    SinkChanges old new (Rose old.write_faults new.write_faults) ((story : Story) → ComesTo abc main events from story → HasTaken (text story) old new)
Shows abc main events from old (Err refused.NoMemory) new =
    SinkChanges old new (new.write_faults ≡ old.write_faults) ((story : Story) → ComesTo abc main events from story → HasTaken (text story) old new)

-- the text of such a story was printed whole
pub record HasPrinted (P : Story → Type 0) (outcome : Outcome) (old new : SinkState) : Type 0 where
  pub story : Story
  pub is : story.outcome ≡ outcome
  pub trace : P story
  pub printed : SinkChanges old new (new.write_faults ≡ old.write_faults) (new.taken ≡ old.taken ++ text story)

-- what the printing of such a story does; after a refusal a first part of its text was printed
abbrev pub PrintsText : (Story → Type 0) → SinkState → Result Outcome Refused → SinkState → Type 0
PrintsText P old (Ok outcome) new = HasPrinted P outcome old new
PrintsText P old (Err refused.Failed) new =
    SinkChanges old new (Rose old.write_faults new.write_faults) ((story : Story) → P story → HasTaken (text story) old new)
PrintsText P old (Err refused.NoMemory) new =
    SinkChanges old new (new.write_faults ≡ old.write_faults) ((story : Story) → P story → HasTaken (text story) old new)

-- what the play of a program with a script and so many turns prints
abbrev pub PlaysProgram : Abc → List ℕ → List UserEvent → ℕ → SinkState → Result Outcome Refused → SinkState → Type 0
PlaysProgram abc main events turns old result new = PrintsText (ComesTo abc main events (boot abc turns)) old result new

-- what the play of the bytes with a script and so many turns prints
abbrev pub HasPlayed : List ℕ → List UserEvent → ℕ → Outcome → SinkState → SinkState → Type 0
HasPlayed swf events turns outcome old new = HasPrinted (HasTrace swf events turns) outcome old new

abbrev pub Plays : List ℕ → List UserEvent → ℕ → SinkState → Result Outcome Refused → SinkState → Type 0
Plays swf events turns old result new = PrintsText (HasTrace swf events turns) old result new

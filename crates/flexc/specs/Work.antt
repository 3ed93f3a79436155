-- What the parts of `command` do, before a line is printed that says why nothing was played.
use Rattle.std.specs.Prelude.{◌≡◌, ℕ, List, ◌++◌, Result, Ok, Err, codes}
use Rattle.std.specs.Borrow.{Bor}
use Rattle.flex_base.specs.declared.outcome.Outcome.{Outcome}
use Rattle.flex_edge.specs.Outside.{FilesState, SinkState}
use Rattle.flex_edge.specs.Calls.{SameCounts, Changes}
use Rattle.flexc.specs.declared.command.Failure.{Failure}
use Rattle.flexc.specs.declared.command.Failure.TheVariants as failure
use Rattle.flexc.specs.declared.command.Job.{Job}
use Rattle.flexc.specs.declared.command.Status.{Status}
use Rattle.flex_edge.specs.declared.input.ReadRefusal.{ReadRefusal}
use Rattle.flex_edge.specs.declared.input.ReadRefusal.TheVariants as read
use Rattle.flex_edge.specs.declared.refused.Refused.TheVariants as refused
use Rattle.flex_front.specs.declared.document.Document.{Document}
use Rattle.flexc.specs.Command.{status, place_line, HasRead, FailsToRead, HasBuilt, HasWrittenFile, Says, HasNoMemory}
use Rattle.flexc.specs.Lines.{script_of, script_line}
use Rattle.flexc.specs.Words.{AreWords, IsNoCommand, turns}
use Rattle.script_player.specs.Printed.{HasPlayed, Plays}
use Rattle.flex_front.specs.Source.{HasDocument, IsNotBuilt}
use Rattle.mxml_items.specs.Places.{place_of}
use Rattle.mxml_tree.specs.declared.fault.TreeCode.{TreeCode}
use Rattle.mxml_tree.specs.Faults.{Fault}
use Rattle.mxml_tree.specs.IsTree.{IsFirstFault}
use Rattle.flex_base.specs.declared.event.UserEvent.{UserEvent}
use Rattle.flex_edge.specs.Whole.{MakesNone}

-- why a file wasn't read, in the words of the command
abbrev pub read_failure : ReadRefusal → Bor (List ℕ) → Failure
read_failure read.Failed name = failure.CannotRead name
read_failure read.TooLong name = failure.TooLong name
read_failure read.NoMemory name = failure.NoMemory

-- both files were read, and the source isn't built
pub record IsRefused (script main : List ℕ) (old new : FilesState) : Type 0 where
  pub source : List ℕ
  pub commands : List ℕ
  pub has_read : HasRead script main source commands old new
  pub refused : IsNotBuilt main source

-- both files were read, and this is the first fault of the source, by its line, its column and its code
pub record IsFaulty (script main : List ℕ) (line column : ℕ) (code : TreeCode) (old new : FilesState) : Type 0 where
  pub source : List ℕ
  pub commands : List ℕ
  pub has_read : HasRead script main source commands old new
  pub fault : Fault
  pub first : IsFirstFault fault source
  pub line_is : line ≡ (place_of source fault.at).line
  pub column_is : column ≡ (place_of source fault.at).column
  pub code_is : code ≡ fault.code

-- both files were read, and this is the first line of the script that isn't known
pub record HasCommands (script main : List ℕ) (line : ℕ) (old new : FilesState) : Type 0 where
  pub source : List ℕ
  pub commands : List ℕ
  pub document : Document
  pub has_read : HasRead script main source commands old new
  pub has : HasDocument main source document
  pub other : script_of commands ≡ Err line

-- why there is no document to be played
abbrev pub HasNoDocument : List ℕ → List ℕ → Failure → FilesState → FilesState → Type 0
HasNoDocument script main (failure.CannotRead name) old new = FailsToRead script main name.now read.Failed old new
HasNoDocument script main (failure.TooLong name) old new = FailsToRead script main name.now read.TooLong old new
HasNoDocument script main (failure.SourceFault name line column code) old new = (name.now ≡ main) × IsFaulty script main line column code old new
HasNoDocument script main (failure.NotYetBuilt name) old new = (name.now ≡ main) × IsRefused script main old new
HasNoDocument script main (failure.ScriptNotYetBuilt line) old new = HasCommands script main line old new
HasNoDocument script main failure.NoMemory old new = Changes old new (SameCounts old new) (MakesNone old new)
HasNoDocument script main _ old new = ⊥

-- the reading and judging of the source and the script
abbrev pub ReadsJob : List ℕ → List ℕ → FilesState → Result Job Failure → FilesState → Type 0
ReadsJob script main old (Ok job) new = HasBuilt script main job.document job.script old new
ReadsJob script main old (Err failure) new = HasNoDocument script main failure old new

-- the words are those of a command, for whose files this failure holds
pub record HasNothingToPlay (words : List (List ℕ)) (failure : Failure) (old new : FilesState) : Type 0 where
  pub script : List ℕ
  pub out : List ℕ
  pub main : List ℕ
  pub are : AreWords words script out main
  pub none : HasNoDocument script main failure old new

pub record HasNotWritten (words : List (List ℕ)) (out : List ℕ) (old new : FilesState) : Type 0 where
  pub script : List ℕ
  pub main : List ℕ
  pub document : Document
  pub events : List UserEvent
  pub are : AreWords words script out main
  pub written : HasWrittenFile script out main document events (Err refused.Failed) old new

pub record HasNotPrinted (words : List (List ℕ)) (old new : FilesState) (before after : SinkState) : Type 0 where
  pub script : List ℕ
  pub out : List ℕ
  pub main : List ℕ
  pub document : Document
  pub events : List UserEvent
  pub are : AreWords words script out main
  pub written : HasWrittenFile script out main document events (Ok tt) old new
  pub plays : Plays written.bytes events (turns words) before (Err refused.Failed) after

pub record HasRun (words : List (List ℕ)) (outcome : Outcome) (old new : FilesState) (before after : SinkState) : Type 0 where
  pub script : List ℕ
  pub out : List ℕ
  pub main : List ℕ
  pub document : Document
  pub events : List UserEvent
  pub are : AreWords words script out main
  pub written : HasWrittenFile script out main document events (Ok tt) old new
  pub plays : HasPlayed written.bytes events (turns words) outcome before after

-- why nothing was played, or not to its end
abbrev pub HasFailed : List (List ℕ) → Failure → FilesState → FilesState → SinkState → SinkState → Type 0
HasFailed words failure.BadUsage old new before after = IsNoCommand words × (new ≡ old) × (after ≡ before)
HasFailed words (failure.CannotWrite name) old new before after = HasNotWritten words name.now old new × (after ≡ before)
HasFailed words failure.CannotPrint old new before after = HasNotPrinted words old new before after
HasFailed words failure.NoMemory old new before after = HasNoMemory words old new before after
HasFailed words other old new before after = HasNothingToPlay words other old new × (after ≡ before)

-- the work of a command
abbrev pub Works : List (List ℕ) → FilesState → SinkState → Result Outcome Failure → FilesState → SinkState → Type 0
Works words old before (Ok outcome) new after = HasRun words outcome old new before after
Works words old before (Err failure) new after = HasFailed words failure old new before after

-- the line that says what failed, and the status
abbrev pub Reports : Failure → SinkState → Status → SinkState → Type 0
Reports failure.BadUsage before answer after = Says 2 (codes "flexc: bad usage") before after answer
Reports (failure.CannotRead name) before answer after = Says 7 (codes "cannot read " ++ name.now) before after answer
Reports (failure.TooLong name) before answer after = Says 10 (name.now ++ codes ": too long") before after answer
Reports (failure.SourceFault name line column code) before answer after = Says 3 (place_line name.now line column code) before after answer
Reports (failure.NotYetBuilt name) before answer after = Says 3 (name.now ++ codes ":1:1: NotYetBuilt") before after answer
Reports (failure.ScriptNotYetBuilt line) before answer after = Says 4 (script_line line) before after answer
Reports (failure.CannotWrite name) before answer after = Says 8 (codes "cannot write " ++ name.now) before after answer
Reports failure.CannotPrint before answer after = (after ≡ before) × (answer ≡ status 8)
Reports failure.NoMemory before answer after = (after ≡ before) × (answer ≡ status 9)

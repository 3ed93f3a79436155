-- What `command` does and answers.
use Rattle.std.specs.Prelude.{◌≡◌, ℕ, ◌<◌, ◌≤◌, List, ◌++◌, length, IsTrue, Some, Result, Ok, Err, codes, decimal, ◌⊎◌}
use Rattle.flex_base.specs.declared.outcome.Outcome.{Outcome}
use Rattle.flex_base.specs.declared.outcome.Outcome.TheVariants.{Ended, Stopped, TurnsSpent, Fault}
use Rattle.flex_base.specs.declared.outcome.Stop.TheVariants.{Cells}
use Rattle.flex_edge.specs.Outside.{Rose, FilesState, SinkState}
use Rattle.flex_edge.specs.Calls.{SameCounts, SameOthers, Changes, SinkChanges}
use Rattle.flexc.specs.declared.command.Status.{Status}
use Rattle.flex_edge.specs.declared.input.ReadRefusal.{ReadRefusal}
use Rattle.flex_edge.specs.declared.input.ReadRefusal.TheVariants as read
use Rattle.flex_edge.specs.declared.refused.Refused.{Refused}
use Rattle.flex_edge.specs.declared.refused.Refused.TheVariants as refused
use Rattle.flex_front.specs.declared.document.Document.{Document}
use Rattle.mxml_items.specs.Places.{place_of}
use Rattle.mxml_tree.specs.declared.fault.TreeCode.{TreeCode}
use Rattle.mxml_tree.specs.CodeNames.{name_of}
use Rattle.mxml_tree.specs.Faults as tree
use Rattle.mxml_tree.specs.IsTree.{IsFirstFault}
use Rattle.flexc.specs.Meaning.{source_trace}
use Rattle.flexc.specs.PlaysAs.{PlaysAs}
use Rattle.flexc.specs.Lines.{script_of, script_line}
use Rattle.flexc.specs.Words.{AreWords, IsNoCommand, turns}
use Rattle.script_player.specs.Printed.{HasPlayed, Plays}
use Rattle.flex_front.specs.Source.{HasDocument, IsNotBuilt}
use Rattle.flex_base.specs.declared.event.UserEvent.{UserEvent}
use Rattle.flex_base.specs.Story.{text, with_end}
use Rattle.flex_edge.specs.Whole.{MakesNone, ReadsFile, WritesFile, Prints, HasTaken}

abbrev pub status : ℕ → Status
status n = record { 0 = n }

-- the status of a play's outcome
abbrev pub outcome_status : Outcome → Status
outcome_status Ended = status 0
outcome_status (Stopped stop) = status 1
outcome_status TurnsSpent = status 6
outcome_status (Fault fault) = status 11

-- the line of a fault at a line and a column of the file with this name
abbrev pub place_line : List ℕ → ℕ → ℕ → TreeCode → List ℕ
place_line name line column code = name ++ (codes ":" ++ (decimal line ++ (codes ":" ++ (decimal column ++ (codes ": " ++ name_of code)))))

-- the line of a source's fault
abbrev pub source_fault_line : List ℕ → List ℕ → tree.Fault → List ℕ
source_fault_line name source fault = place_line name (place_of source fault.at).line (place_of source fault.at).column fault.code

-- how the play of a document that is built so far comes to its end: by itself, because its turns are spent, or because the cells don't hold out for an event
abbrev pub IsEnd : Outcome → Type 0
IsEnd outcome = (outcome ≡ Ended) ⊎ ((outcome ≡ TurnsSpent) ⊎ (outcome ≡ Stopped Cells))

-- the main source was read whole, and then the script
pub record HasRead (script main source commands : List ℕ) (old new : FilesState) : Type 0 where
  pub mid : FilesState
  pub first : ReadsFile 1048576 old main (Ok source) mid
  pub second : ReadsFile 1048576 mid script (Ok commands) new

-- the first of the two that wasn't read whole, for this reason
pub data FailsToRead (script main name : List ℕ) (refusal : ReadRefusal) (old new : FilesState) : Type 0 where
  At_source : (is : name ≡ main) (fails : ReadsFile 1048576 old main (Err refusal) new) → FailsToRead script main name refusal old new
  At_script :
      (source : List ℕ) (mid : FilesState) (first : ReadsFile 1048576 old main (Ok source) mid) (is : name ≡ script) (fails : ReadsFile 1048576 mid script (Err refusal) new)
      → FailsToRead script main name refusal old new

-- the source was read, and so was a script; the source has this document, and the script says these events
pub record HasBuilt (script main : List ℕ) (document : Document) (events : List UserEvent) (old new : FilesState) : Type 0 where
  pub source : List ℕ
  pub commands : List ℕ
  pub read : HasRead script main source commands old new
  pub says : script_of commands ≡ Ok events
  pub has : HasDocument main source document

-- a file that plays as the document was to be written, and this came of it
pub record HasWrittenFile (script out main : List ℕ) (document : Document) (events : List UserEvent) (result : Result (Unit {0}) Refused) (old new : FilesState) : Type 0 where
  pub bytes : List ℕ
  pub mid : FilesState
  pub built : HasBuilt script main document events old mid
  pub plays : PlaysAs bytes document
  pub written : WritesFile mid out bytes result new

-- the status after a line was to be printed
abbrev pub status_after : ℕ → Result (Unit {0}) Refused → Status
status_after meant (Ok done) = status meant
status_after meant (Err refused.Failed) = status 8
status_after meant (Err refused.NoMemory) = status 9

-- a line was to be printed, and gives this status if it was
pub record Says (meant : ℕ) (line : List ℕ) (before after : SinkState) (answer : Status) : Type 0 where
  pub result : Result (Unit {0}) Refused
  pub prints : Prints before (with_end line) result after
  pub is : answer ≡ status_after meant result

-- memory was refused
pub data HasNoMemory (words : List (List ℕ)) (old new : FilesState) (before after : SinkState) : Type 0 where
  -- before the file was to be written: no file was made or changed, and nothing was printed
  Early : (script out main : List ℕ) (are : AreWords words script out main) (files : Changes old new (SameCounts old new) (MakesNone old new))
      (sink : after ≡ before) → HasNoMemory words old new before after
  -- while it was written
  Writing : (script out main : List ℕ) (document : Document) (events : List UserEvent) (are : AreWords words script out main)
      (written : HasWrittenFile script out main document events (Err refused.NoMemory) old new) (sink : after ≡ before) → HasNoMemory words old new before after
  -- while it was played
  Playing : (script out main : List ℕ) (document : Document) (events : List UserEvent) (are : AreWords words script out main)
      (written : HasWrittenFile script out main document events (Ok tt) old new) (plays : Plays written.bytes events (turns words) before (Err refused.NoMemory) after)
      → HasNoMemory words old new before after

-- what a command did, and the status that it answered
pub data Course (words : List (List ℕ)) (old new : FilesState) (before after : SinkState) (answer : Status) : Type 0 where
  No_command : (no : IsNoCommand words) (files : new ≡ old) (says : Says 2 (codes "flexc: bad usage") before after answer) → Course words old new before after answer
  Cannot_read : (script out main name : List ℕ) (are : AreWords words script out main) (fails : FailsToRead script main name read.Failed old new)
      (says : Says 7 (codes "cannot read " ++ name) before after answer) → Course words old new before after answer
  Too_long : (script out main name : List ℕ) (are : AreWords words script out main) (fails : FailsToRead script main name read.TooLong old new)
      (says : Says 10 (name ++ codes ": too long") before after answer) → Course words old new before after answer
  Has_fault : (script out main source commands : List ℕ) (fault : tree.Fault) (are : AreWords words script out main) (has_read : HasRead script main source commands old new)
      (first : IsFirstFault fault source) (says : Says 3 (source_fault_line main source fault) before after answer) → Course words old new before after answer
  Not_built : (script out main source commands : List ℕ) (are : AreWords words script out main) (has_read : HasRead script main source commands old new)
      (refused : IsNotBuilt main source) (says : Says 3 (main ++ codes ":1:1: NotYetBuilt") before after answer) → Course words old new before after answer
  Bad_script : (script out main source commands : List ℕ) (document : Document) (line : ℕ) (are : AreWords words script out main)
      (has_read : HasRead script main source commands old new) (has : HasDocument main source document) (other : script_of commands ≡ Err line)
      (says : Says 4 (script_line line) before after answer) → Course words old new before after answer
  Cannot_write : (script out main : List ℕ) (document : Document) (events : List UserEvent) (are : AreWords words script out main)
      (written : HasWrittenFile script out main document events (Err refused.Failed) old new) (says : Says 8 (codes "cannot write " ++ out) before after answer)
      → Course words old new before after answer
  Cannot_print : (script out main : List ℕ) (document : Document) (events : List UserEvent) (are : AreWords words script out main)
      (written : HasWrittenFile script out main document events (Ok tt) old new) (plays : Plays written.bytes events (turns words) before (Err refused.Failed) after) (is : answer ≡ status 8)
      → Course words old new before after answer
  No_memory : (without : HasNoMemory words old new before after) (is : answer ≡ status 9) → Course words old new before after answer
  Has_played : (script out main : List ℕ) (document : Document) (events : List UserEvent) (outcome : Outcome) (are : AreWords words script out main)
      (written : HasWrittenFile script out main document events (Ok tt) old new) (plays : HasPlayed written.bytes events (turns words) outcome before after)
      (is : answer ≡ outcome_status outcome) (comes : IsEnd outcome) → Course words old new before after answer

-- both files of the command have these bytes, and the other one has the written bytes now
pub record HoldsFile (script out main source bytes : List ℕ) (events : List UserEvent) (old new : FilesState) : Type 0 where
  pub source_there : old.bytes_of main ≡ Some source
  pub commands : List ℕ
  pub script_there : old.bytes_of script ≡ Some commands
  pub says : script_of commands ≡ Ok events
  pub written : new.bytes_of out ≡ Some bytes
  pub others : SameOthers out old new

-- a document was built, its file written and played, and the trace that its source means, with this outcome, was printed, all of it and nothing else
pub record HasPrintedTrace (words : List (List ℕ)) (outcome : Outcome) (old new : FilesState) (before after : SinkState) : Type 0 where
  pub script : List ℕ
  pub out : List ℕ
  pub main : List ℕ
  pub source : List ℕ
  pub bytes : List ℕ
  pub document : Document
  pub events : List UserEvent
  pub are : AreWords words script out main
  pub has : HasDocument main source document
  pub plays : PlaysAs bytes document
  pub files : Changes old new (SameCounts old new) (HoldsFile script out main source bytes events old new)
  pub printed : SinkChanges before after (after.write_faults ≡ before.write_faults) (after.taken ≡ before.taken ++ text (source_trace document events (turns words)))
  pub comes_to : (source_trace document events (turns words)).outcome ≡ outcome

-- the words name a main source with this document, and a script with these events
pub record IsRunnable (words : List (List ℕ)) (files : FilesState) (document : Document) (events : List UserEvent) : Type 0 where
  pub script : List ℕ
  pub out : List ℕ
  pub main : List ℕ
  pub source : List ℕ
  pub are : AreWords words script out main
  pub tells : IsTrue files.tells
  pub source_there : files.bytes_of main ≡ Some source
  pub source_fits : length source ≤ 1048576
  pub commands : List ℕ
  pub script_there : files.bytes_of script ≡ Some commands
  pub script_fits : length commands ≤ 1048576
  pub says : script_of commands ≡ Ok events
  pub has : HasDocument main source document

-- no count of the files' faults rose
pub record NoFileFault (old new : FilesState) : Type 0 where
  pub reads : Rose old.read_faults new.read_faults → ⊥
  pub writes : Rose old.write_faults new.write_faults → ⊥

abbrev pub NoSinkFault : SinkState → SinkState → Type 0
NoSinkFault before after = Rose before.write_faults after.write_faults → ⊥

-- both files are there, and aren't too long
pub record HoldsBoth (script main source commands : List ℕ) (files : FilesState) : Type 0 where
  pub source_there : files.bytes_of main ≡ Some source
  pub source_fits : length source ≤ 1048576
  pub script_there : files.bytes_of script ≡ Some commands
  pub script_fits : length commands ≤ 1048576

-- why nothing is to be played of what the files hold, with the status and the line, in the order of work
pub data Refuses (words : List (List ℕ)) (files : FilesState) (meant : ℕ) (line : List ℕ) : Type 0 where
  For_words : (missing : IsNoCommand words) (status_is : meant ≡ 2) (line_is : line ≡ codes "flexc: bad usage") → Refuses words files meant line
  For_long_source : (script out main source : List ℕ) (are : AreWords words script out main) (there : files.bytes_of main ≡ Some source) (long : 1048576 < length source)
      (status_is : meant ≡ 10) (line_is : line ≡ main ++ codes ": too long") → Refuses words files meant line
  For_long_script : (script out main source commands : List ℕ) (are : AreWords words script out main) (there : files.bytes_of main ≡ Some source)
      (fits : length source ≤ 1048576) (script_there : files.bytes_of script ≡ Some commands) (long : 1048576 < length commands) (status_is : meant ≡ 10)
      (line_is : line ≡ script ++ codes ": too long") → Refuses words files meant line
  For_fault : (script out main source commands : List ℕ) (fault : tree.Fault) (are : AreWords words script out main) (both : HoldsBoth script main source commands files)
      (first : IsFirstFault fault source) (status_is : meant ≡ 3) (line_is : line ≡ source_fault_line main source fault) → Refuses words files meant line
  For_source : (script out main source commands : List ℕ) (are : AreWords words script out main) (both : HoldsBoth script main source commands files)
      (refused : IsNotBuilt main source) (status_is : meant ≡ 3) (line_is : line ≡ main ++ codes ":1:1: NotYetBuilt") → Refuses words files meant line
  For_script : (script out main source commands : List ℕ) (document : Document) (number : ℕ) (are : AreWords words script out main)
      (both : HoldsBoth script main source commands files) (has : HasDocument main source document) (other : script_of commands ≡ Err number)
      (status_is : meant ≡ 4) (line_is : line ≡ script_line number) → Refuses words files meant line

-- the line was printed, all of it and nothing else, and gave this status
pub record HasSaid (meant : ℕ) (line : List ℕ) (before after : SinkState) (answer : Status) : Type 0 where
  pub is : answer ≡ status meant
  pub printed : SinkChanges before after (after.write_faults ≡ before.write_faults) (after.taken ≡ before.taken ++ with_end line)

-- what is to be refused is refused, where nothing fails outside and memory isn't refused
abbrev pub RefusesRightly : List (List ℕ) → FilesState → FilesState → SinkState → SinkState → Status → Type 0
RefusesRightly words old new before after answer =
    (meant : ℕ) (line : List ℕ) → Refuses words old meant line → IsTrue old.tells → NoFileFault old new → NoSinkFault before after
    → HasSaid meant line before after answer ⊎ (answer ≡ status 9)

-- what can be run is run, and its outcome answered, where nothing fails outside and memory isn't refused
abbrev pub RunsWhole : List (List ℕ) → FilesState → FilesState → SinkState → SinkState → Status → Type 0
RunsWhole words old new before after answer =
    (document : Document) (events : List UserEvent) → IsRunnable words old document events → NoFileFault old new → NoSinkFault before after
    → (answer ≡ outcome_status (source_trace document events (turns words)).outcome) ⊎ (answer ≡ status 9)

-- of what can be run a first part of the trace is printed, unless a file fails
abbrev pub RunsInPart : List (List ℕ) → FilesState → FilesState → SinkState → SinkState → Type 0
RunsInPart words old new before after =
    (document : Document) (events : List UserEvent) → IsRunnable words old document events → NoFileFault old new → IsTrue before.tells → HasTaken (text (source_trace document events (turns words))) before after

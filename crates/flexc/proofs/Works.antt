-- The parts of the work of a command, put together.
use Rattle.std.proofs.Common.{ℕ, List, Ok, Err, Result, refl, ◌∙◌}
use Rattle.std.specs.Borrow.{Bor}
use Rattle.flex_edge.specs.Outside.{FilesState, SinkState}
use Rattle.flex_edge.specs.Calls.{SameCounts, Changes}
use Rattle.flexc.specs.Command.{At_script, HasBuilt, HasWrittenFile, HasNoMemory, Early}
use Rattle.flexc.specs.PlaysAs.{PlaysAs}
use Rattle.flexc.specs.Words.{AreWords}
use Rattle.flex_front.specs.Source.{IsNotBuilt}
use Rattle.flex_base.specs.declared.event.UserEvent.{UserEvent}
use Rattle.flex_edge.specs.Whole.{MakesNone, ReadsFile, WritesFile}
use Rattle.flexc.specs.Work.{read_failure, IsFaulty, IsRefused, HasNoDocument, HasFailed}
use Rattle.flexc.specs.declared.command.Failure.{Failure}
use Rattle.flexc.specs.declared.command.Failure.TheVariants as failure
use Rattle.flex_edge.specs.declared.input.ReadRefusal.{ReadRefusal}
use Rattle.flex_edge.specs.declared.input.ReadRefusal.TheVariants as read
use Rattle.flex_edge.specs.declared.refused.Refused.{Refused}
use Rattle.mxml_items.specs.Places.{place_of}
use Rattle.mxml_tree.specs.Faults.{Fault}
use Rattle.mxml_tree.specs.IsTree.{IsFirstFault}
use Rattle.flex_front.specs.declared.document.Document.{Document}

-- no file was made or changed in either part
none_made : (old mid new : FilesState) → MakesNone old mid → MakesNone mid new → MakesNone old new
none_made old mid new a b = record { bytes = λ name. b.bytes name ∙ a.bytes name; created = b.created ∙ a.created }

read_then : (main source : List ℕ) (old mid new : FilesState) → ReadsFile 1048576 old main (Ok source) mid → Changes mid new (SameCounts mid new) (MakesNone mid new)
    → Changes old new (SameCounts old new) (MakesNone old new)
read_then main source old mid new a b = record {
  tells = b.tells ∙ a.1.tells;
  counts = record { reads = b.counts.reads ∙ a.1.counts.reads; writes = b.counts.writes ∙ a.1.counts.writes };
  told = λ t. none_made old mid new (a.1.told t).tried.only (b.told (a.1.tells ∙ t));
}

-- the script wasn't read
pub script_unread : (script : Bor (List ℕ)) (main source : List ℕ) (old mid new : FilesState) (refusal : ReadRefusal) → ReadsFile 1048576 old main (Ok source) mid
    → ReadsFile 1048576 mid script.now (Err refusal) new → HasNoDocument script.now main (read_failure refusal script) old new
script_unread script main source old mid new read.Failed a b = At_script source mid a refl b
script_unread script main source old mid new read.TooLong a b = At_script source mid a refl b
script_unread script main source old mid new read.NoMemory a b = read_then main source old mid new a b

-- both were read, and no file was made or changed
pub only_read : (script main source commands : List ℕ) (old mid new : FilesState) → ReadsFile 1048576 old main (Ok source) mid → ReadsFile 1048576 mid script (Ok commands) new
    → Changes old new (SameCounts old new) (MakesNone old new)
only_read script main source commands old mid new a b =
    read_then main source old mid new a (record { tells = b.1.tells; counts = b.1.counts; told = λ t. (b.1.told t).tried.only })

-- the source was judged, and isn't built
pub is_refused : (script main source commands : List ℕ) (old mid new : FilesState) → ReadsFile 1048576 old main (Ok source) mid → ReadsFile 1048576 mid script (Ok commands) new → IsNotBuilt main source
    → IsRefused script main old new
is_refused script main source commands old mid new a b refused =
    record { source = source; commands = commands; has_read = record { mid = mid; first = a; second = b }; refused = refused }

-- the source was judged, and has a fault
pub is_faulty : (script main source commands : List ℕ) (old mid new : FilesState) (fault : Fault) → ReadsFile 1048576 old main (Ok source) mid → ReadsFile 1048576 mid script (Ok commands) new → IsFirstFault fault source
    → IsFaulty script main (place_of source fault.at).line (place_of source fault.at).column fault.code old new
is_faulty script main source commands old mid new fault a b first =
    record {
      source = source;
      commands = commands;
      has_read = record { mid = mid; first = a; second = b };
      fault = fault;
      first = first;
      line_is = refl;
      column_is = refl;
      code_is = refl;
    }

-- the words are those of a command that has nothing to play
pub nothing_to_play : (words : List (List ℕ)) (script out main : List ℕ) (f : Failure) (old new : FilesState) (before : SinkState) → AreWords words script out main
    → HasNoDocument script main f old new → HasFailed words f old new before before
nothing_to_play words script out main failure.BadUsage old new before are h = absurd h
nothing_to_play words script out main (failure.CannotRead name) old new before are h = (record { script = script; out = out; main = main; are = are; none = h }, refl)
nothing_to_play words script out main (failure.TooLong name) old new before are h = (record { script = script; out = out; main = main; are = are; none = h }, refl)
nothing_to_play words script out main (failure.SourceFault name line column code) old new before are h = (record { script = script; out = out; main = main; are = are; none = h }, refl)
nothing_to_play words script out main (failure.NotYetBuilt name) old new before are h = (record { script = script; out = out; main = main; are = are; none = h }, refl)
nothing_to_play words script out main (failure.ScriptNotYetBuilt line) old new before are h = (record { script = script; out = out; main = main; are = are; none = h }, refl)
nothing_to_play words script out main (failure.CannotWrite name) old new before are h = absurd h
nothing_to_play words script out main failure.CannotPrint old new before are h = absurd h
nothing_to_play words script out main failure.NoMemory old new before are h = Early script out main are h refl

-- a document was built, and then memory was refused
pub built_early : (words : List (List ℕ)) (script out main : List ℕ) (document : Document) (events : List UserEvent) (old new : FilesState) (before : SinkState)
    → AreWords words script out main → HasBuilt script main document events old new → HasNoMemory words old new before before
built_early words script out main document events old new before are h =
    Early script out main are (only_read script main h.source h.commands old h.read.mid new h.read.first h.read.second) refl

-- the file that was to be written plays as the document
abbrev pub written_file : (script out main bytes : List ℕ) (document : Document) (events : List UserEvent) (result : Result (Unit {0}) Refused) (old mid new : FilesState)
    → HasBuilt script main document events old mid → PlaysAs bytes document → WritesFile mid out bytes result new → HasWrittenFile script out main document events result old new
written_file script out main bytes document events result old mid new built plays written =
    record { bytes = bytes; mid = mid; built = built; plays = plays; written = written }

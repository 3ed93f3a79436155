-- From the work of a command and the line that it says to what the command promises.
use Rattle.std.proofs.Common.{◌≡◌, ◌≢◌, ℕ, zero, suc, ◌<◌, ◌≤◌, List, [], ◌++◌, length, Option, None, Some, Ok, Err, Result, inl, inr, refl, sym, ap, ◌∙◌, subst, arith}
use Rattle.std.specs.Prelude.{IsTrue, codes, slice_get, ◌⊎◌}
use Rattle.std.specs.Option.{IsSomeAnd}
use Rattle.std.proofs.lemmas.List.{append-nil}
use Rattle.flex_base.proofs.OptionLaws.{some_is}
use Rattle.flex_base.specs.declared.outcome.Outcome.{Outcome}
use Rattle.flex_base.specs.declared.outcome.Outcome.TheVariants.{Ended, Stopped, TurnsSpent}
use Rattle.flex_base.specs.declared.outcome.Stop.TheVariants.{Cells}
use Rattle.flex_edge.specs.Outside.{Rose, FilesState, SinkState}
use Rattle.flex_edge.specs.Calls.{SameCounts, Changes, SinkChanges}
use Rattle.flexc.specs.Command.{status, source_fault_line, place_line, status_after, outcome_status, IsEnd, HasRead, FailsToRead, At_source, At_script, HasBuilt, HasWrittenFile, Says, HasNoMemory, Early, Writing, Playing, Course, No_command, Cannot_read, Too_long, Has_fault, Not_built, Bad_script, Cannot_write, Cannot_print, No_memory, Has_played, HoldsFile, HasPrintedTrace, IsRunnable, NoFileFault, NoSinkFault, RunsWhole, RunsInPart, HoldsBoth, Refuses, For_words, For_long_source, For_long_script, For_fault, For_source, For_script, HasSaid}
use Rattle.flexc.specs.Meaning.{source_trace}
use Rattle.script_player.specs.Playing.{HasTrace}
use Rattle.flexc.specs.PlaysAs.{PlaysAs}
use Rattle.flexc.specs.Lines.{script_of, script_line}
use Rattle.flexc.specs.Words.{AreWords, Plain, With_turns, turns}
use Rattle.script_player.specs.Printed.{HasPlayed, Plays}
use Rattle.flex_front.specs.Source.{HasDocument, IsNotBuilt}
use Rattle.flex_base.specs.declared.event.UserEvent.{UserEvent}
use Rattle.flex_base.specs.Story.{Story, text, with_end}
use Rattle.flex_edge.specs.Whole.{HasTaken, Prints}
use Rattle.flexc.specs.Work.{HasFailed, HasRun, Reports}
use Rattle.flexc.specs.declared.command.Failure.{Failure}
use Rattle.flexc.specs.declared.command.Failure.TheVariants as failure
use Rattle.flexc.specs.declared.command.Status.{Status}
use Rattle.flex_edge.specs.declared.input.ReadRefusal.TheVariants as read
use Rattle.flex_edge.specs.declared.refused.Refused.{Refused}
use Rattle.flex_edge.specs.declared.refused.Refused.TheVariants as refused
use Rattle.flex_front.specs.declared.document.Document.{Document}
use Rattle.flexc.proofs.Asked.{asks_none}
use Rattle.flexc.proofs.EndsWell.{ends_so}
use Rattle.flex_front.proofs.DocumentLaws.{one_document}
use Rattle.mxml_items.specs.Places.{place_of}
use Rattle.mxml_tree.specs.Faults.{Fault}
use Rattle.mxml_tree.specs.IsTree.{HasNodes, IsFirstFault}
use Rattle.mxml_tree.proofs.TreeOrFault.{never_both, one_fault}

-- what failed, and what was said of it
pub failed_course : (words : List (List ℕ)) (f : Failure) (old new : FilesState) (before mid after : SinkState) (answer : Status)
    → HasFailed words f old new before mid → Reports f mid answer after → Course words old new before after answer
failed_course words failure.BadUsage old new before mid after answer h r = No_command h.0 h.1 (subst (λ s. Says 2 (codes "flexc: bad usage") s after answer) h.2 r)
failed_course words (failure.CannotRead name) old new before mid after answer h r =
    let n = h.0 in
    Cannot_read n.script n.out n.main name.now n.are n.none (subst (λ s. Says 7 (codes "cannot read " ++ name.now) s after answer) h.1 r)
failed_course words (failure.TooLong name) old new before mid after answer h r =
    let n = h.0 in
    Too_long n.script n.out n.main name.now n.are n.none (subst (λ s. Says 10 (name.now ++ codes ": too long") s after answer) h.1 r)
failed_course words (failure.SourceFault name line column code) old new before mid after answer h r =
    let n = h.0 in
    let q = n.none.1 in
    let place = place_of q.source q.fault.at in
    let is : place_line name.now line column code ≡ source_fault_line n.main q.source q.fault =
    ap (λ m. place_line m line column code) n.none.0
    ∙ ap (λ l. place_line n.main l column code) q.line_is
    ∙ ap (λ c. place_line n.main place.line c code) q.column_is
    ∙ ap (place_line n.main place.line place.column) q.code_is in
    Has_fault n.script n.out n.main q.source q.commands q.fault n.are q.has_read q.first
    (subst (λ l. Says 3 l before after answer) is (subst (λ s. Says 3 (place_line name.now line column code) s after answer) h.1 r))
failed_course words (failure.NotYetBuilt name) old new before mid after answer h r =
    let n = h.0 in
    let q = n.none.1 in
    Not_built n.script n.out n.main q.source q.commands n.are q.has_read q.refused
    (subst (λ m. Says 3 (m ++ codes ":1:1: NotYetBuilt") before after answer) n.none.0 (subst (λ s. Says 3 (name.now ++ codes ":1:1: NotYetBuilt") s after answer) h.1 r))
failed_course words (failure.ScriptNotYetBuilt line) old new before mid after answer h r =
    let n = h.0 in
    let q = n.none in
    Bad_script n.script n.out n.main q.source q.commands q.document line n.are q.has_read q.has q.other (subst (λ s. Says 4 (script_line line) s after answer) h.1 r)
failed_course words (failure.CannotWrite name) old new before mid after answer h r =
    let n = h.0 in
    Cannot_write n.script name.now n.main n.document n.events n.are n.written (subst (λ s. Says 8 (codes "cannot write " ++ name.now) s after answer) h.1 r)
failed_course words failure.CannotPrint old new before mid after answer h r =
    Cannot_print h.script h.out h.main h.document h.events h.are h.written (subst (λ s. Plays h.written.bytes h.events (turns words) before (Err refused.Failed) s) (sym r.0) h.plays) r.1
failed_course words failure.NoMemory old new before mid after answer h r = No_memory (subst (λ s. HasNoMemory words old new before s) (sym r.0) h) r.1

pub played_course : (words : List (List ℕ)) (outcome : Outcome) (old new : FilesState) (before after : SinkState) (answer : Status)
    → HasRun words outcome old new before after → answer ≡ outcome_status outcome → IsEnd outcome → Course words old new before after answer
played_course words outcome old new before after answer h is comes = Has_played h.script h.out h.main h.document h.events outcome h.are h.written h.plays is comes

-- two results that are equal
abbrev TheResult : (A B : Type 0) → Result A B → Result A B → Type 0
TheResult A B a b = a ≡ b

ok_is : {A B : Type 0} (a b : A) → TheResult A B (Ok a) (Ok b) → a ≡ b
ok_is a b e = cc

err_is : {A B : Type 0} (a b : B) → TheResult A B (Err a) (Err b) → a ≡ b
err_is a b e = cc

not_both : {A B : Type 0} (a : A) (b : B) → TheResult A B (Ok a) (Err b) → ⊥
not_both a b e = cc

-- the words of one command name the same files
same_words : (words : List (List ℕ)) (s o m t p n : List ℕ) → AreWords words s o m → AreWords words t p n → (s ≡ t) × (o ≡ p) × (m ≡ n)
same_words words s o m t p n (Plain a) (Plain b) =
    let e = sym a ∙ b in
    (some_is s t (ap (λ l. slice_get l 2) e), some_is o p (ap (λ l. slice_get l 4) e), some_is m n (ap (λ l. slice_get l 5) e))
same_words words s o m t p n (With_turns j a) (With_turns k b) =
    let e = sym a.are ∙ b.are in
    (some_is s t (ap (λ l. slice_get l 2) e), some_is o p (ap (λ l. slice_get l 4) e), some_is m n (ap (λ l. slice_get l 7) e))
same_words words s o m t p n (Plain a) (With_turns k b) = let e = ap length (sym a ∙ b.are) in absurd (omega (arith, e))
same_words words s o m t p n (With_turns k a) (Plain b) = let e = ap length (sym a.are ∙ b) in absurd (omega (arith, e))

-- what is told of two files that were read
source_there : (script main source commands : List ℕ) (old new : FilesState) → HasRead script main source commands old new → IsTrue old.tells → old.bytes_of main ≡ Some source
source_there script main source commands old new r t = (r.first.1.told t).there

script_there : (script main source commands : List ℕ) (old new : FilesState) → HasRead script main source commands old new → IsTrue old.tells → old.bytes_of script ≡ Some commands
script_there script main source commands old new r t =
    sym ((r.first.1.told t).tried.only.bytes script) ∙ (r.second.1.told (r.first.1.tells ∙ t)).there

-- the same counts and bytes after both readings
counts_read : (script main source commands : List ℕ) (old new : FilesState) → HasRead script main source commands old new → SameCounts old new
counts_read script main source commands old new r =
    record { reads = r.second.1.counts.reads ∙ r.first.1.counts.reads; writes = r.second.1.counts.writes ∙ r.first.1.counts.writes }

module _ (words : List (List ℕ)) (old new : FilesState) where
  -- a document that was built of files that tell is the one that can be run
  same_document : (document : Document) (events : List UserEvent) (r : IsRunnable words old document events) (script out main : List ℕ) → AreWords words script out main → (mid : FilesState)
      (built : Document) (its : List UserEvent) → HasBuilt script main built its old mid → built ≡ document
  same_document document events r script out main are mid built its h =
      let same = same_words words script out main r.script r.out r.main are r.are in
      let there = source_there script main h.source h.commands old mid h.read r.tells in
      let source : h.source ≡ r.source = some_is h.source r.source (sym there ∙ ap old.bytes_of same.2 ∙ r.source_there) in
      one_document r.main r.source built document (subst (λ m. HasDocument m r.source built) same.2 (subst (λ s. HasDocument main s built) source h.has)) r.has

  -- so are the events of its script
  same_events : (document : Document) (events : List UserEvent) (r : IsRunnable words old document events) (script out main : List ℕ) → AreWords words script out main → (mid : FilesState)
      (built : Document) (its : List UserEvent) → HasBuilt script main built its old mid → its ≡ events
  same_events document events r script out main are mid built its h =
      let same = same_words words script out main r.script r.out r.main are r.are in
      let is : h.commands ≡ r.commands =
      some_is h.commands r.commands (sym (script_there script main h.source h.commands old mid h.read r.tells) ∙ ap old.bytes_of same.0 ∙ r.script_there) in
      ok_is its events (sym h.says ∙ ap script_of is ∙ r.says)

  -- no reading failed
  read_fails : (script out main name : List ℕ) → AreWords words script out main → FailsToRead script main name read.Failed old new → NoFileFault old new → ⊥
  read_fails script out main name are (At_source is fails) none = none.reads fails.counts.reads
  read_fails script out main name are (At_script source mid first is fails) none =
      none.reads (subst (λ n. Rose n new.read_faults) first.1.counts.reads fails.counts.reads)

  -- no file is too long
  read_long : (document : Document) (events : List UserEvent) (r : IsRunnable words old document events) (script out main name : List ℕ) → AreWords words script out main
      → FailsToRead script main name read.TooLong old new → ⊥
  read_long document events r script out main name are (At_source is fails) =
      let same = same_words words script out main r.script r.out r.main are r.are in
      let there : old.bytes_of main ≡ Some r.source = ap old.bytes_of same.2 ∙ r.source_there in
      let long : 1048576 < length r.source = subst (λ o. IsSomeAnd o (λ bytes. 1048576 < length bytes)) there (fails.told r.tells).long in
      let fits = r.source_fits in
      omega (arith, long, fits)
  read_long document events r script out main name are (At_script source mid first is fails) =
      let same = same_words words script out main r.script r.out r.main are r.are in
      let there : mid.bytes_of script ≡ Some r.commands = (first.1.told r.tells).tried.only.bytes script ∙ ap old.bytes_of same.0 ∙ r.script_there in
      let long : 1048576 < length r.commands = subst (λ o. IsSomeAnd o (λ bytes. 1048576 < length bytes)) there (fails.told (first.1.tells ∙ r.tells)).long in
      let fits = r.script_fits in
      omega (arith, long, fits)

  -- the source is built
  not_refused : (document : Document) (events : List UserEvent) (r : IsRunnable words old document events) (script out main source commands : List ℕ) → AreWords words script out main
      → HasRead script main source commands old new → IsNotBuilt main source → ⊥
  not_refused document events r script out main source commands are h refused =
      let same = same_words words script out main r.script r.out r.main are r.are in
      let there = source_there script main source commands old new h r.tells in
      let is : source ≡ r.source = some_is source r.source (sym there ∙ ap old.bytes_of same.2 ∙ r.source_there) in
      refused.none document (subst (λ m. HasDocument m source document) (sym same.2) (subst (λ s. HasDocument r.main s document) (sym is) r.has))

  -- the source has no fault
  not_faulty : (document : Document) (events : List UserEvent) (r : IsRunnable words old document events) (script out main source commands : List ℕ) (fault : Fault) → AreWords words script out main
      → HasRead script main source commands old new → IsFirstFault fault source → ⊥
  not_faulty document events r script out main source commands fault are h first =
      let same = same_words words script out main r.script r.out r.main are r.are in
      let there = source_there script main source commands old new h r.tells in
      let is : source ≡ r.source = some_is source r.source (sym there ∙ ap old.bytes_of same.2 ∙ r.source_there) in
      never_both r.source r.has.nodes fault r.has.has_nodes (subst (IsFirstFault fault) is first)

  -- each line of the script is known
  no_other_line : (document : Document) (events : List UserEvent) (r : IsRunnable words old document events) (script out main source commands : List ℕ) (line : ℕ)
      → AreWords words script out main → HasRead script main source commands old new → script_of commands ≡ Err line → ⊥
  no_other_line document events r script out main source commands line are h other =
      let same = same_words words script out main r.script r.out r.main are r.are in
      let is : commands ≡ r.commands = some_is commands r.commands (sym (script_there script main source commands old new h r.tells) ∙ ap old.bytes_of same.0 ∙ r.script_there) in
      not_both events line (sym r.says ∙ ap script_of (sym is) ∙ other)

  -- the file was written
  write_fails : (script out main : List ℕ) (document : Document) (its : List UserEvent) → HasWrittenFile script out main document its (Err refused.Failed) old new → NoFileFault old new → ⊥
  write_fails script out main document its h none =
      none.writes (subst (λ n. Rose n new.write_faults) (counts_read script main h.built.source h.built.commands old h.mid h.built.read).writes h.written.counts.writes)

  module _ (before after : SinkState) where
    -- the text of the file's trace, all of which was printed, is that of the source's, and so is its outcome
    same_story : (bytes : List ℕ) (built : Document) (its : List UserEvent) (outcome : Outcome) → PlaysAs bytes built → (played : HasPlayed bytes its (turns words) outcome before after)
        → played.story ≡ source_trace built its (turns words)
    same_story bytes built its outcome plays played = plays.only its (turns words) played.story (source_trace built its (turns words)) played.trace (plays.same its (turns words))

    pub same_outcome : (bytes : List ℕ) (built : Document) (its : List UserEvent) (outcome : Outcome) → PlaysAs bytes built → HasPlayed bytes its (turns words) outcome before after
        → (source_trace built its (turns words)).outcome ≡ outcome
    same_outcome bytes built its outcome plays played = sym (ap (λ (s : Story). s.outcome) (same_story bytes built its outcome plays played)) ∙ played.is

    -- what was built and played is what can be run
    same_trace : (document : Document) (events : List UserEvent) (r : IsRunnable words old document events) (script out main : List ℕ) → AreWords words script out main → (mid : FilesState)
        (built : Document) (its : List UserEvent) → HasBuilt script main built its old mid → source_trace built its (turns words) ≡ source_trace document events (turns words)
    same_trace document events r script out main are mid built its h =
        ap (λ d. source_trace d its (turns words)) (same_document document events r script out main are mid built its h)
        ∙ ap (λ e. source_trace document e (turns words)) (same_events document events r script out main are mid built its h)

    pub runs_whole : (answer : Status) → Course words old new before after answer → RunsWhole words old new before after answer
    runs_whole answer (No_command missing files says) document events r none quiet = absurd (missing r.script r.out r.main r.are)
    runs_whole answer (Cannot_read script out main name are fails says) document events r none quiet = absurd (read_fails script out main name are fails none)
    runs_whole answer (Too_long script out main name are fails says) document events r none quiet = absurd (read_long document events r script out main name are fails)
    runs_whole answer (Has_fault script out main source commands fault are has_read first says) document events r none quiet =
        absurd (not_faulty document events r script out main source commands fault are has_read first)
    runs_whole answer (Not_built script out main source commands are has_read refused says) document events r none quiet =
        absurd (not_refused document events r script out main source commands are has_read refused)
    runs_whole answer (Bad_script script out main source commands built number are has_read has other says) document events r none quiet =
        absurd (no_other_line document events r script out main source commands number are has_read other)
    runs_whole answer (Cannot_write script out main built its are written says) document events r none quiet = absurd (write_fails script out main built its written none)
    runs_whole answer (Cannot_print script out main built its are written plays is) document events r none quiet = absurd (quiet plays.faults)
    runs_whole answer (No_memory without is) document events r none quiet = inr is
    runs_whole answer (Has_played script out main built its outcome are written plays is comes) document events r none quiet =
        let same = same_trace document events r script out main are written.mid built its written.built in
        inl (is ∙ ap outcome_status (sym (same_outcome written.bytes built its outcome written.plays plays) ∙ ap (λ (s : Story). s.outcome) same))

    -- nothing was printed
    nothing_taken : (bytes : List ℕ) → after ≡ before → HasTaken bytes before after
    nothing_taken bytes same = record { part = []; left = bytes; whole = refl; taken = ap (λ s. s.taken) same ∙ sym (append-nil before.taken) }

    -- what was printed of the file's trace was printed of the source's
    part_taken : (document : Document) (events : List UserEvent) (r : IsRunnable words old document events) (script out main : List ℕ) (built : Document) (its : List UserEvent)
        → AreWords words script out main → (written : HasWrittenFile script out main built its (Ok tt) old new)
        → ((story : Story) → HasTrace written.bytes its (turns words) story → HasTaken (text story) before after) → HasTaken (text (source_trace document events (turns words))) before after
    part_taken document events r script out main built its are written part =
        subst (λ (s : Story). HasTaken (text s) before after) (same_trace document events r script out main are written.mid built its written.built)
        (part (source_trace built its (turns words)) (written.plays.same its (turns words)))

    memory_part : (document : Document) (events : List UserEvent) → IsRunnable words old document events → HasNoMemory words old new before after → IsTrue before.tells
        → HasTaken (text (source_trace document events (turns words))) before after
    memory_part document events r (Early script out main are files sink) t = nothing_taken (text (source_trace document events (turns words))) sink
    memory_part document events r (Writing script out main built its are written sink) t = nothing_taken (text (source_trace document events (turns words))) sink
    memory_part document events r (Playing script out main built its are written plays) t = part_taken document events r script out main built its are written (plays.told t)

    -- and all of it was printed
    all_printed : (bytes : List ℕ) (built : Document) (its : List UserEvent) (outcome : Outcome) → PlaysAs bytes built → HasPlayed bytes its (turns words) outcome before after
        → SinkChanges before after (after.write_faults ≡ before.write_faults) (after.taken ≡ before.taken ++ text (source_trace built its (turns words)))
    all_printed bytes built its outcome plays played =
        subst (λ (s : Story). SinkChanges before after (after.write_faults ≡ before.write_faults) (after.taken ≡ before.taken ++ text s)) (same_story bytes built its outcome plays played)
        played.printed

    pub runs_in_part : (answer : Status) → Course words old new before after answer → RunsInPart words old new before after
    runs_in_part answer (No_command missing files says) document events r none t = absurd (missing r.script r.out r.main r.are)
    runs_in_part answer (Cannot_read script out main name are fails says) document events r none t = absurd (read_fails script out main name are fails none)
    runs_in_part answer (Too_long script out main name are fails says) document events r none t = absurd (read_long document events r script out main name are fails)
    runs_in_part answer (Has_fault script out main source commands fault are has_read first says) document events r none t =
        absurd (not_faulty document events r script out main source commands fault are has_read first)
    runs_in_part answer (Not_built script out main source commands are has_read refused says) document events r none t =
        absurd (not_refused document events r script out main source commands are has_read refused)
    runs_in_part answer (Bad_script script out main source commands built number are has_read has other says) document events r none t =
        absurd (no_other_line document events r script out main source commands number are has_read other)
    runs_in_part answer (Cannot_write script out main built its are written says) document events r none t = absurd (write_fails script out main built its written none)
    runs_in_part answer (Cannot_print script out main built its are written plays is) document events r none t = part_taken document events r script out main built its are written (plays.told t)
    runs_in_part answer (No_memory without is) document events r none t = memory_part document events r without t
    runs_in_part answer (Has_played script out main built its outcome are written plays is comes) document events r none t =
        let all = (all_printed written.bytes built its outcome written.plays plays).told t in
        subst (λ (s : Story). HasTaken (text s) before after) (same_trace document events r script out main are written.mid built its written.built)
        (record { part = text (source_trace built its (turns words)); left = []; whole = sym (append-nil (text (source_trace built its (turns words)))); taken = all })

    -- the files after all was written
    all_written : (script out main : List ℕ) (built : Document) (its : List UserEvent) (h : HasWrittenFile script out main built its (Ok tt) old new)
        → Changes old new (SameCounts old new) (HoldsFile script out main h.built.source h.bytes its old new)
    all_written script out main built its h =
        let reading = h.built.read in
        let counts = counts_read script main h.built.source h.built.commands old h.mid reading in
        let tells : h.mid.tells ≡ old.tells = reading.second.1.tells ∙ reading.first.1.tells in
        record {
          tells = h.written.tells ∙ tells;
          counts = record { reads = h.written.counts.reads ∙ counts.reads; writes = h.written.counts.writes ∙ counts.writes };
          told = λ t. record {
            source_there = source_there script main h.built.source h.built.commands old h.mid reading t;
            commands = h.built.commands;
            script_there = script_there script main h.built.source h.built.commands old h.mid reading t;
            says = h.built.says;
            written = (h.written.told (tells ∙ t)).there;
            others = λ name other.
                (h.written.told (tells ∙ t)).others name other ∙ (reading.second.1.told (reading.first.1.tells ∙ t)).tried.only.bytes name ∙ (reading.first.1.told t).tried.only.bytes name;
          };
        }

    -- no line was to be printed where the status is that of an end
    not_said : (n k : ℕ) (result : Result (Unit {0}) Refused) → n ≢ k → 8 ≢ k → 9 ≢ k → status_after n result ≡ status k → ⊥
    not_said n k (Ok done) a b c e = a (ap (λ s. s.0) e)
    not_said n k (Err refused.Failed) a b c e = b (ap (λ s. s.0) e)
    not_said n k (Err refused.NoMemory) a b c e = c (ap (λ s. s.0) e)

    said : (n k : ℕ) (line : List ℕ) (answer : Status) → n ≢ k → 8 ≢ k → 9 ≢ k → Says n line before after answer → answer ≡ status k → ⊥
    said n k line answer a b c s e = not_said n k s.result a b c (sym s.is ∙ e)

    numbered : (n k : ℕ) (answer : Status) → n ≢ k → answer ≡ status n → answer ≡ status k → ⊥
    numbered n k answer a is e = a (ap (λ s. s.0) (sym is ∙ e))

    -- the outcome of which a play comes to its end with this status
    abbrev code : Outcome → ℕ
    code outcome = (outcome_status outcome).0

    abbrev end_of : ℕ → Outcome
    end_of zero = Ended
    end_of (suc zero) = Stopped Cells
    end_of (suc (suc n)) = TurnsSpent

    end_is : (outcome : Outcome) → IsEnd outcome → end_of (code outcome) ≡ outcome
    end_is outcome (inl e) = ap (λ o. end_of (code o)) e ∙ sym e
    end_is outcome (inr (inl e)) = ap (λ o. end_of (code o)) e ∙ sym e
    end_is outcome (inr (inr e)) = ap (λ o. end_of (code o)) e ∙ sym e

    one_outcome : (outcome end : Outcome) (answer : Status) → IsEnd outcome → IsEnd end → answer ≡ outcome_status outcome → answer ≡ outcome_status end → outcome ≡ end
    one_outcome outcome end answer comes ends is e = sym (end_is outcome comes) ∙ ap (λ (s : Status). end_of s.0) (sym is ∙ e) ∙ end_is end ends

    -- the status of an end is none that the line of a failure gives
    code_is : (outcome : Outcome) → IsEnd outcome → (code outcome ≡ 0) ⊎ ((code outcome ≡ 6) ⊎ (code outcome ≡ 1))
    code_is outcome (inl e) = inl (ap code e)
    code_is outcome (inr (inl e)) = inr (inl (ap code e))
    code_is outcome (inr (inr e)) = inr (inr (ap code e))

    apart : (k : ℕ) → (k ≡ 0) ⊎ ((k ≡ 6) ⊎ (k ≡ 1)) → (n : ℕ) → 1 < n → n ≢ 6 → n ≢ k
    apart k (inl z) n most other s = omega (arith, most, z, s)
    apart k (inr (inl z)) n most other s = other (s ∙ z)
    apart k (inr (inr z)) n most other s = omega (arith, most, z, s)

    record IsFree (k : ℕ) : Type 0 where
      two : 2 ≢ k
      three : 3 ≢ k
      four : 4 ≢ k
      seven : 7 ≢ k
      eight : 8 ≢ k
      nine : 9 ≢ k
      ten : 10 ≢ k

    free_of : (end : Outcome) → IsEnd end → IsFree (code end)
    free_of end ends =
        let free : (n : ℕ) → 1 < n → n ≢ 6 → n ≢ code end = apart (code end) (code_is end ends) in
        record {
          two = free 2 (omega arith) (λ e. omega (arith, e));
          three = free 3 (omega arith) (λ e. omega (arith, e));
          four = free 4 (omega arith) (λ e. omega (arith, e));
          seven = free 7 (omega arith) (λ e. omega (arith, e));
          eight = free 8 (omega arith) (λ e. omega (arith, e));
          nine = free 9 (omega arith) (λ e. omega (arith, e));
          ten = free 10 (omega arith) (λ e. omega (arith, e));
        }

    -- the status of an outcome is that of a play that came to it
    pub has_printed : (end : Outcome) → IsEnd end → (answer : Status) → Course words old new before after answer → answer ≡ outcome_status end → HasPrintedTrace words end old new before after
    has_printed end ends answer (No_command missing files says) e = absurd (said 2 (code end) _ answer (free_of end ends).two (free_of end ends).eight (free_of end ends).nine says e)
    has_printed end ends answer (Cannot_read script out main name are fails says) e = absurd (said 7 (code end) _ answer (free_of end ends).seven (free_of end ends).eight (free_of end ends).nine says e)
    has_printed end ends answer (Too_long script out main name are fails says) e = absurd (said 10 (code end) _ answer (free_of end ends).ten (free_of end ends).eight (free_of end ends).nine says e)
    has_printed end ends answer (Has_fault script out main source commands fault are has_read first says) e = absurd (said 3 (code end) _ answer (free_of end ends).three (free_of end ends).eight (free_of end ends).nine says e)
    has_printed end ends answer (Not_built script out main source commands are has_read refused says) e = absurd (said 3 (code end) _ answer (free_of end ends).three (free_of end ends).eight (free_of end ends).nine says e)
    has_printed end ends answer (Bad_script script out main source commands built number are has_read has other says) e = absurd (said 4 (code end) _ answer (free_of end ends).four (free_of end ends).eight (free_of end ends).nine says e)
    has_printed end ends answer (Cannot_write script out main built its are written says) e = absurd (said 8 (code end) _ answer (free_of end ends).eight (free_of end ends).eight (free_of end ends).nine says e)
    has_printed end ends answer (Cannot_print script out main built its are written plays is) e = absurd (numbered 8 (code end) answer (free_of end ends).eight is e)
    has_printed end ends answer (No_memory without is) e = absurd (numbered 9 (code end) answer (free_of end ends).nine is e)
    has_printed end ends answer (Has_played script out main built its outcome are written plays is comes) e = record {
      script = script;
      out = out;
      main = main;
      source = written.built.source;
      bytes = written.bytes;
      document = built;
      events = its;
      are = are;
      has = written.built.has;
      plays = written.plays;
      files = all_written script out main built its written;
      printed = all_printed written.bytes built its outcome written.plays plays;
      comes_to = same_outcome written.bytes built its outcome written.plays plays ∙ one_outcome outcome end answer comes ends is e;
    }

module _ (words : List (List ℕ)) (old new : FilesState) (before after : SinkState) (none : NoFileFault old new) (quiet : NoSinkFault before after) (tells : IsTrue old.tells) where
  -- a line that was to be printed was printed, or memory was refused
  has_said : (meant n : ℕ) (line text : List ℕ) (answer : Status) → Says n text before after answer → meant ≡ n → line ≡ text → HasSaid meant line before after answer ⊎ (answer ≡ status 9)
  has_said meant n line text answer s number same = by s.result s.prints s.is
    where
      by : (result : Result (Unit {0}) Refused) → Prints before (with_end text) result after → answer ≡ status_after n result → HasSaid meant line before after answer ⊎ (answer ≡ status 9)
      by (Ok done) p is =
          inl (record {
            is = is ∙ ap status (sym number);
            printed = record { tells = p.tells; faults = p.faults; told = λ t. p.told t ∙ ap (λ l. before.taken ++ with_end l) (sym same) };
          })
      by (Err refused.Failed) p is = absurd (quiet p.faults)
      by (Err refused.NoMemory) p is = inr is

  -- what was read of the two files
  reading : (script main source commands : List ℕ) (mid : FilesState) → HasRead script main source commands old mid → HoldsBoth script main source commands old
  reading script main source commands mid r = record {
    source_there = source_there script main source commands old mid r tells;
    source_fits = r.first.0;
    script_there = script_there script main source commands old mid r tells;
    script_fits = r.second.0;
  }

  -- a file has the same bytes in both views of it
  same_bytes : (m n a b : List ℕ) → m ≡ n → old.bytes_of m ≡ Some a → old.bytes_of n ≡ Some b → a ≡ b
  same_bytes m n a b same p q = some_is a b (sym p ∙ ap old.bytes_of same ∙ q)

  -- which file is too long
  data TooLong (script main name : List ℕ) : Type 0 where
    Source : (source : List ℕ) (is : name ≡ main) (there : old.bytes_of main ≡ Some source) (long : 1048576 < length source) → TooLong script main name
    Script : (source commands : List ℕ) (is : name ≡ script) (there : old.bytes_of main ≡ Some source) (fits : length source ≤ 1048576)
        (script_there : old.bytes_of script ≡ Some commands) (long : 1048576 < length commands) → TooLong script main name

  there_is : (o : Option (List ℕ)) → IsSomeAnd o (λ bytes. 1048576 < length bytes) → (bytes : List ℕ) × (o ≡ Some bytes) × (1048576 < length bytes)
  there_is None long = absurd long
  there_is (Some bytes) long = (bytes, refl, long)

  too_long : (script out main name : List ℕ) → FailsToRead script main name read.TooLong old new → TooLong script main name
  too_long script out main name (At_source is fails) = let h = there_is (old.bytes_of main) (fails.told tells).long in Source h.0 is h.1 h.2
  too_long script out main name (At_script source mid first is fails) =
      let h = there_is (mid.bytes_of script) (fails.told (first.1.tells ∙ tells)).long in
      Script source h.0 is (first.1.told tells).there first.0 (sym ((first.1.told tells).tried.only.bytes script) ∙ h.1) h.2

  pub refuses_rightly : (answer : Status) → Course words old new before after answer → (meant : ℕ) (line : List ℕ) → Refuses words old meant line
      → HasSaid meant line before after answer ⊎ (answer ≡ status 9)
  refuses_rightly answer (No_command missing files says) meant line (For_words m number same) = has_said meant 2 line (codes "flexc: bad usage") answer says number same
  refuses_rightly answer (No_command missing files says) meant line (For_long_source script out main source are there long number same) = absurd (missing script out main are)
  refuses_rightly answer (No_command missing files says) meant line (For_long_script script out main source commands are there fits script_there long number same) = absurd (missing script out main are)
  refuses_rightly answer (No_command missing files says) meant line (For_fault script out main source commands fault are both first number same) = absurd (missing script out main are)
  refuses_rightly answer (No_command missing files says) meant line (For_source script out main source commands are both refused number same) = absurd (missing script out main are)
  refuses_rightly answer (No_command missing files says) meant line (For_script script out main source commands document which are both has other2 number same) = absurd (missing script out main are)
  refuses_rightly answer (Cannot_read script out main name are fails says) meant line why = absurd (read_fails words old new script out main name are fails none)
  refuses_rightly answer (Cannot_write script out main built its are written says) meant line why = absurd (write_fails words old new script out main built its written none)
  refuses_rightly answer (Cannot_print script out main built its are written plays is) meant line why = absurd (quiet plays.faults)
  refuses_rightly answer (No_memory without is) meant line why = inr is
  refuses_rightly answer (Too_long script out main name are fails says) meant line why = by (too_long script out main name fails) why
    where
      by : TooLong script main name → Refuses words old meant line → HasSaid meant line before after answer ⊎ (answer ≡ status 9)
      by long (For_words missing number same) = absurd (missing script out main are)
      by (Source s is there large) (For_long_source t p m source are2 there2 long2 number same) =
          let names = same_words words script out main t p m are are2 in
          has_said meant 10 line (name ++ codes ": too long") answer says number (same ∙ ap (λ l. l ++ codes ": too long") (sym (is ∙ names.2)))
      by (Source s is there large) (For_long_script t p m source commands are2 there2 fits script_there long2 number same) =
          let names = same_words words script out main t p m are are2 in
          let e = ap length (same_bytes main m s source names.2 there there2) in absurd (omega (arith, e))
      by (Source s is there large) (For_fault t p m source commands fault are2 both first number same) =
          let names = same_words words script out main t p m are are2 in
          let e = ap length (same_bytes main m s source names.2 there both.source_there) in let f = both.source_fits in absurd (omega (arith, e, f))
      by (Source s is there large) (For_source t p m source commands are2 both refused number same) =
          let names = same_words words script out main t p m are are2 in
          let e = ap length (same_bytes main m s source names.2 there both.source_there) in let f = both.source_fits in absurd (omega (arith, e, f))
      by (Source s is there large) (For_script t p m source commands document which are2 both has other2 number same) =
          let names = same_words words script out main t p m are are2 in
          let e = ap length (same_bytes main m s source names.2 there both.source_there) in let f = both.source_fits in absurd (omega (arith, e, f))
      by (Script s c is there fits script_there large) (For_long_source t p m source are2 there2 long2 number same) =
          let names = same_words words script out main t p m are are2 in
          let e = ap length (same_bytes main m s source names.2 there there2) in absurd (omega (arith, e))
      by (Script s c is there fits script_there large) (For_long_script t p m source commands are2 there2 fits2 script_there2 long2 number same) =
          let names = same_words words script out main t p m are are2 in
          has_said meant 10 line (name ++ codes ": too long") answer says number (same ∙ ap (λ l. l ++ codes ": too long") (sym (is ∙ names.0)))
      by (Script s c is there fits script_there large) (For_fault t p m source commands fault are2 both first number same) =
          let names = same_words words script out main t p m are are2 in
          let e = ap length (same_bytes script t c commands names.0 script_there both.script_there) in let f = both.script_fits in absurd (omega (arith, e, f))
      by (Script s c is there fits script_there large) (For_source t p m source commands are2 both refused number same) =
          let names = same_words words script out main t p m are are2 in
          let e = ap length (same_bytes script t c commands names.0 script_there both.script_there) in let f = both.script_fits in absurd (omega (arith, e, f))
      by (Script s c is there fits script_there large) (For_script t p m source commands document which are2 both has other2 number same) =
          let names = same_words words script out main t p m are are2 in
          let e = ap length (same_bytes script t c commands names.0 script_there both.script_there) in let f = both.script_fits in absurd (omega (arith, e, f))
  refuses_rightly answer (Has_fault script out main source commands fault are has_read first says) meant line why = by why
    where
      here : HoldsBoth script main source commands old
      here = reading script main source commands new has_read

      by : Refuses words old meant line → HasSaid meant line before after answer ⊎ (answer ≡ status 9)
      by (For_words missing number same) = absurd (missing script out main are)
      by (For_long_source t p m s are2 there2 long2 number same) =
          let names = same_words words script out main t p m are are2 in
          let e = ap length (same_bytes main m source s names.2 here.source_there there2) in let f = here.source_fits in absurd (omega (arith, e, f))
      by (For_long_script t p m s c are2 there2 fits2 script_there2 long2 number same) =
          let names = same_words words script out main t p m are are2 in
          let e = ap length (same_bytes script t commands c names.0 here.script_there script_there2) in let f = here.script_fits in absurd (omega (arith, e, f))
      by (For_fault t p m s c fault2 are2 both first2 number same) =
          let names = same_words words script out main t p m are are2 in
          let e = same_bytes main m source s names.2 here.source_there both.source_there in
          let faults : fault ≡ fault2 = one_fault s fault fault2 (subst (IsFirstFault fault) e first) first2 in
          let lines : line ≡ source_fault_line main source fault =
          same ∙ ap (λ n. source_fault_line n s fault2) (sym names.2) ∙ ap (λ b. source_fault_line main b fault2) (sym e) ∙ ap (source_fault_line main source) (sym faults) in
          has_said meant 3 line (source_fault_line main source fault) answer says number lines
      by (For_source t p m s c are2 both refused number same) =
          let names = same_words words script out main t p m are are2 in
          let e = same_bytes main m source s names.2 here.source_there both.source_there in
          absurd (never_both s refused.nodes fault refused.has_nodes (subst (IsFirstFault fault) e first))
      by (For_script t p m s c document which are2 both has other2 number same) =
          let names = same_words words script out main t p m are are2 in
          let e = same_bytes main m source s names.2 here.source_there both.source_there in
          absurd (never_both s has.nodes fault has.has_nodes (subst (IsFirstFault fault) e first))
  refuses_rightly answer (Not_built script out main source commands are has_read refused says) meant line why = by why
    where
      here : HoldsBoth script main source commands old
      here = reading script main source commands new has_read

      by : Refuses words old meant line → HasSaid meant line before after answer ⊎ (answer ≡ status 9)
      by (For_words missing number same) = absurd (missing script out main are)
      by (For_long_source t p m s are2 there2 long2 number same) =
          let names = same_words words script out main t p m are are2 in
          let e = ap length (same_bytes main m source s names.2 here.source_there there2) in let f = here.source_fits in absurd (omega (arith, e, f))
      by (For_long_script t p m s c are2 there2 fits2 script_there2 long2 number same) =
          let names = same_words words script out main t p m are are2 in
          let e = ap length (same_bytes script t commands c names.0 here.script_there script_there2) in let f = here.script_fits in absurd (omega (arith, e, f))
      by (For_fault t p m s c fault are2 both first number same) =
          let names = same_words words script out main t p m are are2 in
          let e = same_bytes main m source s names.2 here.source_there both.source_there in
          absurd (never_both s refused.nodes fault (subst (λ b. HasNodes b refused.nodes) e refused.has_nodes) first)
      by (For_source t p m s c are2 both refused2 number same) =
          let names = same_words words script out main t p m are are2 in
          has_said meant 3 line (main ++ codes ":1:1: NotYetBuilt") answer says number (same ∙ ap (λ l. l ++ codes ":1:1: NotYetBuilt") (sym names.2))
      by (For_script t p m s c document which are2 both has other2 number same) =
          let names = same_words words script out main t p m are are2 in
          let e = same_bytes main m source s names.2 here.source_there both.source_there in
          absurd (refused.none document (subst (λ n. HasDocument n source document) (sym names.2) (subst (λ b. HasDocument m b document) (sym e) has)))
  refuses_rightly answer (Bad_script script out main source commands built first are has_read has other says) meant line why = by why
    where
      here : HoldsBoth script main source commands old
      here = reading script main source commands new has_read

      by : Refuses words old meant line → HasSaid meant line before after answer ⊎ (answer ≡ status 9)
      by (For_words missing number same) = absurd (missing script out main are)
      by (For_long_source t p m s are2 there2 long2 number same) =
          let names = same_words words script out main t p m are are2 in
          let e = ap length (same_bytes main m source s names.2 here.source_there there2) in let f = here.source_fits in absurd (omega (arith, e, f))
      by (For_long_script t p m s c are2 there2 fits2 script_there2 long2 number same) =
          let names = same_words words script out main t p m are are2 in
          let e = ap length (same_bytes script t commands c names.0 here.script_there script_there2) in let f = here.script_fits in absurd (omega (arith, e, f))
      by (For_fault t p m s c fault are2 both first2 number same) =
          let names = same_words words script out main t p m are are2 in
          let e = same_bytes main m source s names.2 here.source_there both.source_there in
          absurd (never_both s has.nodes fault (subst (λ b. HasNodes b has.nodes) e has.has_nodes) first2)
      by (For_source t p m s c are2 both refused number same) =
          let names = same_words words script out main t p m are are2 in
          let e = same_bytes main m source s names.2 here.source_there both.source_there in
          absurd (refused.none built (subst (λ n. HasDocument n s built) names.2 (subst (λ b. HasDocument main b built) e has)))
      by (For_script t p m s c document which are2 both has2 other2 number same) =
          let names = same_words words script out main t p m are are2 in
          let e = same_bytes script t commands c names.0 here.script_there both.script_there in
          let firsts : first ≡ which = err_is first which (sym other ∙ ap script_of e ∙ other2) in
          let lines : line ≡ script_line first = same ∙ ap script_line (sym firsts) in
          has_said meant 4 line (script_line first) answer says number lines
  refuses_rightly answer (Has_played script out main built its outcome are written plays is comes) meant line why = by why
    where
      here : HoldsBoth script main written.built.source written.built.commands old
      here = reading script main written.built.source written.built.commands written.mid written.built.read

      by : Refuses words old meant line → HasSaid meant line before after answer ⊎ (answer ≡ status 9)
      by (For_words missing number same) = absurd (missing script out main are)
      by (For_long_source t p m s are2 there2 long2 number same) =
          let names = same_words words script out main t p m are are2 in
          let e = ap length (same_bytes main m written.built.source s names.2 here.source_there there2) in let f = here.source_fits in absurd (omega (arith, e, f))
      by (For_long_script t p m s c are2 there2 fits2 script_there2 long2 number same) =
          let names = same_words words script out main t p m are are2 in
          let e = ap length (same_bytes script t written.built.commands c names.0 here.script_there script_there2) in
          let f = here.script_fits in
          absurd (omega (arith, e, f))
      by (For_fault t p m s c fault are2 both first number same) =
          let names = same_words words script out main t p m are are2 in
          let e = same_bytes main m written.built.source s names.2 here.source_there both.source_there in
          absurd (never_both s written.built.has.nodes fault (subst (λ b. HasNodes b written.built.has.nodes) e written.built.has.has_nodes) first)
      by (For_source t p m s c are2 both refused number same) =
          let names = same_words words script out main t p m are are2 in
          let e = same_bytes main m written.built.source s names.2 here.source_there both.source_there in
          absurd (refused.none built (subst (λ n. HasDocument n s built) names.2 (subst (λ b. HasDocument main b built) e written.built.has)))
      by (For_script t p m s c document which are2 both has other2 number same) =
          let names = same_words words script out main t p m are are2 in
          let e = same_bytes script t written.built.commands c names.0 here.script_there both.script_there in
          absurd (not_both its which (sym written.built.says ∙ ap script_of e ∙ other2))

-- how the play of a document that was built comes to its end
pub run_ends : (words : List (List ℕ)) (outcome : Outcome) (old new : FilesState) (before after : SinkState) → HasRun words outcome old new before after → IsEnd outcome
run_ends words outcome old new before after h =
    subst IsEnd (same_outcome words old new before after h.written.bytes h.document h.events outcome h.written.plays h.plays) (ends_so h.document h.events (turns words) (asks_none h.written.built.commands h.events h.written.built.says))

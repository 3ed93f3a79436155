-- A play that is printed, after some lines of its script.
use Rattle.std.proofs.Common.{◌≡◌, ◌≢◌, ℕ, zero, suc, List, [], ◌∷◌, ◌++◌, Bool, true, false, Option, None, Some, Err, refl, sym, ap, ap₂, ◌∙◌, subst, append_assoc}
use Rattle.std.specs.Prelude.{if◌then◌else◌, unwrap_or}
use Rattle.std.specs.Option.{option_or}
use Rattle.std.proofs.lemmas.Grind.{flat_map-append}
use Rattle.std.proofs.lemmas.List.{append-nil}
use Rattle.abc_format.specs.declared.records.Abc.{Abc}
use Rattle.flex_base.specs.Line.{outcome_line}
use Rattle.flex_base.specs.declared.outcome.Outcome.{Outcome}
use Rattle.flex_base.specs.declared.outcome.Outcome.TheVariants.{Ended}
use Rattle.flex_base.specs.declared.record.TraceItem.{TraceItem}
use Rattle.flex_edge.specs.Outside.{Rose, SinkState}
use Rattle.flex_edge.specs.Calls.{SinkChanges}
use Rattle.flex_base.specs.declared.event.UserEvent.{UserEvent}
use Rattle.avm2_machine.specs.declared.machine.Machine.{Machine}
use Rattle.flex_edge.specs.declared.refused.Refused.{Refused}
use Rattle.flex_edge.specs.declared.refused.Refused.TheVariants as refused
use Rattle.avm2_machine.specs.Machine.{begins, idle, step, result_of}
use Rattle.script_player.specs.Playing.{Config, Play, and_item, over, over_with, run, first, goes_on, goes_from, next, played, opening, ComesTo}
use Rattle.script_player.specs.Printed.{HasRun, HasRunPart, Runs, HasShown, Shows}
use Rattle.flex_base.specs.Story.{Story, record_line, lines, text, with_end}
use Rattle.flex_edge.specs.Whole.{HasTaken}
use Rattle.script_player.proofs.EndLaws.{stays}
use Rattle.script_player.proofs.RunLaws.{played_then, run_lifts}
use Rattle.script_player.proofs.Ran.{behind, run-behind}

-- items that others follow
record Follows (items more : List TraceItem) : Type 0 where
  others : List TraceItem
  is : more ≡ items ++ others

follows-same : (items more : List TraceItem) → more ≡ items → Follows items more
follows-same items more same = record { others = []; is = same ∙ sym (append-nil items) }

follows-and_item : (records : List TraceItem) (item : Option TraceItem) → Follows records (and_item records item)
follows-and_item records None = follows-same records records refl
follows-and_item records (Some item) = record { others = item ∷ []; is = refl }

follows_on : (a b c : List TraceItem) → Follows a b → Follows b c → Follows a c
follows_on a b c f g = record { others = f.others ++ g.others; is = g.is ∙ ap (λ l. l ++ g.others) f.is ∙ append_assoc a f.others g.others }

rests : Option Outcome → Bool → Option Outcome
rests o b = option_or o (if b then Some Ended else None)

-- a machine at rest whose play isn't over is idle
rest_is_idle : (m : Machine) → m.outcome ≡ None → result_of m ≢ None → idle m ≡ true
unfolding rests
rest_is_idle m none at_rest = by (idle m) refl
  where
    by : (b : Bool) → idle m ≡ b → idle m ≡ true
    by true is = is
    by false is = absurd (at_rest (ap₂ rests none is))

-- a machine at rest and no line to come: the play is over
rest_is_over : (o : Option Outcome) (b : Bool) → rests o b ≢ None → over_with o b [] ≡ Some (unwrap_or o Ended)
unfolding rests
rest_is_over (Some o) b at_rest = refl
rest_is_over None true at_rest = refl
rest_is_over None false at_rest = absurd (at_rest refl)

module _ (abc : Abc) (main : List ℕ) where
  next_grows : (p : Play) → Follows p.config.records (next abc main p).config.records
  next_grows p = from (over p)
    where
      on : (b : Bool) (left : List UserEvent) → Follows p.config.records (goes_on abc main b left p.config).config.records
      on true (event ∷ left) = follows-same p.config.records p.config.records refl
      on true [] = follows-and_item p.config.records (step abc main p.config.machine).item
      on false left = follows-and_item p.config.records (step abc main p.config.machine).item

      from : (o : Option Outcome) → Follows p.config.records (goes_from abc main o p).config.records
      from (Some o) = follows-same p.config.records p.config.records refl
      from None = on (idle p.config.machine) p.left

  play_grows : (k : ℕ) (p : Play) → Follows p.config.records (played abc main k p).config.records
  play_grows zero p = follows-same p.config.records p.config.records refl
  play_grows (suc k) p =
      follows_on p.config.records (next abc main p).config.records (played abc main (suc k) p).config.records (next_grows p) (play_grows k (next abc main p))

  -- the records at the end follow those at any time
  end_follows : (n k : ℕ) (p : Play) (o : Outcome) → over (played abc main n p) ≡ Some o → Follows (played abc main k p).config.records (played abc main n p).config.records
  end_follows zero k p o e = follows-same (played abc main k p).config.records p.config.records (ap (λ q. q.config.records) (sym (stays abc main p o e k)))
  end_follows (suc n) zero p o e = play_grows (suc n) p
  end_follows (suc n) (suc k) p o e = end_follows n k (next abc main p) o e

  module _ (events : List UserEvent) (from : Machine) where
    -- these lines are still to come, and the lines of the records so far were printed
    pub record IsPlaying (old : SinkState) (m : Machine) (left : List UserEvent) (new : SinkState) : Type 0 where
      pub steps : ℕ
      pub records : List TraceItem
      pub is : played abc main steps (opening events from) ≡ record { config = record { machine = m; records = records }; left = left }
      pub printed : SinkChanges old new (new.write_faults ≡ old.write_faults) (new.taken ≡ old.taken ++ lines records)

    -- the machine makes some steps by itself
    played_on : (old mid : SinkState) (m : Machine) (left : List UserEvent) (p : IsPlaying old m left mid) (k : ℕ)
        → (n : ℕ) × (played abc main n (opening events from) ≡ record { config = behind p.records (run abc main k (first m)); left = left })
    played_on old mid m left p k =
        let lift = run_lifts abc main k (record { machine = m; records = p.records }) left in
        let both = played_then abc main p.steps lift.0 (opening events from) in (
          both.0,
          both.1 ∙ ap (played abc main lift.0) p.is ∙ lift.1 ∙ ap (λ l. here (run abc main k (record { machine = m; records = l }))) (sym (append-nil p.records))
              ∙ ap here (run-behind abc main p.records k (first m)),
        )
      where
        here : Config → Play
        here c = record { config = c; left = left }

    pub playing_runs : (m to : Machine) (left : List UserEvent) (old mid new : SinkState) → IsPlaying old m left mid → HasRun abc main m to mid new → IsPlaying old to left new
    playing_runs m to left old mid new p h =
        let made = (run abc main h.steps (first m)).records in
        let on = played_on old mid m left p h.steps in
        record {
          steps = on.0;
          records = p.records ++ made;
          is = on.1 ∙ ap (λ x. record { config = record { machine = x; records = p.records ++ made }; left = left }) (sym h.machine);
          printed = record {
            tells = h.printed.tells ∙ p.printed.tells;
            faults = h.printed.faults ∙ p.printed.faults;
            told = λ t.
                h.printed.told (p.printed.tells ∙ t) ∙ ap (λ l. l ++ lines made) (p.printed.told t) ∙ append_assoc old.taken (lines p.records) (lines made)
                ∙ ap (λ l. old.taken ++ l) (sym (flat_map-append record_line p.records made));
          };
        }

    -- an idle machine begins the next line
    pub playing_line : (m m1 : Machine) (event : UserEvent) (left : List UserEvent) (old new : SinkState) → IsPlaying old m (event ∷ left) new → m.outcome ≡ None → result_of m ≢ None
        → m1 ≡ begins event m → IsPlaying old m1 left new
    playing_line m m1 event left old new p none at_rest begun =
        let c : Config = record { machine = m; records = p.records } in
        let idles = rest_is_idle m none at_rest in
        let more = played_then abc main p.steps 1 (opening events from) in
        record {
          steps = more.0;
          records = p.records;
          is =
              more.1 ∙ ap (next abc main) p.is ∙ ap (λ o. goes_from abc main o (record { config = c; left = event ∷ left })) (ap₂ (λ o b. over_with o b (event ∷ left)) none idles)
              ∙ ap (λ b. goes_on abc main b (event ∷ left) c) idles ∙ ap (λ x. record { config = record { machine = x; records = p.records }; left = left }) (sym begun);
          printed = p.printed;
        }

    playing_over : (m : Machine) (left : List UserEvent) (outcome : Outcome) (old new : SinkState) → IsPlaying old m left new → over_with m.outcome (idle m) left ≡ Some outcome
        → HasShown abc main events from outcome old new
    playing_over m left outcome old new p ends = record {
      story = record { records = p.records; outcome = outcome };
      is = refl;
      comes = record { steps = p.steps; ends = ap over p.is ∙ ends; shows = ap (λ q. q.config.records) p.is };
      printed = p.printed;
    }

    -- the play is over before a line
    pub playing_stops : (m : Machine) (left : List UserEvent) (outcome : Outcome) (old new : SinkState) → IsPlaying old m left new → m.outcome ≡ Some outcome
        → HasShown abc main events from outcome old new
    playing_stops m left outcome old new p is = playing_over m left outcome old new p (ap (λ o. over_with o (idle m) left) is)

    -- the machine is at rest, and no line is to come
    pub playing_ends : (m : Machine) (left : List UserEvent) (old new : SinkState) → IsPlaying old m left new → left ≡ [] → result_of m ≢ None
        → HasShown abc main events from (unwrap_or m.outcome Ended) old new
    unfolding rests
    playing_ends m left old new p none at_rest =
        playing_over m left (unwrap_or m.outcome Ended) old new p (ap (over_with m.outcome (idle m)) none ∙ rest_is_over m.outcome (idle m) at_rest)

    -- a first part of the lines of a run is the end of a first part of the text of the whole play
    part_shown : (m : Machine) (left : List UserEvent) (old mid new : SinkState) (p : IsPlaying old m left mid) → (mid.taken ≡ old.taken ++ lines p.records) → HasRunPart abc main m mid new
        → (story : Story) → ComesTo abc main events from story → HasTaken (text story) old new
    part_shown m left old mid new p before h story comes =
        let made = (run abc main h.steps (first m)).records in
        let on = played_on old mid m left p h.steps in
        let more = end_follows comes.steps on.0 (opening events from) story.outcome comes.ends in
        let end = with_end (outcome_line story.outcome) in
        let all : story.records ≡ (p.records ++ made) ++ more.others = sym comes.shows ∙ more.is ∙ ap (λ q. q.config.records ++ more.others) on.1 in
        let spelled : lines story.records ≡ (lines p.records ++ lines made) ++ lines more.others =
        ap lines all ∙ flat_map-append record_line (p.records ++ made) more.others ∙ ap (λ l. l ++ lines more.others) (flat_map-append record_line p.records made) in
        record {
          part = lines p.records ++ h.taken.part;
          left = h.taken.left ++ (lines more.others ++ end);
          whole =
              ap (λ l. l ++ end) (spelled ∙ ap (λ l. (lines p.records ++ l) ++ lines more.others) h.taken.whole)
              ∙ regroup (lines p.records) h.taken.part h.taken.left (lines more.others) end;
          taken = h.taken.taken ∙ ap (λ l. l ++ h.taken.part) before ∙ append_assoc old.taken (lines p.records) h.taken.part;
        }
      where
        regroup : (a b x y z : List ℕ) → ((a ++ (b ++ x)) ++ y) ++ z ≡ (a ++ b) ++ (x ++ (y ++ z))
        regroup a b x y z = ap (λ l. (l ++ y) ++ z) (sym (append_assoc a b x)) ∙ ap (λ l. l ++ z) (append_assoc (a ++ b) x y) ∙ append_assoc (a ++ b) (x ++ y) z ∙ ap (λ l. (a ++ b) ++ l) (append_assoc x y z)

    -- a run was refused
    pub playing_refused : (m to : Machine) (left : List UserEvent) (old mid new : SinkState) (refusal : Refused) → IsPlaying old m left mid
        → Runs abc main m mid (Err refusal) to new → Shows abc main events from old (Err refusal) new
    playing_refused m to left old mid new refused.Failed p h = record {
      tells = h.tells ∙ p.printed.tells;
      faults = subst (λ n. Rose n new.write_faults) p.printed.faults h.faults;
      told = λ t. part_shown m left old mid new p (p.printed.told t) (h.told (p.printed.tells ∙ t));
    }
    playing_refused m to left old mid new refused.NoMemory p h = record {
      tells = h.tells ∙ p.printed.tells;
      faults = h.faults ∙ p.printed.faults;
      told = λ t. part_shown m left old mid new p (p.printed.told t) (h.told (p.printed.tells ∙ t));
    }

    -- memory was refused between two prints
    pub playing_starved : (m : Machine) (left : List UserEvent) (old new : SinkState) → IsPlaying old m left new → Shows abc main events from old (Err refused.NoMemory) new
    playing_starved m left old new p =
        playing_refused m m left old new new refused.NoMemory p
        (record {
          tells = refl;
          faults = refl;
          told = λ t. record { steps = 0; taken = record { part = []; left = []; whole = refl; taken = sym (append-nil new.taken) } };
        })

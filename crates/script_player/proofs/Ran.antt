-- Steps of the machine by itself that are printed.
use Rattle.std.proofs.Common.{◌≡◌, ℕ, zero, suc, List, [], ◌∷◌, ◌++◌, Option, None, Some, Ok, Err, refl, sym, ap, ◌∙◌, subst, append_assoc}
use Rattle.std.proofs.lemmas.Grind.{flat_map-append}
use Rattle.std.proofs.lemmas.List.{append-nil}
use Rattle.abc_format.specs.declared.records.Abc.{Abc}
use Rattle.flex_base.specs.declared.outcome.Outcome.{Outcome}
use Rattle.flex_base.specs.declared.record.TraceItem.{TraceItem}
use Rattle.flex_edge.specs.Outside.{Rose, SinkState}
use Rattle.avm2_machine.specs.declared.machine.Machine.{Machine}
use Rattle.flex_edge.specs.declared.refused.Refused.{Refused}
use Rattle.flex_edge.specs.declared.refused.Refused.TheVariants as refused
use Rattle.avm2_machine.specs.Machine.{step, result_of}
use Rattle.script_player.specs.Playing.{Config, and_item, moved_on, advance, advance_from, run, first}
use Rattle.script_player.specs.Printed.{item_lines, HasRun, HasRunPart, Runs}
use Rattle.flex_base.specs.Story.{record_line, lines}
use Rattle.flex_edge.specs.Whole.{HasTaken, Prints}

-- the lines after one more step
lines-and_item : (records : List TraceItem) (item : Option TraceItem) → lines (and_item records item) ≡ lines records ++ item_lines item
lines-and_item records None = sym (append-nil (lines records))
lines-and_item records (Some item) = flat_map-append record_line records (item ∷ []) ∙ ap (λ l. lines records ++ l) (append-nil (record_line item))

and_item-behind : (before records : List TraceItem) (item : Option TraceItem) → and_item (before ++ records) item ≡ before ++ and_item records item
and_item-behind before records None = refl
and_item-behind before records (Some item) = append_assoc before records (item ∷ [])

-- records that were made before
abbrev pub behind : List TraceItem → Config → Config
behind before c = record { machine = c.machine; records = before ++ c.records }

module _ (abc : Abc) (main : List ℕ) where
  -- what was recorded before plays no part
  advance-behind : (before : List TraceItem) (o : Option Outcome) (c : Config) → advance_from abc main o (behind before c) ≡ behind before (advance_from abc main o c)
  advance-behind before (Some o) c = refl
  advance-behind before None c =
      let moved = step abc main c.machine in ap (λ l. record { machine = moved.machine; records = l }) (and_item-behind before c.records moved.item)

  pub run-behind : (before : List TraceItem) (k : ℕ) (c : Config) → run abc main k (behind before c) ≡ behind before (run abc main k c)
  run-behind before zero c = refl
  run-behind before (suc k) c = ap (run abc main k) (advance-behind before (result_of c.machine) c) ∙ run-behind before k (advance abc main c)

  -- a step more, at the end
  run-more : (k : ℕ) (c : Config) → run abc main (suc k) c ≡ advance abc main (run abc main k c)
  run-more zero c = refl
  run-more (suc k) c = run-more k (advance abc main c)

  -- one step more, of a machine that hasn't come to rest
  stepped : (from m : Machine) (k : ℕ) → m ≡ (run abc main k (first from)).machine → result_of m ≡ None
      → run abc main (suc k) (first from) ≡ moved_on abc main (run abc main k (first from)).records (step abc main m)
  stepped from m k is still =
      let c = run abc main k (first from) in
      let o : result_of c.machine ≡ None = ap result_of (sym is) ∙ still in
      run-more k (first from) ∙ ap (λ x. advance_from abc main x c) o ∙ ap (λ x. moved_on abc main c.records (step abc main x)) (sym is)

  lines_then : (from m : Machine) (k : ℕ) → m ≡ (run abc main k (first from)).machine → result_of m ≡ None
      → lines (run abc main (suc k) (first from)).records ≡ lines (run abc main k (first from)).records ++ item_lines (step abc main m).item
  lines_then from m k is still = ap (λ c. lines c.records) (stepped from m k is still) ∙ lines-and_item (run abc main k (first from)).records (step abc main m).item

  pub run_goes_on : (from m m1 : Machine) (old mid new : SinkState) → HasRun abc main from m old mid → result_of m ≡ None → m1 ≡ (step abc main m).machine
      → Prints mid (item_lines (step abc main m).item) (Ok tt) new → HasRun abc main from m1 old new
  run_goes_on from m m1 old mid new h still moves prints = record {
    steps = suc h.steps;
    machine = moves ∙ ap (λ c. c.machine) (sym (stepped from m h.steps h.machine still));
    printed = record {
      tells = prints.tells ∙ h.printed.tells;
      faults = prints.faults ∙ h.printed.faults;
      told = λ t.
          let before = lines (run abc main h.steps (first from)).records in
          let now = item_lines (step abc main m).item in
          prints.told (h.printed.tells ∙ t) ∙ ap (λ l. l ++ now) (h.printed.told t) ∙ append_assoc old.taken before now
          ∙ ap (λ l. old.taken ++ l) (sym (lines_then from m h.steps h.machine still));
    };
  }

  -- a first part of the lines of a step is the end of a first part of all lines so far
  part_run : (from m : Machine) (old mid new : SinkState) (h : HasRun abc main from m old mid) → result_of m ≡ None
      → (mid.taken ≡ old.taken ++ lines (run abc main h.steps (first from)).records) → HasTaken (item_lines (step abc main m).item) mid new → HasRunPart abc main from old new
  part_run from m old mid new h still before taken =
      let so_far = lines (run abc main h.steps (first from)).records in
      record {
        steps = suc h.steps;
        taken = record {
          part = so_far ++ taken.part;
          left = taken.left;
          whole = lines_then from m h.steps h.machine still ∙ ap (λ l. so_far ++ l) taken.whole ∙ sym (append_assoc so_far taken.part taken.left);
          taken = taken.taken ∙ ap (λ l. l ++ taken.part) before ∙ append_assoc old.taken so_far taken.part;
        };
      }

  pub run_stops : (from m to : Machine) (old mid new : SinkState) (refusal : Refused) → HasRun abc main from m old mid → result_of m ≡ None
      → Prints mid (item_lines (step abc main m).item) (Err refusal) new → Runs abc main from old (Err refusal) to new
  run_stops from m to old mid new refused.Failed h still prints = record {
    tells = prints.tells ∙ h.printed.tells;
    faults = subst (λ n. Rose n new.write_faults) h.printed.faults prints.faults;
    told = λ t. part_run from m old mid new h still (h.printed.told t) (prints.told (h.printed.tells ∙ t));
  }
  run_stops from m to old mid new refused.NoMemory h still prints = record {
    tells = prints.tells ∙ h.printed.tells;
    faults = prints.faults ∙ h.printed.faults;
    told = λ t. part_run from m old mid new h still (h.printed.told t) (prints.told (h.printed.tells ∙ t));
  }

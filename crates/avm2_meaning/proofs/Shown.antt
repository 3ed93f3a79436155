-- Every play of verified code shows a story: line by line of the script, the machine comes to rest.
use Rattle.std.proofs.Common.{◌≡◌, refl, ap, ◌∙◌, ℕ, suc, List, [], ◌∷◌, Some}
use Rattle.flex_base.specs.Story.{Story}
use Rattle.flex_base.specs.declared.event.UserEvent.{UserEvent}
use Rattle.flex_base.specs.declared.record.TraceItem.{TraceItem}
use Rattle.avm2_program.specs.declared.file.Program.{Program}
use Rattle.avm2_program.specs.Resolving.{program}
use Rattle.avm2_meaning.specs.GoingOn.{EveryPlayEnds}
use Rattle.avm2_meaning.specs.Load.{start}
use Rattle.avm2_meaning.specs.Machine.{Machine, begin}
use Rattle.avm2_meaning.specs.Step.{step}
use Rattle.avm2_meaning.specs.Trace.{Playing, Progress, advance, after_step, continue, more, next_line, run, step_or_line, told, unless_over}
use Rattle.avm2_meaning.proofs.Branches.{BodiesLeadWell, verified_leads_well}
use Rattle.avm2_meaning.proofs.Ends.{Ends, GoesOn, IsOver, Rests, ends}

module _ (p : Program) (name : List ℕ) where
  -- what a play goes on to shows a story in some number of steps
  abbrev ShowsAfter : Progress → Type 0
  ShowsAfter x = (steps : ℕ) × (s : Story) × (continue p name (λ next. run p name steps next) x ≡ Some s)

  abbrev Shows : Playing → Type 0
  Shows play = (steps : ℕ) × (s : Story) × (run p name steps play ≡ Some s)

  abbrev playing : Machine → List TraceItem → List UserEvent → Playing
  playing m records events = record { machine = m; records = records; events = events }

  shows : (play : Playing) (x : Progress) → advance p name play ≡ x → ShowsAfter x → Shows play
  shows play x is h = (suc h.0, h.1, ap (λ y. continue p name (λ next. run p name h.0 next) y) is ∙ h.2)

  -- what is known of the lines behind the next one
  abbrev Later : List UserEvent → Type 0
  Later [] = Unit {0}
  Later (event ∷ events) = (m : Machine) (records : List TraceItem) → Shows (playing m records events)

  next_shows : (events : List UserEvent) → Later events → (m : Machine) (records : List TraceItem) → ShowsAfter (next_line events (playing m records events))
  next_shows [] later m records = (0, _, refl)
  next_shows (event ∷ events) later m records = later (begin event m) records

  from_shows : (events : List UserEvent) → Later events → (m : Machine) (records : List TraceItem) → Ends p name m → Shows (playing m records events)
  from_shows events later m records (IsOver m1 o h) =
      shows (playing m1 records events) (told o (playing m1 records events)) (ap (λ x. unless_over p name x (playing m1 records events)) h) (0, _, refl)
  from_shows events later m records (Rests m1 h i) =
      shows (playing m1 records events) (next_line events (playing m1 records events))
      (ap (λ x. unless_over p name x (playing m1 records events)) h ∙ ap (λ b. step_or_line p name b (playing m1 records events)) i)
      (next_shows events later m1 records)
  from_shows events later m records (GoesOn m1 h i e) =
      shows (playing m1 records events) (after_step (playing m1 records events) (step p name m1))
      (ap (λ x. unless_over p name x (playing m1 records events)) h ∙ ap (λ b. step_or_line p name b (playing m1 records events)) i)
      (from_shows events later (step p name m1).machine (more records (step p name m1).item) e)

  each_shows : BodiesLeadWell p → (events : List UserEvent) (m : Machine) (records : List TraceItem) → Shows (playing m records events)
  each_shows well [] m records = from_shows [] tt m records (ends p name well m)
  each_shows well (event ∷ events) m records = from_shows (event ∷ events) (λ m1 records1. each_shows well events m1 records1) m records (ends p name well m)

pub every_play_ends : EveryPlayEnds
every_play_ends abc name events turns v =
    let shown = each_shows (program abc) name (verified_leads_well abc v) events (start (program abc) turns) [] in
    (shown.1, record { steps = shown.0; is = shown.2 })

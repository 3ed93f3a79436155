-- What is seen of a file that is played.
use Rattle.std.specs.Prelude.{Bool, List, None, Option, Some, [], false, suc, true, zero, ℕ, ◌++◌, ◌∷◌, ◌≡◌}
use Rattle.abc_format.specs.declared.records.Abc.{Abc}
use Rattle.avm2_program.specs.declared.file.Program.{Program}
use Rattle.avm2_program.specs.Resolving.{program}
use Rattle.flex_base.specs.Story.{Story}
use Rattle.flex_base.specs.declared.event.UserEvent.{UserEvent}
use Rattle.flex_base.specs.declared.outcome.Outcome.{Outcome}
use Rattle.flex_base.specs.declared.outcome.Outcome.TheVariants.{Ended}
use Rattle.flex_base.specs.declared.record.TraceItem.{TraceItem}
use Rattle.avm2_meaning.specs.Load.{start}
use Rattle.avm2_meaning.specs.Machine.{Machine, Moved, begin, is_idle}
use Rattle.avm2_meaning.specs.Step.{step}

-- a play: the machine, the records so far, and the lines of the script that are still to come
pub record Playing : Type 0 where
  pub machine : Machine
  pub records : List TraceItem
  pub events : List UserEvent

pub data Progress : Type 0 where
  Over : (story : Story) → Progress
  Ongoing : (play : Playing) → Progress

abbrev pub told : Outcome → Playing → Progress
told o play = Over (record { records = play.records; outcome = o })

abbrev pub more : List TraceItem → Option TraceItem → List TraceItem
more records None = records
more records (Some item) = records ++ item ∷ []

-- the play goes on after a step
abbrev pub after_step : Playing → Moved → Progress
after_step play step = Ongoing (record play { machine = step.machine; records = more play.records step.item })

-- the next line of the script begins
abbrev pub next_line : List UserEvent → Playing → Progress
next_line [] play = told Ended play
next_line (event ∷ events) play = Ongoing (record play { machine = begin event play.machine; events = events })

module _ (p : Program) (name : List ℕ) where
  abbrev pub step_or_line : Bool → Playing → Progress
  step_or_line true play = next_line play.events play
  step_or_line false play = after_step play (step p name play.machine)

  abbrev pub unless_over : Option Outcome → Playing → Progress
  unless_over (Some o) play = told o play
  unless_over None play = step_or_line (is_idle play.machine) play

  -- a step, or at rest the next line of the script
  abbrev pub advance : Playing → Progress
  advance play = unless_over play.machine.outcome play

  abbrev pub continue : (Playing → Option Story) → Progress → Option Story
  continue k (Over s) = Some s
  continue k (Ongoing play) = k play

  -- what a play comes to in at most so many steps
  abbrev pub run : ℕ → Playing → Option Story
  run zero play = None
  run (suc fuel) play = continue (λ next. run fuel next) (advance play)

  abbrev pub first : List UserEvent → ℕ → Playing
  first events turns = record { machine = start p turns; records = []; events = events }

-- what is seen of a file whose main class has this name, under a script, with so many turns, in at most so many steps
abbrev pub bytes_trace : Abc → List ℕ → List UserEvent → ℕ → ℕ → Option Story
bytes_trace abc name events turns fuel = run (program abc) name fuel (first (program abc) name events turns)

-- this is seen of it
pub record HasTrace (abc : Abc) (name : List ℕ) (events : List UserEvent) (turns : ℕ) (story : Story) : Type 0 where
  pub steps : ℕ
  pub is : bytes_trace abc name events turns steps ≡ Some story

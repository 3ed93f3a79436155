-- What the bytes of a SWF file mean: the trace of their play.
use Rattle.std.specs.Prelude.{◌≡◌, ◌≢◌, ◌<◌, ℕ, zero, suc, List, [], ◌∷◌, ◌++◌, length, Bool, true, Option, Some, None}
use Rattle.abc_format.specs.declared.records.Abc.{Abc}
use Rattle.flex_base.specs.declared.outcome.MachineFault.{MachineFault}
use Rattle.flex_base.specs.declared.outcome.Outcome.{Outcome}
use Rattle.flex_base.specs.declared.outcome.Outcome.TheVariants.{Ended, Fault}
use Rattle.flex_base.specs.declared.record.TraceItem.{TraceItem}
use Rattle.avm2_machine.specs.declared.machine.Machine.{Machine}
use Rattle.flex_base.specs.declared.event.UserEvent.{UserEvent}
use Rattle.avm2_machine.specs.Machine.{Moved, start, begins, step, idle, result_of}
use Rattle.avm2_machine.specs.Progress.{remaining}
use Rattle.script_player.specs.Playable.{IsPlayable}
use Rattle.flex_base.specs.Story.{Story}

-- the machine between two steps, and the records so far
pub record Config : Type 0 where
  pub machine : Machine
  pub records : List TraceItem

-- the same, and the lines of the script to come
pub record Play : Type 0 where
  pub config : Config
  pub left : List UserEvent

abbrev pub and_item : List TraceItem → Option TraceItem → List TraceItem
and_item items None = items
and_item items (Some item) = items ++ item ∷ []

-- how a play ended, if it has: by itself where the machine is idle and no line is to come
abbrev pub over_with : Option Outcome → Bool → List UserEvent → Option Outcome
over_with (Some o) at_rest left = Some o
over_with None true [] = Some Ended
over_with None _ _ = None

abbrev pub over : Play → Option Outcome
over p = over_with p.config.machine.outcome (idle p.config.machine) p.left

module _ (abc : Abc) (main : List ℕ) where
  abbrev pub moved_on : List TraceItem → Moved → Config
  moved_on records m = record { machine = m.machine; records = and_item records m.item }

  -- one step of the machine by itself, unless it has come to rest
  abbrev pub advance_from : Option Outcome → Config → Config
  advance_from (Some o) c = c
  advance_from None c = moved_on c.records (step abc main c.machine)

  abbrev pub advance : Config → Config
  advance c = advance_from (result_of c.machine) c

  abbrev pub run : ℕ → Config → Config
  run zero c = c
  run (suc k) c = run k (advance c)

  -- an idle machine begins the next line; another makes a step
  abbrev pub goes_on : Bool → List UserEvent → Config → Play
  goes_on true (event ∷ left) c = record { config = record { machine = begins event c.machine; records = c.records }; left = left }
  goes_on _ left c = record { config = moved_on c.records (step abc main c.machine); left = left }

  abbrev pub goes_from : Option Outcome → Play → Play
  goes_from (Some o) p = p
  goes_from None p = goes_on (idle p.config.machine) p.left p.config

  -- what a play does next, unless it is over
  abbrev pub next : Play → Play
  next p = goes_from (over p) p

  abbrev pub played : ℕ → Play → Play
  played zero p = p
  played (suc k) p = played k (next p)

-- no record was made yet
abbrev pub first : Machine → Config
first m = record { machine = m; records = [] }

-- the play of a script from a machine on
abbrev pub opening : List UserEvent → Machine → Play
opening events m = record { config = first m; left = events }

-- the play of a program and a script from a machine on comes to an end with this story
pub record ComesTo (abc : Abc) (main : List ℕ) (events : List UserEvent) (from : Machine) (story : Story) : Type 0 where
  pub steps : ℕ
  pub ends : over (played abc main steps (opening events from)) ≡ Some story.outcome
  pub shows : (played abc main steps (opening events from)).config.records ≡ story.records

-- unless the machine rested, less remains
abbrev pub ComesNearer : Abc → Machine → Machine → Type 0
ComesNearer abc old new = result_of old ≡ None → remaining abc new < remaining abc old

-- the machine before the load of a program
abbrev pub boot : Abc → ℕ → Machine
boot abc turns = start (length abc.classes) turns

-- the play of the bytes with a script and so many turns has this trace
pub record HasTrace (bytes : List ℕ) (events : List UserEvent) (turns : ℕ) (story : Story) : Type 0 where
  pub file : IsPlayable bytes
  pub comes : ComesTo file.abc file.main events (boot file.abc turns) story

-- no play of the bytes meets a machine fault, however many steps it makes
pub record NeverFaults (bytes : List ℕ) (events : List UserEvent) (turns : ℕ) : Type 0 where
  pub sound : (file : IsPlayable bytes) (steps : ℕ) (fault : MachineFault)
      → over (played file.abc file.main steps (opening events (boot file.abc turns))) ≢ Some (Fault fault)

-- What a program means: what is seen of it under a script.
use Rattle.std.specs.Prelude.{List, None, Option, Some, [], suc, ℕ}
use Rattle.flex_base.specs.Story.{Story}
use Rattle.flex_base.specs.declared.event.UserEvent.{UserEvent}
use Rattle.flex_base.specs.declared.outcome.Outcome.{Outcome}
use Rattle.flex_base.specs.declared.outcome.Outcome.TheVariants.{Ended}
use Rattle.component_catalog.specs.Events.{creation_complete}
use Rattle.flex_world.specs.declared.kind.Class.TheVariants as Class
use Rattle.flex_program.specs.Program.{Program}
use Rattle.flex_meaning.specs.Activities.{Context}
use Rattle.flex_meaning.specs.Dispatch.{announce}
use Rattle.flex_meaning.specs.Making.{make}
use Rattle.flex_meaning.specs.Results.{Ends, Goes, Halts, Result, Stuck, bind, each}
use Rattle.flex_meaning.specs.Script.{play_event}
use Rattle.flex_meaning.specs.Tasks.{activities, context}
use Rattle.flex_meaning.specs.World.{World, empty_world}

-- the main object is made and told that it is complete, and then the script is played
abbrev pub play : Context → List UserEvent → World → Result (Unit {0})
play c events w =
    bind (make c (Class.File c.program.main) [] w) (λ main w1.
    bind (announce c creation_complete main w1) (λ _ w2.
    each (play_event c main) events w2))

abbrev pub story : World → Outcome → Story
story w outcome = record { records = w.records; outcome = outcome }

-- nothing is seen of a play in which something came up that the checks of a program exclude
abbrev pub told : Result (Unit {0}) → Option Story
told (Goes _ w) = Some (story w Ended)
told (Halts o w) = Some (story w o)
told (Ends w) = None
told (Stuck w) = None

-- what is seen of a program under a script, with so many turns
abbrev pub source_trace : Program → List UserEvent → ℕ → Option Story
source_trace p events turns = told (play (context p (suc turns) (activities p (suc turns))) events (empty_world turns))

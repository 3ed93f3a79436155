-- The runs of bindings.
use Rattle.std.specs.Prelude.{Bool, List, None, Option, Some, [], false, ℕ, ◌||◌, ◌∷◌}
use Rattle.avm2_program.specs.declared.file.Program.{Program}
use Rattle.flex_objects.specs.Entities.{EnabledBinding}
use Rattle.flex_world.specs.Objects.{Keeping, Watcher, is_number_among}
use Rattle.stage_objects.specs.Documents.{binding_numbered}
use Rattle.ui_runtime.specs.Documents.{closes as closes_binding, opens as opens_binding}
use Rattle.avm2_meaning.specs.Calls.{call_listener}
use Rattle.avm2_meaning.specs.Effects.{Acted, acted, closes, goes_on, opens}
use Rattle.avm2_meaning.specs.declared.effect.Effect.{Effect}
use Rattle.avm2_meaning.specs.declared.frame.Native.{Native}
use Rattle.avm2_meaning.specs.declared.frame.Native.TheVariants as Native
use Rattle.avm2_meaning.specs.declared.frame.Starting.{Starting}
use Rattle.avm2_meaning.specs.Heap.{on_stage}
use Rattle.avm2_meaning.specs.declared.heap.Heap.{Heap}
use Rattle.avm2_meaning.specs.Results.{Goes, Result, bind, choose, inside, on}

abbrev pub opened_run : Watcher → Heap → Heap
opened_run b h = on_stage (opens_binding b.document b.number) h

abbrev pub closed_run : Watcher → Heap → Heap
closed_run b h = on_stage (closes_binding b.document b.number) h

abbrev pub is_pair_open : Option ℕ → List ℕ → Bool
is_pair_open None numbers = false
is_pair_open (Some number) numbers = is_number_among number numbers

-- a binding, or its counterpart, is open
abbrev pub is_busy : Keeping → EnabledBinding → Bool
is_busy k b = is_number_among b.number k.open_bindings || is_pair_open b.pair k.open_bindings

-- bindings that are to start, one after another
abbrev pub starting : Option Watcher → List Watcher → Native
starting running bindings = Native.Starts (record { running = running; bindings = bindings })

-- the run of one binding
abbrev pub start_alone : Watcher → Heap → Result Effect
start_alone b h = opens (starting None (b ∷ [])) h

module _ (p : Program) where
  -- it is open from now on, and runs
  abbrev pub run_one : Watcher → List Watcher → EnabledBinding → Heap → Result (Acted Native)
  run_one w ws b h = bind (call_listener p b.method [] h) (λ called h1. Goes (acted called (starting (Some w) ws)) (opened_run w h1))

  -- one that isn't enabled or is busy is passed over
  abbrev pub run_if_free : Watcher → List Watcher → Keeping → Option EnabledBinding → Heap → Result (Acted Native)
  run_if_free w ws k None h = goes_on (starting None ws) h
  run_if_free w ws k (Some b) h = choose (is_busy k b) (goes_on (starting None ws)) (run_one w ws b) h

  -- the next binding runs
  abbrev pub start_next : List Watcher → Heap → Result (Acted Native)
  start_next [] h = closes (starting None []) h
  start_next (w ∷ ws) h =
      on w.document h (λ d. inside w.document h (λ i. run_if_free w ws d.keeping (binding_numbered w.number i.bindings) h))

  -- the next move of a list of bindings: the one that ran is closed first
  abbrev pub start_with : Option Watcher → List Watcher → Heap → Result (Acted Native)
  start_with None bindings h = start_next bindings h
  start_with (Some w) bindings h = goes_on (starting None bindings) (closed_run w h)

  abbrev pub start_on : Starting → Heap → Result (Acted Native)
  start_on b h = start_with b.running b.bindings h

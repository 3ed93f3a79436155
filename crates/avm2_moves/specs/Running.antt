-- Which method runs a binding, and what its run comes to.
use Rattle.std.specs.Prelude.{List, None, Option, Some, [], if◌then◌else◌}
use Rattle.avm2_meaning.specs.Bindings.{is_busy, opened_run, starting}
use Rattle.avm2_meaning.specs.Calls.{call_listener}
use Rattle.avm2_meaning.specs.Effects.{Acted, acted, goes_on}
use Rattle.avm2_meaning.specs.Results.{Goes, Result, bind, inside, on}
use Rattle.avm2_meaning.specs.declared.frame.Native.{Native}
use Rattle.avm2_meaning.specs.declared.heap.Heap.{Heap}
use Rattle.avm2_program.specs.declared.file.Program.{Program}
use Rattle.flex_objects.specs.Entities.{EnabledBinding}
use Rattle.flex_world.specs.Objects.{Keeping, Listener, Watcher}
use Rattle.stage_objects.specs.Documents.{binding_numbered}

-- that of a binding which is enabled and isn't busy
abbrev pub free_method : Keeping → Option EnabledBinding → Option Listener
free_method k None = None
free_method k (Some b) = if is_busy k b then None else Some b.method

abbrev pub next_method : Watcher → Heap → Result (Option Listener)
next_method w h = on w.document h (λ d. inside w.document h (λ i. Goes (free_method d.keeping (binding_numbered w.number i.bindings)) h))

-- the binding runs, or is passed over where no method is to run it
abbrev pub run_with : Program → Watcher → List Watcher → Option Listener → Heap → Result (Acted Native)
run_with p w ws None h = goes_on (starting None ws) h
run_with p w ws (Some l) h = bind (call_listener p l [] h) (λ called h1. Goes (acted called (starting (Some w) ws)) (opened_run w h1))

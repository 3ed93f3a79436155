-- The children of containers.
use Rattle.std.specs.Prelude.{List, None, Option, Some, [], if◌then◌else◌, ◌∷◌}
use Rattle.component_catalog.specs.Events.{creation_complete}
use Rattle.flex_base.specs.declared.record.TraceItem.{TraceItem}
use Rattle.flex_base.specs.declared.record.TraceItem.TheVariants as trace
use Rattle.flex_base.specs.declared.value.ObjId.{ObjId}
use Rattle.flex_world.specs.Objects.{Spot}
use Rattle.ui_runtime.specs.Tree.{child, places, taken_out}
use Rattle.ui_runtime.specs.declared.children.Placed.{Placed}
use Rattle.avm2_meaning.specs.Effects.{Acted, acted, closes, effect, opens, recorded}
use Rattle.avm2_meaning.specs.declared.effect.Effect.{Effect}
use Rattle.avm2_meaning.specs.declared.effect.Next.{Next}
use Rattle.avm2_meaning.specs.declared.effect.Next.TheVariants as Next
use Rattle.avm2_meaning.specs.declared.frame.Adding.{Adding}
use Rattle.avm2_meaning.specs.declared.frame.Native.{Native}
use Rattle.avm2_meaning.specs.declared.frame.Native.TheVariants as Native
use Rattle.avm2_meaning.specs.Heap.{on_stage}
use Rattle.avm2_meaning.specs.declared.heap.Heap.{Heap}
use Rattle.avm2_meaning.specs.Results.{Goes, Result, bind, on, staged}

abbrev pub added_item : Adding → TraceItem
added_item a = trace.Added a.container a.child a.place

-- the first time that a component is added it is complete
abbrev pub tell_added : Adding → Acted Native
tell_added a =
    if a.first then acted (recorded (added_item a)) (Native.Announces creation_complete a.child)
    else acted (effect (Next.Close None) (Some (added_item a))) (Native.Adds a)

-- the next move of an adding: that the child left its parent is told, and then that it joined the container
abbrev pub tell_from : Adding → Option ObjId → Acted Native
tell_from a None = tell_added a
tell_from a (Some parent) = acted (recorded (trace.Removed parent a.child)) (Native.Adds (record a { from = None }))

abbrev pub add_on : Adding → Heap → Result (Acted Native)
add_on a h = Goes (tell_from a a.from) h

abbrev pub adding : ObjId → ObjId → Placed → Native
adding container child placed =
    Native.Adds (record { from = placed.from; container = container; child = child; place = placed.place; first = placed.first })

-- a component is added, but not to itself or to what it holds
abbrev pub add : ObjId → ObjId → Option Spot → Heap → Result Effect
add container child spot h =
    on child h (λ _. on container h (λ _. bind (staged h (places container child spot h.stage)) (λ placed h1. opens (adding container child placed) h1)))

-- takes a child from its parent
abbrev pub take_out : ObjId → ObjId → Heap → Result Effect
take_out child parent h = Goes (recorded (trace.Removed parent child)) (on_stage (taken_out child) h)

-- takes the next child from a container
abbrev pub empty_on : ObjId → List ObjId → Heap → Result (Acted Native)
empty_on container [] h = closes (Native.Empties container []) h
empty_on container (child ∷ children) h =
    Goes (acted (recorded (trace.Removed container child)) (Native.Empties container children)) (on_stage (taken_out child) h)

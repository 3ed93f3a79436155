-- What a move of a frame comes to.
use Rattle.std.specs.Prelude.{Bool, List, None, Option, Some, false, true, ℕ, ◌∷◌}
use Rattle.flex_base.specs.declared.record.TraceItem.{TraceItem}
use Rattle.avm2_meaning.specs.declared.frame.Native.{Native}
use Rattle.avm2_meaning.specs.declared.frame.Native.TheVariants as Native
use Rattle.avm2_meaning.specs.declared.effect.Effect.{Effect}
use Rattle.avm2_meaning.specs.declared.effect.Next.{Next}
use Rattle.avm2_meaning.specs.declared.effect.Next.TheVariants as Next
use Rattle.avm2_meaning.specs.declared.work.Work.{Work}
use Rattle.avm2_meaning.specs.declared.heap.Heap.{Heap}
use Rattle.avm2_meaning.specs.declared.operand.Operand.{Operand}
use Rattle.avm2_meaning.specs.Results.{Goes, Result}

-- what a move comes to, and the work as it is then
pub record Acted (W : Type 0) : Type 0 where
  pub effect : Effect
  pub work : W

abbrev pub effect : Next → Option TraceItem → Effect
effect next item = record { next = next; item = item }

abbrev pub silent : Next → Effect
silent next = effect next None

abbrev pub recorded : TraceItem → Effect
recorded item = effect Next.On (Some item)

-- nothing more is to be done
abbrev pub nothing : Heap → Result Effect
nothing h = Goes (silent Next.On) h

abbrev pub opens : Native → Heap → Result Effect
opens n h = Goes (silent (Next.Opens n)) h

abbrev pub acted : {W : Type 0} → Effect → W → Acted W
acted e w = record { effect = e; work = w }

-- the work goes on
abbrev pub goes_on : {W : Type 0} → W → Heap → Result (Acted W)
goes_on w h = Goes (acted (silent Next.On) w) h

-- the work is over
abbrev pub closes : {W : Type 0} → W → Heap → Result (Acted W)
closes w h = Goes (acted (silent (Next.Close None)) w) h

-- the work that is opened takes the place of this; where none is, this is over
abbrev pub in_place_by : Native → Option TraceItem → Next → Acted Native
in_place_by n item (Next.Opens other) = acted (effect Next.On item) other
in_place_by n item next = acted (effect (Next.Close None) item) n

abbrev pub in_place : Native → Effect → Acted Native
in_place n e = in_place_by n e.item e.next

abbrev pub with_top : Operand → Work → Work
with_top v w = record w { stack = v ∷ w.stack }

abbrev pub pushes : Operand → Work → Heap → Result (Acted Work)
pushes v w h = goes_on (with_top v w) h

-- the result of a native call is on the stack, where it is kept
abbrev pub answered : Bool → Operand → Work → Work
answered true v w = with_top v w
answered false v w = w

-- What an effect makes of the machine: nothing else touches frames, level, turns and initialisers.
use Rattle.std.specs.Prelude.{Bool, List, None, Option, Some, [], false, if◌then◌else◌, length, nat_lt, replicate, suc, true, ℕ, ◌++◌, ◌-◌, ◌∷◌}
use Rattle.avm2_program.specs.declared.method.Body.{Body}
use Rattle.avm2_program.specs.declared.file.Program.{Program}
use Rattle.flex_base.specs.declared.outcome.MachineFault.TheVariants as fault
use Rattle.flex_base.specs.declared.outcome.Outcome.{Outcome}
use Rattle.flex_base.specs.declared.outcome.Outcome.TheVariants.{Fault, Stopped}
use Rattle.flex_base.specs.declared.outcome.Stop.TheVariants as stop
use Rattle.flex_base.specs.declared.record.TraceItem.{TraceItem}
use Rattle.flex_world.specs.Objects.{is_number_among, without_number}
use Rattle.avm2_meaning.specs.Classes.{body_of}
use Rattle.avm2_meaning.specs.Effects.{Acted, with_top}
use Rattle.avm2_meaning.specs.declared.effect.Call.{Call}
use Rattle.avm2_meaning.specs.declared.effect.Effect.{Effect}
use Rattle.avm2_meaning.specs.declared.effect.Next.{Next}
use Rattle.avm2_meaning.specs.declared.effect.Next.TheVariants as Next
use Rattle.avm2_meaning.specs.Frames.{keeps}
use Rattle.avm2_meaning.specs.declared.frame.CodeFrame.{CodeFrame}
use Rattle.avm2_meaning.specs.declared.frame.Frame.{Frame}
use Rattle.avm2_meaning.specs.declared.frame.Frame.TheVariants as Frame
use Rattle.avm2_meaning.specs.declared.heap.Heap.{Heap}
use Rattle.avm2_meaning.specs.Machine.{Machine, Moved, above, moved, over_with, take_turn, unseen}
use Rattle.avm2_meaning.specs.Operands.{undefined}
use Rattle.avm2_meaning.specs.declared.operand.Operand.{Operand}
use Rattle.avm2_meaning.specs.Results.{Goes, Halts, Result}

-- the receiver and the arguments come first
abbrev pub first_locals : Call → Body → List Operand
first_locals c body = c.receiver ∷ c.arguments ++ replicate (body.locals - 1 - length c.arguments) undefined

abbrev pub frame_of : Bool → Call → Body → CodeFrame
frame_of is_activity c body = record {
  place = 0;
  work = record { method = c.method; stack = []; scopes = []; locals = first_locals c body };
  is_activity = is_activity;
  keeps = c.keeps;
}

abbrev pub open_body : Bool → Call → Option Body → Machine → Machine
open_body is_activity c None m = over_with (Fault fault.NotHere) m
open_body is_activity c (Some body) m = above (Frame.Code (frame_of is_activity c body)) m

-- an activity gives its level back
abbrev pub leave_code : Bool → Machine → Machine
leave_code true m = record m { level = m.level - 1 }
leave_code false m = m

abbrev pub leave : Frame → Machine → Machine
leave (Frame.Code f) m = leave_code f.is_activity m
leave (Frame.Does n) m = m

-- the code on top gets a value
abbrev pub give : Option Operand → List Frame → Machine → Machine
give None frames m = m
give (Some v) (Frame.Code f ∷ frames) m = record m { frames = Frame.Code (record f { work = with_top v f.work }) ∷ frames }
give (Some v) frames m = over_with (Fault fault.NotHere) m

-- a result goes to the frame below, where that keeps it
abbrev pub give_if : Bool → Option Operand → Machine → Machine
give_if true result m = give result m.frames m
give_if false result m = m

abbrev pub with_heap : Heap → Machine → Machine
with_heap h m = record m { heap = h }

-- a listener that doesn't start makes no record
abbrev pub made_by : Next → Option TraceItem → Option Outcome → Option TraceItem
made_by (Next.Hears c) item (Some o) = None
made_by next item outcome = item

-- a move, which led to this machine, and its record
abbrev pub settled : Effect → Machine → Moved
settled e m = moved (made_by e.next e.item m.outcome) m

module _ (p : Program) where
  abbrev pub open_call : Bool → Call → Machine → Machine
  open_call is_activity c m = open_body is_activity c (body_of p c.method) m

  -- an activity takes a level, of which there are 256, and then a turn
  abbrev pub enter : Call → Machine → Machine
  enter c m =
      if nat_lt m.level 256 then take_turn (λ m1. open_call true c (record m1 { level = suc m1.level })) m else over_with (Stopped stop.Depth) m

  -- the initialiser of a class runs once
  abbrev pub initialise : ℕ → Call → Machine → Machine
  initialise k c m =
      if is_number_among k m.uninitialised then open_call false c (record m { uninitialised = without_number k m.uninitialised })
      else over_with (Fault fault.NotHere) m

  -- what is to be done above the frame that moved
  abbrev pub proceed : Next → Machine → Machine
  proceed (Next.Calls c) m = enter c m
  proceed (Next.Hears c) m = enter c m
  proceed (Next.Initialises k c) m = initialise k c m
  proceed (Next.Opens n) m = above (Frame.Does n) m
  proceed _ m = m

  -- the frame that moved was taken off: what becomes of it
  abbrev pub apply : Frame → Next → Machine → Machine
  apply f (Next.Close result) m = give_if (keeps f) result (leave f m)
  apply f Next.Turn m = take_turn (above f) m
  apply f next m = proceed next (above f m)

  -- the move of a frame: the frame is put back, closed or covered
  abbrev pub land : Result (Acted Frame) → Machine → Moved
  land (Goes a h) m = settled a.effect (apply a.work a.effect.next (with_heap h m))
  land (Halts o) m = unseen (over_with o m)

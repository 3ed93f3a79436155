-- The machine between two steps.
use Rattle.std.specs.Prelude.{Bool, List, None, Option, Some, [], false, suc, true, zero, ℕ, ◌∷◌}
use Rattle.flex_base.specs.declared.event.UserEvent.{UserEvent}
use Rattle.flex_base.specs.declared.outcome.Outcome.{Outcome}
use Rattle.flex_base.specs.declared.outcome.Outcome.TheVariants.{TurnsSpent}
use Rattle.flex_base.specs.declared.record.TraceItem.{TraceItem}
use Rattle.flex_base.specs.declared.value.ObjId.{ObjId}
use Rattle.avm2_meaning.specs.declared.frame.Frame.{Frame}
use Rattle.avm2_meaning.specs.declared.frame.Frame.TheVariants as Frame
use Rattle.avm2_meaning.specs.declared.frame.Native.{Native}
use Rattle.avm2_meaning.specs.declared.frame.Native.TheVariants as Native
use Rattle.avm2_meaning.specs.declared.heap.Heap.{Heap}

-- what of the load isn't done yet
pub data Load : Type 0 where
  -- the script initialisers from a number on, and all that follows
  Scripts : (next : ℕ) → Load
  MakesMain : Load
  CompletesMain : Load
  Loaded : Load

pub record Machine : Type 0 where
  -- the open frames, the top first
  pub frames : List Frame
  pub heap : Heap
  -- how many activities are open
  pub level : ℕ
  -- how many turns are left
  pub turns : ℕ
  -- the classes whose initialisers weren't run
  pub uninitialised : List ℕ
  pub load : Load
  -- the main object
  pub main : Option ObjId
  -- how the play ended, if it did
  pub outcome : Option Outcome

abbrev pub over_with : Outcome → Machine → Machine
over_with o m = record m { frames = []; outcome = Some o }

-- the machine after a step, and the record that the step made, if any
pub record Moved : Type 0 where
  pub machine : Machine
  pub item : Option TraceItem

abbrev pub moved : Option TraceItem → Machine → Moved
moved item m = record { machine = m; item = item }

abbrev pub unseen : Machine → Moved
unseen m = moved None m

-- a frame above the others
abbrev pub above : Frame → Machine → Machine
above f m = record m { frames = f ∷ m.frames }

-- goes on with one turn less
abbrev pub spend : ℕ → (Machine → Machine) → Machine → Machine
spend zero k m = over_with TurnsSpent m
spend (suc turns) k m = k (record m { turns = turns })

abbrev pub take_turn : (Machine → Machine) → Machine → Machine
take_turn k m = spend m.turns k m

abbrev pub is_idle_with : List Frame → Load → Bool
is_idle_with [] Loaded = true
is_idle_with _ _ = false

-- no frame is open, and nothing of the load remains
abbrev pub is_idle : Machine → Bool
is_idle m = is_idle_with m.frames m.load

-- a line of the script begins
abbrev pub begin : UserEvent → Machine → Machine
begin event m = above (Frame.Does (Native.Begins event)) m

-- What remains of a play: a number that each step lowers.
use Rattle.std.specs.Prelude.{ℕ, zero, suc, ◌+◌, ◌-◌, List, [], ◌∷◌, length, Bool, true, false, Option, Some, None, slice_get}
use Rattle.abc_format.specs.declared.records.Abc.{Abc}
use Rattle.abc_format.specs.declared.records.MethodBody.{MethodBody}
use Rattle.flex_base.specs.declared.outcome.Outcome.{Outcome}
use Rattle.avm2_machine.specs.declared.frame.CodeFrame.{CodeFrame}
use Rattle.avm2_machine.specs.declared.frame.Frame.{Frame}
use Rattle.avm2_machine.specs.declared.frame.Frame.TheVariants as frame
use Rattle.avm2_machine.specs.declared.machine.Load.{Load}
use Rattle.avm2_machine.specs.declared.machine.Load.TheVariants as load
use Rattle.avm2_machine.specs.declared.machine.Machine.{Machine}

-- the bytes of all bodies
abbrev pub total_code : List MethodBody → ℕ
total_code [] = 0
total_code (body ∷ bodies) = length body.code + total_code bodies

-- more than any one body takes
abbrev pub longest : Abc → ℕ
longest abc = suc (suc (total_code abc.method_bodies))

abbrev pub times : ℕ → ℕ → ℕ
times zero k = 0
times (suc n) k = k + times n k

abbrev pub unmade : List Bool → ℕ
unmade [] = 0
unmade (true ∷ made) = unmade made
unmade (false ∷ made) = suc (unmade made)

abbrev pub code_length : Option MethodBody → ℕ
code_length None = 0
code_length (Some body) = length body.code

-- the bytes of code from a frame's place to the end of its body, and its end
abbrev pub frame_left : Abc → CodeFrame → ℕ
frame_left abc f = suc (code_length (slice_get abc.method_bodies f.body) - f.pc)

-- what remains of a frame: of a dispatch the nodes to come, since each listener takes a turn
abbrev pub left_of : Abc → Frame → ℕ
left_of abc (frame.Code f) = frame_left abc f
left_of abc (frame.User line) = 1
left_of abc (frame.Miss path) = 1
left_of abc frame.UnknownState = 1
left_of abc (frame.Sending c) = suc (suc (length c.nodes))
left_of abc (frame.Dispatch d) = suc (length d.nodes)

abbrev pub frames_left : Abc → List Frame → ℕ
frames_left abc [] = 0
frames_left abc (f ∷ frames) = left_of abc f + frames_left abc frames

abbrev pub load_left : Abc → Load → ℕ
load_left abc (load.Scripts n) = suc (suc (times (length abc.scripts - n) (longest abc)))
load_left abc load.Main = 1
load_left abc load.Done = 0

abbrev pub work_left : Abc → Machine → ℕ
work_left abc m =
    frames_left abc m.frames + (load_left abc m.load + (times (unmade m.made) (longest abc) + times m.turns (longest abc)))

abbrev pub left_with : Option Outcome → ℕ → ℕ
left_with (Some o) n = 0
left_with None n = suc n

-- what remains, which is nothing once the play is over
abbrev pub remaining : Abc → Machine → ℕ
remaining abc m = left_with m.outcome (work_left abc m)

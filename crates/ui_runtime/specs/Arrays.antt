-- The elements of arrays.
use Rattle.std.specs.Prelude.{Err, Ok, Option, Result, if◌then◌else◌, length, nat_lt, negsuc, pos, ℕ, ℤ, ◌==◌}
use Rattle.flex_base.specs.Value.{and_then}
use Rattle.flex_base.specs.declared.outcome.Stop.{Stop}
use Rattle.flex_base.specs.declared.outcome.Stop.TheVariants as stop
use Rattle.flex_base.specs.declared.value.ObjId.{ObjId}
use Rattle.flex_base.specs.declared.value.Value.{Value}
use Rattle.flex_world.specs.Arrays.{last_or_undefined, most_elements, with_element, with_last, without_last}
use Rattle.flex_objects.specs.Entities.{element_at}
use Rattle.ui_runtime.specs.Making.{pays}
use Rattle.ui_runtime.specs.Stage.{Stage, change, elements_at}

abbrev pub array_length : ObjId → Stage → ℤ
array_length a s = pos (length (elements_at a s))

abbrev pub element : ObjId → ℤ → Stage → Option Value
element a index s = element_at (elements_at a s) index

-- an array has room for 65,536 elements, each of which costs a cell
abbrev pub has_room : ObjId → Stage → Result Stage Stop
has_room a s = if nat_lt (length (elements_at a s)) most_elements then pays 1 s else Err stop.ArrayLength

abbrev pub appends : ObjId → Value → Stage → Result Stage Stop
appends a v s = and_then (has_room a s) (λ s1. Ok (change a (with_last v) s1))

-- gives the new length
abbrev pub pushes : ObjId → Value → Stage → Result (ℤ × Stage) Stop
pushes a v s = and_then (appends a v s) (λ s1. Ok (array_length a s1, s1))

-- Undefined where there is no element
abbrev pub popped : ObjId → Stage → Value
popped a s = last_or_undefined (elements_at a s)

abbrev pub without_popped : ObjId → Stage → Stage
without_popped a s = change a without_last s

-- at the length it appends
abbrev pub writes_at : ObjId → ℕ → Value → Stage → Result Stage Stop
writes_at a n v s =
    if nat_lt n (length (elements_at a s)) then Ok (change a (with_element n v) s)
    else if n == length (elements_at a s) then appends a v s
    else Err stop.ArrayIndex

abbrev pub writes_element : ObjId → ℤ → Value → Stage → Result Stage Stop
writes_element a (pos n) v s = writes_at a n v s
writes_element a (negsuc n) v s = Err stop.ArrayIndex

-- The elements of arrays.
use Rattle.std.specs.Prelude.{length, nat_lt, negsuc, pos, ℕ, ◌==◌}
use Rattle.flex_base.specs.declared.outcome.Stop.TheVariants as stop
use Rattle.flex_base.specs.declared.value.ObjId.{ObjId}
use Rattle.flex_base.specs.declared.value.Value.{Value}
use Rattle.flex_base.specs.declared.value.Value.TheVariants as value
use Rattle.flex_world.specs.Arrays.{element_or_undefined, last_or_undefined, most_elements, with_element, with_last, without_last}
use Rattle.flex_world.specs.Objects.{Object, count, is_array}
use Rattle.flex_meaning.specs.Results.{Goes, Result, Stuck, bind, choose, done, guarded, on, stops}
use Rattle.flex_meaning.specs.Turns.{pay}
use Rattle.flex_meaning.specs.World.{World, change_object}

-- with the array of a number
abbrev pub on_array : {A : Type 0} → ObjId → World → (Object → World → Result A) → Result A
on_array a w f = on a w (λ c. guarded (is_array c) (f c) w)

-- an array has room for so many elements, each of which costs a cell
abbrev pub room : Object → World → Result (Unit {0})
room array w = choose (nat_lt (length array.elements) most_elements) (pay 1) (stops stop.ArrayLength) w

abbrev pub append : ObjId → Value → World → Result (Unit {0})
append a v w = on_array a w (λ array w1. bind (room array w1) (λ _ w2. done (change_object a (with_last v) w2)))

abbrev pub array_length : ObjId → World → Result Value
array_length a w = on_array a w (λ array w1. Goes (count (length array.elements)) w1)

-- gives the new length
abbrev pub push : ObjId → Value → World → Result Value
push a v w = bind (append a v w) (λ _ w1. array_length a w1)

-- takes the last element
abbrev pub pop : ObjId → World → Result Value
pop a w = on_array a w (λ array w1. Goes (last_or_undefined array.elements) (change_object a without_last w1))

abbrev pub read_element : ObjId → Value → World → Result Value
read_element a (value.Int n) w = on_array a w (λ array w1. Goes (element_or_undefined array.elements n) w1)
read_element a _ w = Stuck w

-- at the length it appends
abbrev pub write_at : ObjId → ℕ → Value → Object → World → Result (Unit {0})
write_at a n v array w =
    choose (nat_lt n (length array.elements)) (λ w1. done (change_object a (with_element n v) w1))
    (choose (n == length array.elements) (append a v) (stops stop.ArrayIndex)) w

abbrev pub write_element : ObjId → Value → Value → World → Result (Unit {0})
write_element a (value.Int (pos n)) v w = on_array a w (write_at a n v)
write_element a (value.Int (negsuc n)) v w = on_array a w (λ _ w1. stops stop.ArrayIndex w1)
write_element a _ v w = Stuck w

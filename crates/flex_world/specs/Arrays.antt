-- The elements of arrays.
use Rattle.std.specs.Prelude.{List, [], length, negsuc, pos, slice_get, take, unwrap_or, ℕ, ℤ, ◌++◌, ◌-ℤ◌, ◌-◌, ◌∷◌}
use Rattle.flex_base.specs.Lists.{changed_at}
use Rattle.flex_base.specs.declared.value.Value.{Value}
use Rattle.flex_base.specs.declared.value.Value.TheVariants as value
use Rattle.flex_world.specs.Objects.{Object}

-- an array has room for so many elements
abbrev pub most_elements : ℕ
most_elements = 65536

-- out of range it is Undefined
abbrev pub element_or_undefined : List Value → ℤ → Value
element_or_undefined elements (pos n) = unwrap_or (slice_get elements n) value.Undefined
element_or_undefined elements (negsuc n) = value.Undefined

abbrev pub last_or_undefined : List Value → Value
last_or_undefined elements = element_or_undefined elements (pos (length elements) -ℤ pos 1)

abbrev pub with_last : Value → Object → Object
with_last v c = record c { elements = c.elements ++ v ∷ [] }

abbrev pub without_last : Object → Object
without_last c = record c { elements = take (length c.elements - 1) c.elements }

abbrev pub with_element : ℕ → Value → Object → Object
with_element n v c = record c { elements = changed_at (λ _. v) c.elements n }

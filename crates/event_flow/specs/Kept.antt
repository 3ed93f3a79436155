-- How the code keeps what remains of a dispatch.
use Rattle.std.specs.Prelude.{Bool, List, None, Option, Some, [], drop, if◌then◌else◌, map, reverse, suc, take, zero, ℕ, ◌++◌, ◌∷◌}
use Rattle.flex_base.specs.Events.{arrival}
use Rattle.flex_base.specs.declared.event.Arrival.{Arrival}
use Rattle.flex_base.specs.declared.event.Phase.TheVariants.{Bubble, Capture, Target}
use Rattle.flex_base.specs.declared.value.ObjId.{ObjId}

-- the arrivals at so many objects of a path, which end at the target
abbrev pub arrivals_inward : List ObjId → ℕ → List Arrival
arrivals_inward [] n = []
arrivals_inward (target ∷ outer) zero = []
arrivals_inward (target ∷ outer) (suc n) = reverse (map (arrival Capture) (take n outer)) ++ arrival Target target ∷ []

-- and those at the objects of the path from a place on, where the event bubbles
abbrev pub arrivals_left : List ObjId → Bool → ℕ → ℕ → List Arrival
arrivals_left path bubbles inward outward = arrivals_inward path inward ++ (if bubbles then map (arrival Bubble) (drop outward path) else [])

-- of a list that may not be there, the items from a place on
abbrev pub items_from : {A : Type 0} → ℕ → Option (List A) → List A
items_from n None = []
items_from n (Some items) = drop n items

-- What a user does, the path of an event, and the listeners that hear it.
use Rattle.std.specs.Prelude.{ℕ, zero, suc, List, [], ◌∷◌, ◌++◌, map, reverse, Option, Some, None, codes}
use Rattle.std.specs.List.{filter, join_with_byte}
use Rattle.std.specs.Str.{bytes_eq}
use Rattle.flex_base.specs.declared.event.Arrival.{Arrival}
use Rattle.flex_base.specs.declared.event.Phase.{Phase}
use Rattle.flex_base.specs.declared.event.Phase.TheVariants.{Capture, Target, Bubble}
use Rattle.flex_base.specs.declared.value.ObjId.{ObjId}

-- the names of a path, joined by dots
abbrev pub path_text : List (List ℕ) → List ℕ
path_text names = join_with_byte 46 names

-- an object, its parent, that one's parent, and so on; at most so many
abbrev pub outward : (ObjId → Option ObjId) → ℕ → Option ObjId → List ObjId
outward parent zero o = []
outward parent (suc n) None = []
outward parent (suc n) (Some o) = o ∷ outward parent n (parent o)

-- an object's ancestors, the nearest first, by this table of parents; at most so many
abbrev pub ancestors : (ObjId → Option ObjId) → ℕ → ObjId → List ObjId
ancestors parent n o = outward parent n (parent o)

abbrev pub arrival : Phase → ObjId → Arrival
arrival phase node = record { node = node; phase = phase }

-- where a bubbling event arrives, one after another: from the outermost ancestor to the parent, at the target, and outward again
abbrev pub arrivals : ObjId → List ObjId → List Arrival
arrivals target outer = reverse (map (arrival Capture) outer) ++ (arrival Target target ∷ map (arrival Bubble) outer)

-- the number of a phase
abbrev pub phase_number : Phase → ℕ
phase_number Capture = 1
phase_number Target = 2
phase_number Bubble = 3

-- the listeners of a node that hear an event of this type in a phase, in order of registration: none is registered for the first phase
abbrev pub hearing : {A : Type 0} → (A → List ℕ) → List ℕ → Phase → List A → List A
hearing kind_of kind Capture listeners = []
hearing kind_of kind Target listeners = filter (λ l. bytes_eq (kind_of l) kind) listeners
hearing kind_of kind Bubble listeners = filter (λ l. bytes_eq (kind_of l) kind) listeners

-- the type of the event of a mouse click
abbrev pub click : List ℕ
click = codes "click"

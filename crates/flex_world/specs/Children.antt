-- The places of children in their containers.
use Rattle.std.specs.Prelude.{Bool, List, None, Option, Some, [], false, if◌then◌else◌, length, nat_lt, negsuc, pos, slice_get, suc, true, ℕ, ℤ, ◌&&◌, ◌∷◌}
use Rattle.flex_base.specs.Value.{is_object}
use Rattle.flex_base.specs.declared.value.ObjId.{ObjId}
use Rattle.flex_world.specs.Objects.{Object, Spot, object_at}

abbrev pub without_child : ObjId → List ObjId → List ObjId
without_child o [] = []
without_child o (x ∷ xs) = if is_object x o then xs else x ∷ without_child o xs

-- a child that was last added as a declared one to the same container by the same document, and whose declaration precedes
abbrev pub precedes : Spot → Option Spot → Bool
precedes s None = false
precedes s (Some other) = is_object other.container s.container && is_object other.document s.document && nat_lt other.number s.number

abbrev pub is_forerunner : Spot → Option Object → Bool
is_forerunner s None = false
is_forerunner s (Some c) = precedes s c.spot

-- the place behind the last forerunner among the children from place n on, or else the one that was found before
abbrev pub behind : List Object → Spot → ℕ → ℕ → List ObjId → ℕ
behind objects s n found [] = found
behind objects s n found (child ∷ children) = behind objects s (suc n) (if is_forerunner s (object_at objects child) then suc n else found) children

-- a declared child goes directly behind its last forerunner, any other child last
abbrev pub place_for : List Object → Option Spot → List ObjId → ℕ
place_for objects None children = length children
place_for objects (Some s) children = behind objects s 0 0 children

abbrev pub new_spot : Option Spot → Option Spot → Option Spot
new_spot None old = old
new_spot (Some s) old = Some s

-- a child that was added to a container
abbrev pub joined_to : ObjId → Option Spot → Object → Object
joined_to container s c = record c { parent = Some container; spot = new_spot s c.spot; was_added = true }

-- the child at a place, if there is one
abbrev pub child_at : List ObjId → ℤ → Option ObjId
child_at children (pos n) = slice_get children n
child_at children (negsuc n) = None

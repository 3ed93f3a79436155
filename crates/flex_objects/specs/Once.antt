-- Children that stand once each among the others.
use Rattle.std.specs.HashSet.{HashSet, contains}
use Rattle.std.specs.List.{list_all, list_any}
use Rattle.std.specs.Prelude.{Bool, List, None, Option, Some, [], false, nat_eq, not, true, ℕ, ◌&&◌, ◌∷◌}
use Rattle.flex_base.specs.Value.{is_object}
use Rattle.flex_base.specs.declared.value.ObjId.{ObjId}

abbrev pub are_apart : List ObjId → Bool
are_apart [] = true
are_apart (o ∷ os) = not (list_any (is_object o) os) && are_apart os

-- each is among those that were noted
abbrev pub are_noted : {S : Type 0} → HashSet ℕ S → List ObjId → Bool
are_noted noted os = list_all (λ (o : ObjId). contains nat_eq noted o.0) os

-- the children are among those that were noted, and stand once each; without notes nothing is known
abbrev pub stand_once : {S : Type 0} → Option (HashSet ℕ S) → List ObjId → Bool
stand_once None os = true
stand_once (Some noted) os = are_noted noted os && are_apart os

abbrev pub is_held : ObjId → Option ObjId → Bool
is_held child None = false
is_held child (Some o) = is_object o child

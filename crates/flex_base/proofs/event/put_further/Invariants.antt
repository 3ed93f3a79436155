use Rattle.std.proofs.Common.{◌≡◌, ◌++◌, ◌∷◌, take, string_bytes}
use Rattle.std.specs.List.{flat_map}
use Rattle.flex_base.proofs.event.put_further.Given as goal

abbrev pub invariant-loop-name : goal.invariant-loop-name
invariant-loop-name l = string_bytes l.joined ≡ string_bytes l.initial.joined ++ flat_map (λ name. 46 ∷ name) (take l.name-index l.names)

-- Names joined by dots.
use Rattle.std.proofs.Common.{◌≡◌, ℕ, List, [], ◌∷◌, ◌++◌, ap}
use Rattle.std.specs.List.{flat_map, join_with_byte}
use Rattle.std.proofs.lemmas.List.{append-nil}

pub joined_further : (name : List ℕ) (names : List (List ℕ)) → name ++ flat_map (λ n. 46 ∷ n) names ≡ join_with_byte 46 (name ∷ names)
joined_further name [] = append-nil name
joined_further name (next ∷ names) = ap (λ l. name ++ 46 ∷ l) (joined_further next names)

-- The names that the code keeps, list by list.
use Rattle.std.proofs.Common.{◌≡◌, ℕ, List, [], ◌∷◌, ◌++◌, map, refl, ap}
use Rattle.as3_parser.specs.declared.tree.Modifier.{Modifier}
use Rattle.as3_parser.specs.declared.tree.Variable.{Variable}
use Rattle.source_sites.specs.Trees.{variable_of}
use Rattle.class_sites.specs.MemberSites.{DeclaredName, name_of_variable}
use Rattle.member_checks.specs.Places.{place_of_name, variable_place}

pub variable_places : (holder : ℕ) (modifiers : List Modifier) (variables : List Variable) → map (variable_place holder) variables ≡ map place_of_name (map (name_of_variable holder modifiers) (map variable_of variables))
variable_places holder modifiers [] = refl
variable_places holder modifiers (v ∷ variables) = ap (λ names. variable_place holder v ∷ names) (variable_places holder modifiers variables)

places_of_two : (xs ys : List DeclaredName) → map place_of_name (xs ++ ys) ≡ map place_of_name xs ++ map place_of_name ys
places_of_two [] ys = refl
places_of_two (x ∷ xs) ys = ap (λ names. place_of_name x ∷ names) (places_of_two xs ys)

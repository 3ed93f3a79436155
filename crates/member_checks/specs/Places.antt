-- The names that the code keeps of those that a class declares.
use Rattle.std.specs.Prelude.{ℕ, List, map, Bool, ◌&&◌, ◌==◌, not}
use Rattle.std.specs.List.{take_while}
use Rattle.as3_parser.specs.declared.tree.Lexeme.{Lexeme}
use Rattle.as3_parser.specs.declared.tree.Variable.{Variable}
use Rattle.as3_parser.specs.declared.tree.Member.{Member}
use Rattle.source_sites.specs.Trees.{member_of}
use Rattle.class_sites.specs.MemberSites.{DeclaredName, names_of_members}
use Rattle.member_checks.specs.declared.names.NamedPlace.{NamedPlace}

-- where a name stands
abbrev pub place_of_name : DeclaredName → NamedPlace
place_of_name n = record { holder = n.holder; at = n.at; name = n.name }

abbrev pub lexeme_place : ℕ → Lexeme → NamedPlace
lexeme_place holder l = record { holder = holder; at = l.span.start; name = l.text }

abbrev pub variable_place : ℕ → Variable → NamedPlace
variable_place holder v = lexeme_place holder v.name

abbrev pub stands_elsewhere : ℕ → ℕ → NamedPlace → Bool
stands_elsewhere holder at n = not (n.holder == holder && n.at == at)

-- the names before a place
abbrev pub places_before : ℕ → ℕ → List NamedPlace → List NamedPlace
places_before holder at names = take_while (stands_elsewhere holder at) names

-- where the names stand that members declare
abbrev pub places_in : ℕ → List Member → List NamedPlace
places_in holder members = map place_of_name (names_of_members holder (map member_of members))

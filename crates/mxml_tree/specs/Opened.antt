-- The open elements of the code, and what is declared in them.
use Rattle.std.specs.Prelude.{ℕ, ◌&&◌, Bool, List, [], ◌∷◌, ◌++◌, map, is_some}
use Rattle.std.specs.List.{list_all}
use Rattle.mxml_items.specs.Items.{Written}
use Rattle.mxml_tree.specs.declared.elements.Declaration.{Declaration}
use Rattle.mxml_tree.specs.declared.elements.OpenElement.{OpenElement}
use Rattle.mxml_tree.specs.Namespaces.{Declared, at_first, prefix_of, space_of, attribute_space}
use Rattle.mxml_tree.specs.Faults.{Open}

abbrev pub declared_of : Declaration → Declared
declared_of d = record { prefix = d.prefix.now; space = d.space }

abbrev pub own_of : List Declaration → List Declared
own_of declarations = map declared_of declarations

-- the namespaces that are declared inside open elements, the innermost first
abbrev pub declared_in : List OpenElement → List Declared
declared_in [] = at_first
declared_in (e ∷ opened) = own_of e.declarations ++ declared_in opened

abbrev pub prefixes_in : List Declaration → List (List ℕ)
prefixes_in declarations = map (λ (d : Declaration). d.prefix.now) declarations

abbrev pub open_of : OpenElement → Open
open_of e = record { name = e.name.now; prefixes = prefixes_in e.declarations }

-- whether the prefixes of attributes have namespaces
abbrev pub are_known : List Declared → List Written → Bool
are_known declared attributes = list_all (λ (a : Written). is_some (attribute_space declared (prefix_of a.name))) attributes

-- whether the prefixes of a tag and of its attributes have
abbrev pub is_known_tag : List Declared → List ℕ → List Written → Bool
is_known_tag declared name attributes = is_some (space_of declared (prefix_of name)) && are_known declared attributes

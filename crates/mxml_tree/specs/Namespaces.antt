-- Names with a prefix, and the namespaces that are declared.
use Rattle.std.specs.Prelude.{◌≡◌, ℕ, ◌==◌, List, [], ◌∷◌, Bool, true, false, Option, Some, None, option_map, codes, bytes_eq, find}
use Rattle.std.specs.List.{list_any, before_first, after_first}
use Rattle.mxml_items.specs.Items.{Written}
use Rattle.mxml_tree.specs.Values.{IsMeant}

abbrev pub is_colon : ℕ → Bool
is_colon b = b == 58

-- a written name: what stands before its `:`, and what behind; without `:` the prefix is empty
abbrev pub prefix_of : List ℕ → List ℕ
prefix_of name = elim (list_any is_colon name) [ true ↦ before_first is_colon name | false ↦ [] ]

abbrev pub local_of : List ℕ → List ℕ
local_of name = elim (list_any is_colon name) [ true ↦ after_first is_colon name | false ↦ name ]

-- a prefix, empty for names without one, and the namespace that it stands for
pub record Declared : Type 0 where
  pub prefix : List ℕ
  pub space : List ℕ

-- what is declared outside the root
abbrev pub at_first : List Declared
at_first =
    record { prefix = []; space = [] }
    ∷ record { prefix = codes "xml"; space = codes "http://www.w3.org/XML/1998/namespace" }
    ∷ []

-- the prefix that an attribute of this name declares: `xmlns` that of names without one, `xmlns:p` that of p
abbrev pub declares : List ℕ → Option (List ℕ)
declares name =
    elim (bytes_eq name (codes "xmlns")) [
      | true ↦ Some []
      | false ↦ elim (bytes_eq (prefix_of name) (codes "xmlns")) [ true ↦ Some (local_of name) | false ↦ None ]
    ]

-- a prefix with the namespace that its attribute's value stands for, before what others declare
pub record DeclaresFirst (prefix value : List ℕ) (Others : List Declared → Type 0) (own : List Declared) : Type 0 where
  pub space : List ℕ
  pub others : List Declared
  pub is_meant : IsMeant value space
  pub is : own ≡ record { prefix = prefix; space = space } ∷ others
  pub go_on : Others others

-- what an attribute that declares a prefix, or none, adds to what others declare
abbrev pub DeclaresThen : Option (List ℕ) → List ℕ → (List Declared → Type 0) → List Declared → Type 0
DeclaresThen None value Others own = Others own
DeclaresThen (Some prefix) value Others own = DeclaresFirst prefix value Others own

-- what a tag's attributes declare, in text order
abbrev pub AreDeclared : List Written → List Declared → Type 0
AreDeclared [] own = own ≡ []
AreDeclared (a ∷ attributes) own = DeclaresThen (declares a.name) a.value (AreDeclared attributes) own

-- the namespace of a prefix
abbrev pub space_of : List Declared → List ℕ → Option (List ℕ)
space_of declared prefix = option_map (λ (d : Declared). d.space) (find (λ (d : Declared). bytes_eq d.prefix prefix) declared)

-- the namespace of an attribute's prefix; without prefix it has none, which is the empty text here
abbrev pub attribute_space : List Declared → List ℕ → Option (List ℕ)
attribute_space declared [] = Some []
attribute_space declared (b ∷ prefix) = space_of declared (b ∷ prefix)

-- The tree of an MXML document, and its table.
use Rattle.std.specs.Prelude.{ℕ, ◌+◌, List, [], ◌∷◌, ◌++◌, length, Option, Some, None}
use Rattle.mxml_tree.specs.declared.tree.Element.{Element}
use Rattle.mxml_tree.specs.declared.tree.Characters.{Characters}
use Rattle.mxml_tree.specs.declared.tree.NodeKind.TheVariants as kind
use Rattle.mxml_tree.specs.declared.tree.Node as Row

mutual
  -- what begins at a place of the file
  pub data Node : Type 0 where
    Elem : (at : ℕ) (element : Element) (nodes : Nodes) → Node
    Chars : (at : ℕ) (characters : Characters) → Node

  -- in text order
  pub data Nodes : Type 0 where
    NoNode : Nodes
    MoreNode : (node : Node) (nodes : Nodes) → Nodes

abbrev mutual
  -- the table of a node in an element, or in none, in text order: its own row has this number
  pub rows : Option ℕ → ℕ → Node → List Row.Node
  rows parent n (Elem at element nodes) = record { parent = parent; at = at; kind = kind.Element element } ∷ rows_of (Some n) (n + 1) nodes
  rows parent n (Chars at characters) = record { parent = parent; at = at; kind = kind.Characters characters } ∷ []

  -- the table of nodes, whose first row has this number
  pub rows_of : Option ℕ → ℕ → Nodes → List Row.Node
  rows_of parent n NoNode = []
  rows_of parent n (MoreNode node nodes) = rows parent n node ++ rows_of parent (n + length (rows parent n node)) nodes

-- the table of the tree with this root
abbrev pub table_of : Node → List Row.Node
table_of root = rows None 0 root

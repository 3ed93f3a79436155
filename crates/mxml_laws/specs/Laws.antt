-- A law of the texts of documents.
use Rattle.std.specs.Prelude.{◌⊎◌, ℕ, List}
use Rattle.mxml_tree.specs.declared.tree.Node as Row
use Rattle.mxml_tree.specs.Faults.{Fault}
use Rattle.mxml_tree.specs.IsTree.{HasNodes, IsFirstFault}

-- each text has a tree or a first fault
abbrev pub HasTreeOrFault : Type 0
HasTreeOrFault = (text : List ℕ) → ((nodes : List Row.Node) × HasNodes text nodes) ⊎ ((fault : Fault) × IsFirstFault fault text)

-- Laws of trees and first faults.
use Rattle.std.specs.Prelude.{◌≡◌, ◌≤◌, ℕ, List, length}
use Rattle.mxml_tree.specs.declared.tree.Node as Row
use Rattle.mxml_tree.specs.Faults.{Fault}
use Rattle.mxml_tree.specs.IsTree.{HasNodes, IsFirstFault}

-- a text has at most one tree
abbrev pub IsOneTree : Type 0
IsOneTree = (text : List ℕ) (nodes others : List Row.Node) → HasNodes text nodes → HasNodes text others → nodes ≡ others

-- and at most one first fault
abbrev pub IsOneFault : Type 0
IsOneFault = (text : List ℕ) (fault other : Fault) → IsFirstFault fault text → IsFirstFault other text → fault ≡ other

-- and never both
abbrev pub IsNeverBoth : Type 0
IsNeverBoth = (text : List ℕ) (nodes : List Row.Node) (fault : Fault) → HasNodes text nodes → IsFirstFault fault text → ⊥

-- a first fault stands in the text, or at its end
abbrev pub IsFaultWithin : Type 0
IsFaultWithin = (text : List ℕ) (fault : Fault) → IsFirstFault fault text → fault.at ≤ length text

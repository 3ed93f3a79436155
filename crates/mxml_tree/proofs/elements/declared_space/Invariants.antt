use Rattle.std.proofs.Common.{◌≡◌, drop}
use Rattle.mxml_tree.specs.Namespaces.{space_of}
use Rattle.mxml_tree.specs.Opened.{own_of}
use Rattle.mxml_tree.proofs.elements.declared_space.Given as goal

abbrev pub invariant-loop-declaration : goal.invariant-loop-declaration
invariant-loop-declaration l = space_of (own_of (drop l.declaration-index l.declarations)) l.prefix ≡ space_of (own_of l.declarations) l.prefix

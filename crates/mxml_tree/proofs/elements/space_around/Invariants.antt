use Rattle.std.proofs.Common.{◌≡◌, drop, length, reverse}
use Rattle.mxml_tree.specs.Namespaces.{space_of}
use Rattle.mxml_tree.specs.Opened.{declared_in}
use Rattle.mxml_tree.proofs.elements.space_around.Given as goal

abbrev pub invariant-loop-element : goal.invariant-loop-element
invariant-loop-element l = space_of (declared_in (drop (length l.yielded) (reverse l.opened))) l.prefix ≡ space_of (declared_in (reverse l.opened)) l.prefix

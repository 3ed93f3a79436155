use Rattle.std.proofs.Common.{map, take}
use Rattle.mxml_items.specs.Reading.{written}
use Rattle.mxml_tree.specs.Namespaces.{AreDeclared}
use Rattle.mxml_tree.specs.Opened.{own_of}
use Rattle.mxml_tree.proofs.attributes.declarations.Given as goal

abbrev pub invariant-loop-attribute : goal.invariant-loop-attribute
invariant-loop-attribute l = AreDeclared (map written (take l.attribute-index l.attributes)) (own_of l.own)

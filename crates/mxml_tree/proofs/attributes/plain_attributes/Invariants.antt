use Rattle.std.proofs.Common.{◌++◌, map, reverse, take}
use Rattle.mxml_items.specs.Reading.{written}
use Rattle.mxml_tree.specs.Faults.{plain}
use Rattle.mxml_tree.specs.IsTree.{AreAttributesOf}
use Rattle.mxml_tree.specs.Opened.{declared_in, own_of}
use Rattle.mxml_tree.proofs.attributes.plain_attributes.Given as goal

abbrev pub invariant-loop-attribute : goal.invariant-loop-attribute
invariant-loop-attribute l = AreAttributesOf (own_of l.own ++ declared_in (reverse l.opened)) (plain (map written (take l.attribute-index l.attributes))) l.list

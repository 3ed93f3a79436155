use Rattle.std.proofs.Common.{map, take}
use Rattle.mxml_items.specs.Reading.{written}
use Rattle.mxml_tree.specs.Faults.{names_of}
use Rattle.mxml_tree.proofs.RepeatedNames.{AreSeen}
use Rattle.mxml_tree.proofs.attributes.is_repeated.Given as goal

abbrev pub invariant-loop-attribute : goal.invariant-loop-attribute
invariant-loop-attribute l = AreSeen l.names.keys (names_of (map written (take l.attribute-index l.attributes)))

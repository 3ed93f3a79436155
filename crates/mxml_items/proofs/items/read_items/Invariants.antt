use Rattle.std.proofs.Common.{◌-◌, length, map}
use Rattle.mxml_items.specs.Texts.{placed_of}
use Rattle.mxml_items.proofs.TextLaws.{ItemsSoFar}
use Rattle.mxml_items.proofs.items.read_items.Given as goal

abbrev pub invariant-loop-items : goal.invariant-loop-items
invariant-loop-items l = ItemsSoFar l.text (map placed_of l.items) l.rest

abbrev pub decreases-loop-items : goal.decreases-loop-items
decreases-loop-items l = length l.rest

use Rattle.std.proofs.Common.{◌≡◌, List, ℕ, ◌++◌, length, map}
use Rattle.mxml_items.specs.Items.{AreAttributes}
use Rattle.mxml_items.specs.Reading.{written}
use Rattle.mxml_items.proofs.attributes.attributes.Given as goal

abbrev pub invariant-loop-attribute : goal.invariant-loop-attribute
invariant-loop-attribute l = (bytes : List ℕ) × (l.text ≡ bytes ++ l.rest) × AreAttributes (map written l.list) l.at bytes

abbrev pub decreases-loop-attribute : goal.decreases-loop-attribute
decreases-loop-attribute l = length l.rest

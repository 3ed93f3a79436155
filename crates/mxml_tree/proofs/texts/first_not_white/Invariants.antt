use Rattle.std.proofs.Common.{◌≡◌, [], map, take}
use Rattle.mxml_items.specs.Texts.{placed_of}
use Rattle.mxml_tree.specs.Texts.{not_white}
use Rattle.mxml_tree.proofs.texts.first_not_white.Given as goal

abbrev pub invariant-loop-index : goal.invariant-loop-index
invariant-loop-index l = not_white (map placed_of (take l.index l.texts)) ≡ []

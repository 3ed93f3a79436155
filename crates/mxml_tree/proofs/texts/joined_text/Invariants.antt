use Rattle.std.proofs.Common.{map, take, string_bytes}
use Rattle.mxml_items.specs.Texts.{placed_of}
use Rattle.mxml_tree.specs.Texts.{AreTextsIn, not_white}
use Rattle.mxml_tree.proofs.texts.joined_text.Given as goal

abbrev pub invariant-loop-placed : goal.invariant-loop-placed
invariant-loop-placed l = AreTextsIn (not_white (map placed_of (take l.placed-index l.texts))) (string_bytes l.joined)

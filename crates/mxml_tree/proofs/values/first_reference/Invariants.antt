use Rattle.std.proofs.Common.{take}
use Rattle.mxml_tree.proofs.Meanings.{ArePlain}
use Rattle.mxml_tree.proofs.values.first_reference.Given as goal

abbrev pub invariant-loop-i : goal.invariant-loop-i
invariant-loop-i l = ArePlain (take l.i l.text)

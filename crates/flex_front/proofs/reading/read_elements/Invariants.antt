use Rattle.std.proofs.Common.{take}
use Rattle.flex_front.specs.Source.{AreElements}
use Rattle.flex_front.proofs.reading.read_elements.Given as goal

abbrev pub invariant-loop-row : goal.invariant-loop-row
invariant-loop-row l = AreElements (take l.row-index l.rows) l.elements

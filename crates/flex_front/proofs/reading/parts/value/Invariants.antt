use Rattle.std.proofs.Common.{◌≡◌, drop}
use Rattle.flex_front.specs.Source.{value_of}
use Rattle.flex_front.proofs.reading.parts.value.Given as goal

abbrev pub invariant-loop-attribute : goal.invariant-loop-attribute
invariant-loop-attribute l = value_of l.name (drop l.attribute-index l.attribute-items) ≡ value_of l.name l.attribute-items

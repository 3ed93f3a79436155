use Rattle.std.proofs.Common.{◌≡◌, ◌≤◌, take}
use Rattle.mxml_items.specs.Pieces.{number_of}
use Rattle.mxml_items.proofs.pieces.character.Given as goal

abbrev pub invariant-loop-digit : goal.invariant-loop-digit
invariant-loop-digit l = (l.number ≡ number_of l.base (take l.digit-index l.digits)) × (l.number ≤ 0x10_FFFF)

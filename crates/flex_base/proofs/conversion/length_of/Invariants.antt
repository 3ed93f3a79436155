use Rattle.std.proofs.Common.{◌≡◌, length}
use Rattle.std.specs.Char.Escape.{encode_utf16}
use Rattle.std.specs.List.{flat_map}
use Rattle.flex_base.proofs.conversion.length_of.Given as goal

abbrev pub invariant-loop-character : goal.invariant-loop-character
invariant-loop-character l = l.units ≡ length (flat_map encode_utf16 l.yielded)

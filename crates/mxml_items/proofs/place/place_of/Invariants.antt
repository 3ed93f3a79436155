use Rattle.std.proofs.Common.{◌≡◌, ◌≤◌, ◌+◌}
use Rattle.mxml_items.specs.Places.{place_of}
use Rattle.mxml_items.proofs.place.place_of.Given as goal

abbrev pub invariant-loop-byte : goal.invariant-loop-byte
invariant-loop-byte l =
    (l.line ≡ (place_of l.byte-items l.byte-index).line) × (l.column ≡ (place_of l.byte-items l.byte-index).column) × (l.line ≤ l.byte-index + 1) × (l.column ≤ l.byte-index + 1)

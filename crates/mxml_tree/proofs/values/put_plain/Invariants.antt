use Rattle.std.proofs.Common.{◌≡◌, ◌++◌, drop, false, map}
use Rattle.mxml_items.specs.Pieces.{Written}
use Rattle.mxml_tree.proofs.Meanings.{meant}
use Rattle.mxml_tree.proofs.values.put_plain.Given as goal

abbrev pub invariant-loop-byte : goal.invariant-loop-byte
invariant-loop-byte l =
    l.bytes ++ meant l.spaces l.behind_return (map Written (drop l.byte-index l.plain)) ≡ l.fn.bytes ++ meant l.spaces false (map Written l.plain)

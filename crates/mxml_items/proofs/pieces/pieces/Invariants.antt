use Rattle.std.proofs.Common.{length}
use Rattle.mxml_items.specs.Pieces.{IsPlain, may_be_written}
use Rattle.mxml_items.proofs.pieces.pieces.Given as goal

abbrev pub invariant-loop-unread : goal.invariant-loop-unread
invariant-loop-unread l = IsPlain (may_be_written l.quote) l.text l.rest

abbrev pub decreases-loop-unread : goal.decreases-loop-unread
decreases-loop-unread l = length l.rest

use Rattle.std.proofs.Common.{◌≡◌, length}
use Rattle.document_texts.specs.Scanning.{closes_at_end}
use Rattle.document_texts.proofs.bindings.closes_at_end.Given as goal

abbrev pub invariant-loop-byte : goal.invariant-loop-byte
invariant-loop-byte l = closes_at_end l.fn.part ≡ closes_at_end l.rest

abbrev pub decreases-loop-byte : goal.decreases-loop-byte
decreases-loop-byte l = length l.rest

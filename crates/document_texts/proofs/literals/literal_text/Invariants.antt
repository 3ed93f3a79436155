use Rattle.std.proofs.Common.{◌≡◌, ◌++◌, length}
use Rattle.document_sites.specs.BindingTexts.{joined, literal_text}
use Rattle.document_texts.specs.Scanning.{pieces_from}
use Rattle.document_texts.proofs.literals.literal_text.Given as goal

abbrev pub invariant-loop-byte : goal.invariant-loop-byte
invariant-loop-byte l = l.written ++ joined (pieces_from l.stand l.rest) ≡ literal_text l.fn.text

abbrev pub decreases-loop-byte : goal.decreases-loop-byte
decreases-loop-byte l = length l.rest

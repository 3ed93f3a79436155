use Rattle.std.proofs.Common.{◌≡◌, false, length}
use Rattle.std.specs.List.{list_all}
use Rattle.document_sites.specs.BindingTexts.{is_plain, pieces_outside}
use Rattle.document_texts.specs.Scanning.{is_inside, pieces_from}
use Rattle.document_texts.proofs.bindings.is_binding.Given as goal

abbrev pub invariant-loop-byte : goal.invariant-loop-byte
invariant-loop-byte l =
    (is_inside l.stand ≡ false) × (list_all is_plain (pieces_outside l.fn.text false) ≡ list_all is_plain (pieces_from l.stand l.rest))

abbrev pub decreases-loop-byte : goal.decreases-loop-byte
decreases-loop-byte l = length l.rest

use Rattle.std.proofs.Common.{◌≡◌, ◌<◌, length}
use Rattle.document_sites.specs.BindingTexts.{digits_below}
use Rattle.document_texts.proofs.Digits.{digits_from}
use Rattle.document_texts.proofs.numbers.digits_below.Given as goal

abbrev pub invariant-loop-digit : goal.invariant-loop-digit
invariant-loop-digit l = (digits_below l.fn.limit l.fn.digits ≡ digits_from l.fn.limit l.number l.rest) × (l.number < l.fn.limit)

abbrev pub decreases-loop-digit : goal.decreases-loop-digit
decreases-loop-digit l = length l.rest

use Rattle.flex_front.proofs.DocumentLaws.{one_document, small_document}
use Rattle.flex_front.proofs.reading.laws_of_sources.Goals as goal

pub returns-clause-one : goal.returns-clause-one
returns-clause-one c = one_document

pub returns-clause-small : goal.returns-clause-small
returns-clause-small c = small_document

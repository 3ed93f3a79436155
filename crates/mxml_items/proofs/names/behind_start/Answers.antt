use Rattle.std.proofs.Common.{rules}
use Rattle.std.proofs.lemmas.List.Sorted.{answers_always}
use Rattle.mxml_items.specs.Names.{starts_part}
use Rattle.mxml_items.proofs.NameLaws.{first_that}
use Rattle.mxml_items.proofs.names.behind_start.Goals as goal

pub returns : goal.returns
returns c = first_that _ starts_part (answers_always _ _ _ (λ f a r f' called. search rules)) c.args.word.now c.strip_prefix.result c.strip_prefix.ensures.cases

use Rattle.std.proofs.lemmas.Result.{IfOk-weaker, MatchResult-weaker}
use Rattle.flex_front.specs.Source.{IsSmall}
use Rattle.flex_front.proofs.DocumentLaws.{no_source, small_source}
use Rattle.flex_front.proofs.reading.read_source.Goals as goal

pub returns-clause-small : goal.returns-clause-small
returns-clause-small c = IfOk-weaker c.read_document.result _ IsSmall (small_source _) c.read_document.ensures.found

pub returns-clause-refused : goal.returns-clause-refused
returns-clause-refused c = MatchResult-weaker c.read_document.result c.read_document.ensures.refused (λ d all. all) (λ e none. no_source c.args.name.now c.args.bytes.now _ e (rw c.nodes.ensures c.in-Ok.ensures.tree) none)

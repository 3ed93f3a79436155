use Rattle.std.proofs.Common.{◌∙◌, sym}
use Rattle.mxml_tree.proofs.ClosingLaws.{finishes}
use Rattle.mxml_tree.proofs.building.Building.finish.Goals as goal

pub returns-in-None-clause-ok : goal.returns-in-None-clause-ok
returns-in-None-clause-ok c = finishes c.args.self c.args.rest.now (sym c.fault_at_end.ensures ∙ c.in-None.is)

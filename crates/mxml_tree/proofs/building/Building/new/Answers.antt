use Rattle.mxml_tree.proofs.StandsLaws.{stands_at_first}
use Rattle.mxml_tree.proofs.building.Building.new.Goals as goal

pub returns : goal.returns
returns c all = stands_at_first all _ c.new.ensures.items c.new-2.ensures

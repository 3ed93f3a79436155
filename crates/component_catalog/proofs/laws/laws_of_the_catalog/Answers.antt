use Rattle.component_catalog.proofs.Lineages.{lineage_goes_up, listed}
use Rattle.component_catalog.proofs.laws.laws_of_the_catalog.Goals as goal

pub returns-clause-listed : goal.returns-clause-listed
returns-clause-listed c = listed

pub returns-clause-ends : goal.returns-clause-ends
returns-clause-ends c = lineage_goes_up

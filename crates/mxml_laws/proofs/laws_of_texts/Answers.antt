use Rattle.mxml_laws.proofs.TreeOrFault.{has_tree_or_fault}
use Rattle.mxml_laws.proofs.laws_of_texts.Goals as goal

pub returns : goal.returns
returns c = has_tree_or_fault

use Rattle.mxml_tree.proofs.TreeOrFault.{fault_within, never_both, one_fault, one_tree}
use Rattle.mxml_tree.proofs.laws.laws_of_trees.Goals as goal

pub returns-clause-one_tree : goal.returns-clause-one_tree
returns-clause-one_tree c = one_tree

pub returns-clause-one_fault : goal.returns-clause-one_fault
returns-clause-one_fault c = one_fault

pub returns-clause-never_both : goal.returns-clause-never_both
returns-clause-never_both c = never_both

pub returns-clause-within : goal.returns-clause-within
returns-clause-within c = fault_within

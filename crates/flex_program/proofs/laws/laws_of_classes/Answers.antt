use Rattle.flex_program.proofs.Kept.{ancestors_go_on, fields_are_kept, methods_are_kept}
use Rattle.flex_program.proofs.laws.laws_of_classes.Goals as goal

pub returns-clause-ancestors : goal.returns-clause-ancestors
returns-clause-ancestors c = ancestors_go_on

pub returns-clause-fields : goal.returns-clause-fields
returns-clause-fields c = fields_are_kept

pub returns-clause-methods : goal.returns-clause-methods
returns-clause-methods c = methods_are_kept

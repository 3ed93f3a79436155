use Rattle.flex_program.proofs.Trees.{content_forms, given_forms, start_forms, step_forms, stmt_forms}
use Rattle.flex_program.proofs.laws.laws_of_terms.Goals as goal

pub returns-clause-start : goal.returns-clause-start
returns-clause-start c = start_forms

pub returns-clause-steps : goal.returns-clause-steps
returns-clause-steps c = step_forms

pub returns-clause-statements : goal.returns-clause-statements
returns-clause-statements c = stmt_forms

pub returns-clause-contents : goal.returns-clause-contents
returns-clause-contents c = content_forms

pub returns-clause-given : goal.returns-clause-given
returns-clause-given c = given_forms

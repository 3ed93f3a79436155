use Rattle.std.proofs.Common.{sym}
use Rattle.as3_parser.proofs.SimpleSteps.{target_begun, simple_plain, simple_step, value_begun, simple_assignment}
use Rattle.as3_parser.proofs.simple.begun_by_expression.Goals as goal

pub expression-requires : goal.expression-requires
expression-requires c = target_begun c.requires.begun c.requires.first

pub returns-in_default : goal.returns-in_default
returns-in_default c = simple_step c.requires.first c.in_ok-target.ensures (sym c.in-Some-step_operator_at.ensures) c.skip.ensures c.span.ensures

pub expression-requires-2 : goal.expression-requires-2
expression-requires-2 c = value_begun c.requires.begun c.requires.first c.in_ok-target.ensures (sym c.in-Some.ensures) c.skip-2.ensures

pub returns : goal.returns
returns c = simple_assignment c.requires.first c.in_ok-target.ensures (sym c.in-Some.ensures) c.skip-2.ensures c.in_ok-value.ensures c.span-2.ensures

pub returns-in_default-step_operator_at : goal.returns-in_default-step_operator_at
returns-in_default-step_operator_at c = simple_plain c.requires.first c.in_ok-target.ensures (sym c.in_default.ensures) (sym c.in_default-step_operator_at.ensures)

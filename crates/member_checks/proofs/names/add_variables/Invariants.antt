use Rattle.std.proofs.Common.{◌≡◌, ◌++◌, map, take}
use Rattle.member_checks.specs.Places.{variable_place}
use Rattle.member_checks.proofs.names.add_variables.Given as goal

abbrev pub invariant-loop-variable : goal.invariant-loop-variable
invariant-loop-variable l = l.names ≡ l.fn.names ++ map (variable_place l.fn.holder) (take l.variable-index l.variables)

use Rattle.std.proofs.Common.{map, take, ◌≡◌}
use Rattle.flex_program.specs.ProgramTerms.{variable_of}
use Rattle.built_programs.specs.Programs.{id_variable}
use Rattle.built_programs.proofs.building.id_variables.Given as goal

abbrev pub invariant-loop-element : goal.invariant-loop-element
invariant-loop-element l = map variable_of l.variables.items ≡ map id_variable (take l.element-index l.elements)

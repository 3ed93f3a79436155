use Rattle.std.proofs.Common.{◌≡◌, map, take}
use Rattle.as3_types.specs.Types.{type_of, type_of_parameter}
use Rattle.as3_types.proofs.types.parameter_types.Given as goal

abbrev pub invariant-loop-parameter : goal.invariant-loop-parameter
invariant-loop-parameter l = map type_of l.types ≡ map (type_of_parameter l.fn.classes l.fn.here) (take l.parameter-index l.parameters)

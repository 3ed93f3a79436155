use Rattle.std.proofs.Common.{◌≡◌, map, take}
use Rattle.source_sites.specs.Types.{parameter_type}
use Rattle.as3_types.specs.Types.{type_of}
use Rattle.as3_types.proofs.look_ups.parameter_types.Given as goal

abbrev pub invariant-loop-parameter : goal.invariant-loop-parameter
invariant-loop-parameter l = map type_of l.types ≡ map parameter_type (take l.parameter-index l.parameters)

use Rattle.std.proofs.Common.{map, take, ◌≡◌}
use Rattle.std.specs.List.{flat_map}
use Rattle.flex_program.specs.CodeTerms.{method_of}
use Rattle.built_programs.specs.Programs.{handlers_in}
use Rattle.built_programs.proofs.building.handlers.Given as goal

abbrev pub invariant-loop-element : goal.invariant-loop-element
invariant-loop-element l = map method_of l.methods.items ≡ flat_map handlers_in (take l.element-index l.elements)

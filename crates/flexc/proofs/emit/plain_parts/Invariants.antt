use Rattle.std.proofs.Common.{◌≡◌, map, take}
use Rattle.avm2_code.specs.declared.parts.Part.TheVariants.{Plain}
use Rattle.flexc.proofs.emit.plain_parts.Given as goal

abbrev pub invariant-loop-instruction : goal.invariant-loop-instruction
invariant-loop-instruction l = l.parts ≡ map Plain (take l.instruction-index l.instructions)

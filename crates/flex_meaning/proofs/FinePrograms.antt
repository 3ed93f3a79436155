-- The small programs are fine, by computation.
use Rattle.std.proofs.Common.{refl}
use Rattle.flex_meaning.specs.FineExamples.{OtherProgramsAreFine, PlainProgramsAreFine}

pub plain_are_fine : PlainProgramsAreFine
plain_are_fine = (refl, refl, refl, refl, refl, refl)

pub others_are_fine : OtherProgramsAreFine
others_are_fine = (refl, refl, refl, refl, refl, refl, refl, refl, refl, refl, refl, refl)

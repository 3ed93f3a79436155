-- The small programs are fine.
use Rattle.std.specs.Prelude.{[], true, ◌≡◌}
use Rattle.flex_program.specs.Fine.{is_fine}
use Rattle.flex_meaning.specs.BindingExamples.{replacer, ring, twin}
use Rattle.flex_meaning.specs.ClassExamples.{family, pinger}
use Rattle.flex_meaning.specs.EventExamples.{check_box, priorities, stopper}
use Rattle.flex_meaning.specs.Examples.{adder, arrays, counter, diver, greeting, looper}
use Rattle.flex_meaning.specs.FormExample.{contact_form}
use Rattle.flex_meaning.specs.StateExamples.{asker, deferrer, overrider}

abbrev pub PlainProgramsAreFine : Type 0
PlainProgramsAreFine = (is_fine greeting ≡ true) × (is_fine counter ≡ true) × (is_fine adder ≡ true) × (is_fine looper ≡ true) × (is_fine diver ≡ true) × (is_fine arrays ≡ true)

abbrev pub OtherProgramsAreFine : Type 0
OtherProgramsAreFine =
    (is_fine priorities ≡ true)
    × (is_fine (stopper []) ≡ true)
    × (is_fine (check_box [] []) ≡ true)
    × (is_fine replacer ≡ true)
    × (is_fine ring ≡ true)
    × (is_fine twin ≡ true)
    × (is_fine overrider ≡ true)
    × (is_fine asker ≡ true)
    × (is_fine deferrer ≡ true)
    × (is_fine contact_form ≡ true)
    × (is_fine family ≡ true)
    × (is_fine pinger ≡ true)

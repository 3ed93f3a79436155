-- What a class or a script keeps for its own traits, changed.
use Rattle.std.specs.Prelude.{ℕ, ◌∷◌}
use Rattle.avm2_meaning.specs.declared.heap.Statics.{Statics}
use Rattle.avm2_program.specs.declared.member.TraitPlace.{TraitPlace}
use Rattle.flex_base.specs.Lists.{changed_at}
use Rattle.flex_base.specs.declared.value.Value.{Value}

abbrev pub with_slot : ℕ → Value → Statics → Statics
with_slot n v s = record s { slots = changed_at (λ _. v) s.slots n }

abbrev pub with_place : TraitPlace → Statics → Statics
with_place place s = record s { written = place ∷ s.written }

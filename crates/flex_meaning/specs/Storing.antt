-- A value is stored, and bindings start.
use Rattle.std.specs.Prelude.{Bool, List, None, Option, Some, false, if◌then◌else◌, not, option_and_then, slice_get, ℕ, ◌&&◌, ◌||◌}
use Rattle.flex_base.specs.declared.record.TraceItem.TheVariants.{Written}
use Rattle.flex_base.specs.declared.value.ObjId.{ObjId}
use Rattle.flex_base.specs.declared.value.Value.{Value}
use Rattle.flex_world.specs.Objects.{Field, Keeping, Object, Watcher, is_number_among}
use Rattle.flex_program.specs.Classes.{document_in}
use Rattle.flex_program.specs.Program.{Binding}
use Rattle.flex_meaning.specs.Activities.{Context, Runs_binding, carry_out}
use Rattle.flex_meaning.specs.Results.{Result, choose, done, each, need, on}
use Rattle.flex_meaning.specs.Watching.{affected}
use Rattle.flex_meaning.specs.World.{World, note, set_field}

abbrev pub is_open : Option ℕ → List ℕ → Bool
is_open None numbers = false
is_open (Some n) numbers = is_number_among n numbers

-- a binding starts where it is enabled, and neither it nor its counterpart is open
abbrev pub may_start : Keeping → ℕ → Binding → Bool
may_start k number b = is_number_among number k.enabled && not (is_number_among number k.open_bindings) && not (is_open b.counterpart k.open_bindings)

-- a public or a bindable property is recorded
abbrev pub noted : ObjId → Field → Value → World → World
noted o f v w = if f.public || f.bindable then note (Written o f.text v) w else w

module _ (c : Context) where
  -- a binding of a document, by its number
  abbrev pub binding_of : Object → ℕ → Option Binding
  binding_of d number = option_and_then (λ document. slice_get document.bindings number) (document_in c.program d)

  abbrev pub start : Watcher → World → Result (Unit {0})
  start b w =
      on b.document w (λ d.
      need (binding_of d b.number) w (λ binding.
      choose (may_start d.keeping b.number binding) (carry_out c (Runs_binding b.document b.number)) done w))

  abbrev pub start_affected : ObjId → List ℕ → World → Result (Unit {0})
  start_affected o name w = each start (affected c.program w.objects w.built o name) w

  -- a value is stored and recorded, and then the affected bindings start
  abbrev pub store : ObjId → Field → Value → World → Result (Unit {0})
  store o f v w = choose f.bindable (start_affected o f.name) done (noted o f v (set_field o f.name v w))

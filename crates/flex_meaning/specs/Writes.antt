-- Writing a property.
use Rattle.std.specs.Prelude.{List, ℕ}
use Rattle.flex_base.specs.Value.{same}
use Rattle.flex_base.specs.declared.value.ObjId.{ObjId}
use Rattle.flex_base.specs.declared.value.Value.{Value}
use Rattle.flex_world.specs.Objects.{Field, can_be_written, field_named, is_state_field}
use Rattle.flex_program.specs.Classes.{has_property}
use Rattle.flex_meaning.specs.Activities.{Context}
use Rattle.flex_meaning.specs.Changes.{request}
use Rattle.flex_meaning.specs.Conversions.{convert}
use Rattle.flex_meaning.specs.Results.{Result, bind, choose, done, guarded, need, on}
use Rattle.flex_meaning.specs.Storing.{store}
use Rattle.flex_meaning.specs.World.{World}

module _ (c : Context) where
  -- writes a property: a value that equals the old one by `===` changes nothing
  abbrev pub write : ObjId → Field → Value → World → Result (Unit {0})
  write o f v w = choose (is_state_field f) (request c o v) (choose (same f.value v) done (store c o f v)) w

  -- the value is converted into the type of the property, and then written
  abbrev pub write_converted : ObjId → Field → Value → World → Result (Unit {0})
  write_converted o f v w = bind (convert c.program f.type v w) (λ v1 w1. write o f v1 w1)

  -- assigns to a property that the object has and that isn't read-only
  abbrev pub assign : ObjId → List ℕ → Value → World → Result (Unit {0})
  assign o name v w =
      on o w (λ object.
      guarded (has_property c.program object.kind name) (λ w1.
      need (field_named name object.fields) w1 (λ f.
      guarded (can_be_written f) (write_converted o f v) w1)) w)

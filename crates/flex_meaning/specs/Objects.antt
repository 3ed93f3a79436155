-- New objects, and what they are asked.
use Rattle.std.specs.Prelude.{List, [], if◌then◌else◌, length, ℕ, ◌+◌}
use Rattle.flex_base.specs.declared.record.TraceItem.TheVariants.{Made}
use Rattle.flex_base.specs.declared.value.ObjId.{ObjId}
use Rattle.flex_base.specs.declared.value.Value.{Value}
use Rattle.flex_world.specs.Classes.{is_event}
use Rattle.flex_world.specs.declared.kind.Class.{Class}
use Rattle.flex_world.specs.Making.{new_object, object_cost}
use Rattle.flex_world.specs.Objects.{An_array, Instance_of, next_object, property}
use Rattle.flex_program.specs.Classes.{bases, class_name, fields_of, has_property}
use Rattle.flex_program.specs.Program.{Program}
use Rattle.flex_meaning.specs.Results.{Goes, Result, bind, guarded, need, on}
use Rattle.flex_meaning.specs.Turns.{pay, take_number}
use Rattle.flex_meaning.specs.World.{World, is_fresh, note}

-- an array costs a cell, and one for each element
abbrev pub new_array : List Value → World → Result ObjId
new_array elements w = bind (pay (1 + length elements) w) (λ _ w1. take_number (new_object An_array [] elements) w1)

module _ (p : Program) where
  -- events make no record
  abbrev pub note_made : Class → ObjId → World → Result ObjId
  note_made class o w = if is_event (bases p) class then Goes o w else need (class_name p class) w (λ name. Goes o (note (Made o name) w))

  abbrev pub make_bare : Class → World → Result ObjId
  make_bare class w = bind (take_number (new_object (Instance_of class) (fields_of p class) []) w) (note_made class)

  -- an object takes its cells and then the next number, of which nothing is known yet
  abbrev pub allocate : Class → World → Result ObjId
  allocate class w = bind (pay (object_cost (fields_of p class)) w) (λ _ w1. guarded (is_fresh (next_object w1.objects) w1) (make_bare class) w1)

  -- reads a property of an object
  abbrev pub read : ObjId → List ℕ → World → Result Value
  read o name w = on o w (λ c. guarded (has_property p c.kind name) (λ w1. need (property c name) w1 (λ v. Goes v w1)) w)

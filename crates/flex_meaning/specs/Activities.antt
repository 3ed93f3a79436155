-- What is run as an activity, and what the meaning of everything else is given.
use Rattle.std.specs.Prelude.{List, ℕ}
use Rattle.flex_base.specs.declared.event.Arrival.{Arrival}
use Rattle.flex_base.specs.declared.value.ObjId.{ObjId}
use Rattle.flex_base.specs.declared.value.Value.{Value}
use Rattle.flex_world.specs.Objects.{Listener}
use Rattle.flex_program.specs.Program.{Program}
use Rattle.flex_meaning.specs.Results.{Result, dropped}
use Rattle.flex_meaning.specs.World.{World}

pub data Task : Type 0 where
  -- a method of the program, on an object, with arguments
  Calls : (method : ℕ) (object : ObjId) (arguments : List Value) → Task
  -- the constructor of a source class, by its number
  Constructs : (class : ℕ) (object : ObjId) (arguments : List Value) → Task
  Builds_document : (document : ObjId) → Task
  -- an instance of a document that carries includeIn or excludeFrom, by its number; it gives the object
  Builds_instance : (document : ObjId) (number : ℕ) → Task
  -- a listener hears an event of a type where that arrives
  Hears : (arrival : Arrival) (kind : List ℕ) (listener : Listener) (arguments : List Value) → Task
  -- a binding of a document, by its number
  Runs_binding : (document : ObjId) (number : ℕ) → Task
  -- a document leaves its state for another, and enters one
  Leaves : (document : ObjId) (next : List ℕ) → Task
  Enters : (document : ObjId) (state : List ℕ) → Task

-- what activities do; those that give no value give Undefined
abbrev pub Does : Type 0
Does = Task → World → Result Value

-- what the meaning of a part of a program rests on
pub record Context : Type 0 where
  pub program : Program
  -- how often a loop may go round
  pub fuel : ℕ
  pub does : Does

-- an activity is carried out, whatever it gives
abbrev pub carry_out : Context → Task → World → Result (Unit {0})
carry_out c task w = dropped (c.does task w)

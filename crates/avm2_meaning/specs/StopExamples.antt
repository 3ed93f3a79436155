-- How small files end: each machine fault, and nine of the twelve stops.
use Rattle.std.specs.Prelude.{List, Option, Some, [], codes, option_map, pos, ℕ, ◌∷◌, ◌≡◌}
use Rattle.abc_format.specs.declared.records.Abc.{Abc}
use Rattle.abc_format.specs.declared.records.ConstantPool.{ConstantPool}
use Rattle.abc_format.specs.declared.records.MethodBody.{MethodBody}
use Rattle.abc_format.specs.declared.records.Multiname.{Multiname}
use Rattle.abc_format.specs.declared.records.Multiname.TheVariants as multiname
use Rattle.abc_format.specs.declared.records.Trait.{Trait}
use Rattle.abc_format.specs.declared.records.TraitKind.TheVariants as trait_kind
use Rattle.flex_base.specs.Story.{Story}
use Rattle.flex_base.specs.declared.outcome.MachineFault.TheVariants as fault
use Rattle.flex_base.specs.declared.outcome.Outcome.{Outcome}
use Rattle.flex_base.specs.declared.outcome.Outcome.TheVariants.{Ended, Fault, Stopped, TurnsSpent}
use Rattle.flex_base.specs.declared.outcome.Stop.TheVariants as stop
use Rattle.avm2_meaning.specs.Examples.{alone, body, in_package, script_code}
use Rattle.avm2_meaning.specs.Trace.{bytes_trace}

abbrev pub strings : List (List ℕ)
strings =
    codes "Main" ∷ codes "spark.components" ∷ codes "Application" ∷ codes "trace" ∷ codes "hi" ∷ codes "nowhere" ∷ codes "parent" ∷ codes "currentState"
    ∷ codes "addElement" ∷ codes "removeElement" ∷ codes "1x" ∷ codes "go" ∷ codes "addEventListener" ∷ []

-- the public names 3 to 8, a name whose text is on the stack, and two public ones more
abbrev pub names_used : List Multiname
names_used =
    multiname.QName 1 1 ∷ multiname.QName 2 3 ∷ multiname.QName 1 4 ∷ multiname.QName 1 6 ∷ multiname.QName 1 7 ∷ multiname.QName 1 8
    ∷ multiname.QName 1 9 ∷ multiname.QName 1 10 ∷ multiname.MultinameL 1 ∷ multiname.QName 1 12 ∷ multiname.QName 1 13 ∷ []

abbrev pub pool : ConstantPool
pool = record {
  integers = pos 2147483647 ∷ [];
  unsigned_integers = [];
  doubles = [];
  strings = strings;
  namespaces = in_package 0 ∷ in_package 2 ∷ [];
  namespace_sets = (1 ∷ []) ∷ [];
  multinames = names_used;
}

-- the method `go`
abbrev pub go_trait : Trait
go_trait = record { name = 10; kind = trait_kind.Method 0 3; attributes = 0; metadata = [] }

-- an application with this code in its constructor, and with this body of its method `go`, if any
abbrev pub application : List ℕ → List MethodBody → Abc
application constructor go = record {
  constant_pool = pool;
  methods = alone ∷ alone ∷ alone ∷ alone ∷ [];
  metadata = [];
  instances = record { name = 1; super_name = 2; flags = 0; protected_namespace = 0; interfaces = []; iinit = 2; traits = go_trait ∷ [] } ∷ [];
  classes = record { cinit = 1; traits = [] } ∷ [];
  scripts = record { init = 0; traits = [] } ∷ [];
  method_bodies = body 0 script_code ∷ body 1 (0x47 ∷ []) ∷ body 2 constructor ∷ go;
}

abbrev pub outcome_in : Option Story → Option Outcome
outcome_in story = option_map (λ (s : Story). s.outcome) story

-- how the application ends with so many turns
abbrev pub ends_with : ℕ → List ℕ → List MethodBody → Option Outcome
ends_with turns constructor go = outcome_in (bytes_trace (application constructor go) (codes "Main") [] turns 2000)

-- with code in its constructor alone
abbrev pub ends : List ℕ → Option Outcome
ends constructor = ends_with 10 constructor []

pub record StopsByCause : Type 0 where
  -- names that aren't found: in code, at an object, as a type
  pub unknown_in_code : ends (0x5D ∷ 4 ∷ 0x47 ∷ []) ≡ Some (Fault fault.NoName)
  pub unknown_property : ends (0xD0 ∷ 0x66 ∷ 4 ∷ 0x29 ∷ 0x47 ∷ []) ≡ Some (Fault fault.NoName)
  pub unknown_type : ends (0xD0 ∷ 0x80 ∷ 4 ∷ 0x29 ∷ 0x47 ∷ []) ≡ Some (Fault fault.NoName)
  -- a property of an int, a property that is read-only, `trace` without a call, an element of a Boolean, an object of what is no class
  pub property_of_int : ends (0x24 ∷ 1 ∷ 0x66 ∷ 3 ∷ 0x29 ∷ 0x47 ∷ []) ≡ Some (Fault fault.WrongKind)
  pub read_only : ends (0xD0 ∷ 0x20 ∷ 0x61 ∷ 5 ∷ 0x47 ∷ []) ≡ Some (Fault fault.WrongKind)
  pub trace_read : ends (0x60 ∷ 3 ∷ 0x29 ∷ 0x47 ∷ []) ≡ Some (Fault fault.WrongKind)
  pub element_of_truth : ends (0x26 ∷ 0x24 ∷ 0 ∷ 0x66 ∷ 9 ∷ 0x29 ∷ 0x47 ∷ []) ≡ Some (Fault fault.WrongKind)
  pub made_of_no_class : ends (0x5D ∷ 3 ∷ 0x4A ∷ 3 ∷ 0 ∷ 0x29 ∷ 0x47 ∷ []) ≡ Some (Fault fault.WrongKind)
  -- what is no listener
  pub no_listener : ends (0xD0 ∷ 0x2C ∷ 5 ∷ 0x20 ∷ 0x4F ∷ 11 ∷ 2 ∷ 0x47 ∷ []) ≡ Some (Fault fault.WrongKind)
  -- too many arguments, and too few
  pub too_many : ends (0xD0 ∷ 0x20 ∷ 0x49 ∷ 1 ∷ 0x47 ∷ []) ≡ Some (Fault fault.WrongCount)
  pub too_few : ends (0xD0 ∷ 0x4F ∷ 11 ∷ 0 ∷ 0x47 ∷ []) ≡ Some (Fault fault.WrongCount)
  -- a method without a body, and a class that is made twice
  pub no_body : ends (0xD0 ∷ 0x4F ∷ 10 ∷ 0 ∷ 0x47 ∷ []) ≡ Some (Fault fault.NotHere)
  pub made_twice : ends (0x60 ∷ 2 ∷ 0x58 ∷ 0 ∷ 0x29 ∷ 0x47 ∷ []) ≡ Some (Fault fault.NotHere)
  pub null_reference : ends (0x20 ∷ 0x66 ∷ 3 ∷ 0x29 ∷ 0x47 ∷ []) ≡ Some (Stopped stop.NullReference)
  pub int_range : ends (0x2D ∷ 1 ∷ 0x24 ∷ 1 ∷ 0xA0 ∷ 0x29 ∷ 0x47 ∷ []) ≡ Some (Stopped stop.IntRange)
  pub not_whole : ends (0x2C ∷ 11 ∷ 0x73 ∷ 0x29 ∷ 0x47 ∷ []) ≡ Some (Stopped stop.NotWhole)
  pub wrong_kind : ends (0x26 ∷ 0x26 ∷ 0xA0 ∷ 0x29 ∷ 0x47 ∷ []) ≡ Some (Stopped stop.Kind)
  pub unknown_state : ends (0xD0 ∷ 0x2C ∷ 5 ∷ 0x61 ∷ 6 ∷ 0x47 ∷ []) ≡ Some (Stopped stop.UnknownState)
  pub array_index : ends (0x56 ∷ 0 ∷ 0x24 ∷ 5 ∷ 0x24 ∷ 1 ∷ 0x61 ∷ 9 ∷ 0x47 ∷ []) ≡ Some (Stopped stop.ArrayIndex)
  pub cycle : ends (0xD0 ∷ 0xD0 ∷ 0x4F ∷ 7 ∷ 1 ∷ 0x47 ∷ []) ≡ Some (Stopped stop.Cycle)
  pub no_child : ends (0xD0 ∷ 0xD0 ∷ 0x4F ∷ 8 ∷ 1 ∷ 0x47 ∷ []) ≡ Some (Stopped stop.NotAChild)
  -- `go` calls itself without end
  pub depth : ends_with 300 (0xD0 ∷ 0x4F ∷ 10 ∷ 0 ∷ 0x47 ∷ []) (body 3 (0xD0 ∷ 0x4F ∷ 10 ∷ 0 ∷ 0x47 ∷ []) ∷ []) ≡ Some (Stopped stop.Depth)
  -- a loop without end: `label`, and back to it
  pub turns_spent : ends (0x09 ∷ 0x10 ∷ 0xFB ∷ 0xFF ∷ 0xFF ∷ []) ≡ Some TurnsSpent
  -- null goes into every type of objects
  pub null_converted : ends (0xD0 ∷ 0x66 ∷ 5 ∷ 0x80 ∷ 2 ∷ 0x29 ∷ 0x47 ∷ []) ≡ Some Ended

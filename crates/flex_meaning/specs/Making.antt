-- Making an object: its constructor runs once it has its number.
use Rattle.std.specs.Prelude.{Bool, List, None, Option, Some, [], false, length, slice_get, true, ◌==◌, ◌∷◌}
use Rattle.flex_base.specs.declared.outcome.Stop.TheVariants as stop
use Rattle.flex_base.specs.declared.value.ObjId.{ObjId}
use Rattle.flex_base.specs.declared.value.Value.{Value}
use Rattle.flex_base.specs.declared.value.Value.TheVariants as value
use Rattle.component_catalog.specs.declared.class.NativeClass.TheVariants as native
use Rattle.flex_world.specs.Classes.{native_descends}
use Rattle.flex_world.specs.declared.kind.Class.{Class}
use Rattle.flex_world.specs.Conversions.{constructor_parameters}
use Rattle.flex_program.specs.Classes.{constructor_of}
use Rattle.flex_program.specs.Program.{Constructor}
use Rattle.flex_meaning.specs.Activities.{Constructs, Context, carry_out}
use Rattle.flex_meaning.specs.Conversions.{method_arguments, native_arguments}
use Rattle.flex_meaning.specs.Dispatch.{set_event}
use Rattle.flex_meaning.specs.Objects.{allocate}
use Rattle.flex_meaning.specs.Results.{Goes, Result, Stuck, bind, choose, done, guarded, need, stops}
use Rattle.flex_meaning.specs.World.{World}

-- the type, and whether it bubbles and can be cancelled
abbrev pub begin_event : ObjId → List Value → World → Result (Unit {0})
begin_event e (kind ∷ bubbles ∷ cancelable ∷ []) w = done (set_event e kind bubbles cancelable w)
begin_event e _ w = Stuck w

abbrev pub lacks_type : List Value → Bool
lacks_type (value.Null ∷ _) = true
lacks_type _ = false

-- a constructor of an event stops at a type that is null
abbrev pub with_type : List Value → World → Result (List Value)
with_type arguments w = choose (lacks_type arguments) (stops stop.NullReference) (Goes arguments) w

module _ (c : Context) where
  abbrev pub constructor_arguments : Option Constructor → List Value → World → Result (List Value)
  constructor_arguments None given w = guarded (length given == 0) (Goes []) w
  constructor_arguments (Some constructor) given w = need (slice_get c.program.methods constructor.method) w (λ m. method_arguments c.program m given w)

  -- arguments of a constructor are counted and converted, and those of a native one tested
  abbrev pub prepare : Class → List Value → World → Result (List Value)
  prepare (Class.Native class) given w = bind (native_arguments c.program (constructor_parameters class) given w) with_type
  prepare (Class.File k) given w = constructor_arguments (constructor_of c.program (Class.File k)) given w

  -- the constructor of a class runs on an object; a native one is no activity
  abbrev pub construct : Class → ObjId → List Value → World → Result (Unit {0})
  construct (Class.Native class) o arguments w = choose (native_descends class native.Event) (begin_event o arguments) done w
  construct (Class.File k) o arguments w = carry_out c (Constructs k o arguments) w

  abbrev pub make : Class → List Value → World → Result ObjId
  make class given w =
      bind (prepare class given w) (λ arguments w1.
      bind (allocate c.program class w1) (λ o w2.
      bind (construct class o arguments w2) (λ _ w3.
      Goes o w3)))

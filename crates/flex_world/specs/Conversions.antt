-- Conversions into the types of places, and the arguments of native calls.
use Rattle.std.specs.Prelude.{Bool, Err, List, None, Ok, Option, Result, Some, [], false, if◌then◌else◌, option_map, suc, true, zero, ℕ, ◌==◌, ◌∷◌}
use Rattle.flex_base.specs.Value.{coerce_text, is_nothing, to_bool, to_int}
use Rattle.flex_base.specs.declared.outcome.Stop.{Stop}
use Rattle.flex_base.specs.declared.outcome.Stop.TheVariants as stop
use Rattle.flex_base.specs.declared.value.ObjId.{ObjId}
use Rattle.flex_base.specs.declared.value.Value.{Value}
use Rattle.flex_base.specs.declared.value.Value.TheVariants as value
use Rattle.component_catalog.specs.Methods.{flag}
use Rattle.component_catalog.specs.declared.class.NativeClass.{NativeClass}
use Rattle.component_catalog.specs.declared.class.NativeClass.TheVariants as native
use Rattle.component_catalog.specs.declared.method.Parameter.{Parameter}
use Rattle.component_catalog.specs.declared.method.Parameter.TheVariants.{Required, Optional, Listener}
use Rattle.component_catalog.specs.declared.value.ValueType.TheVariants as kind
use Rattle.flex_world.specs.Classes.{descends, native_descends}
use Rattle.flex_world.specs.declared.kind.Class.{Class}
use Rattle.flex_world.specs.declared.kind.StaticType.{StaticType}
use Rattle.flex_world.specs.Making.{start_of_type, start_value}
use Rattle.flex_world.specs.Objects.{An_array, Instance_of, Kind, Object, object_at}
use Rattle.flex_world.specs.Operators.{whole}

module _ (bases : List (Option Class)) where
  -- an object of this kind goes into a variable of the type
  abbrev pub is_of_type : StaticType → Kind → Bool
  is_of_type StaticType.Array An_array = true
  is_of_type (StaticType.Object ancestor) (Instance_of class) = descends bases class ancestor
  is_of_type _ _ = false

  abbrev pub object_into : StaticType → ObjId → Object → Result Value Stop
  object_into type o c = if is_of_type type c.kind then Ok (value.Ref o) else Err stop.Kind

  -- into a variable of a type whose values are objects
  abbrev pub into_object : List Object → StaticType → Value → Option (Result Value Stop)
  into_object objects type (value.Ref o) = option_map (object_into type o) (object_at objects o)
  into_object objects type v = Some (if is_nothing v then Ok value.Null else Err stop.Kind)

  -- as into a variable of the type: none where an object isn't there, or the type names no class
  abbrev pub into_type : List Object → StaticType → Value → Option (Result Value Stop)
  into_type objects StaticType.Int v = Some (whole (to_int v))
  into_type objects StaticType.Boolean v = Some (Ok (value.Bool (to_bool v)))
  into_type objects StaticType.String v = Some (coerce_text v)
  into_type objects StaticType.Any v = Some (Ok v)
  into_type objects StaticType.Unnamed v = None
  into_type objects type v = into_object objects type v

  -- the same of a result, where a method may have none
  abbrev pub into_result : List Object → Option StaticType → Value → Option (Result Value Stop)
  into_result objects None v = Some (Ok v)
  into_result objects (Some type) v = into_type objects type v

-- what a body gives that ends without `return`
abbrev pub start_of_result : Option StaticType → Value
start_of_result None = value.Undefined
start_of_result (Some type) = start_of_type type

-- a native call may give so many arguments
abbrev pub accepts : List Parameter → ℕ → Bool
accepts [] n = n == 0
accepts (Optional kind start ∷ parameters) zero = accepts parameters zero
accepts (Required kind ∷ parameters) zero = false
accepts (Listener ∷ parameters) zero = false
accepts (parameter ∷ parameters) (suc n) = accepts parameters n

-- the values of parameters that a call leaves out
abbrev pub left_out : List Parameter → List Value
left_out [] = []
left_out (Optional kind start ∷ parameters) = start_value start ∷ left_out parameters
left_out (_ ∷ parameters) = left_out parameters

-- of an event's constructor: the type, and whether it bubbles and can be cancelled
abbrev pub event_parameters : List Parameter
event_parameters = Required kind.String ∷ flag ∷ flag ∷ []

-- of the constructor of a class of the catalog: only that of an event takes arguments
abbrev pub constructor_parameters : NativeClass → List Parameter
constructor_parameters class = if native_descends class native.Event then event_parameters else []

-- Conversions, and the arguments of calls.
use Rattle.std.specs.Prelude.{List, Option, [], length, ◌==◌, ◌∷◌}
use Rattle.flex_base.specs.declared.value.Value.{Value}
use Rattle.flex_base.specs.declared.value.Value.TheVariants as value
use Rattle.component_catalog.specs.declared.method.Parameter.{Parameter}
use Rattle.component_catalog.specs.declared.method.Parameter.TheVariants.{Required, Optional, Listener}
use Rattle.flex_world.specs.Classes.{static_type}
use Rattle.flex_world.specs.declared.kind.StaticType.{StaticType}
use Rattle.flex_world.specs.Conversions.{accepts, into_result, into_type, left_out}
use Rattle.flex_program.specs.Classes.{bases}
use Rattle.flex_program.specs.Program.{Method, Program}
use Rattle.flex_meaning.specs.Results.{Goes, Result, Stuck, bind, given, guarded, need}
use Rattle.flex_meaning.specs.World.{World}

module _ (p : Program) where
  -- as into a variable of the type
  abbrev pub convert : StaticType → Value → World → Result Value
  convert type v w = need (into_type (bases p) w.objects type v) w (λ r. given r w)

  -- a value that is given back, into the type of the result
  abbrev pub convert_result : Option StaticType → Value → World → Result Value
  convert_result type v w = need (into_result (bases p) w.objects type v) w (λ r. given r w)

  -- arguments into the types of as many parameters, from left to right
  abbrev pub convert_all : List StaticType → List Value → World → Result (List Value)
  convert_all [] [] w = Goes [] w
  convert_all (type ∷ types) (v ∷ vs) w = bind (convert type v w) (λ v1 w1. bind (convert_all types vs w1) (λ vs1 w2. Goes (v1 ∷ vs1) w2))
  convert_all _ _ w = Stuck w

  -- the arguments of a method, which are counted before they are converted
  abbrev pub method_arguments : Method → List Value → World → Result (List Value)
  method_arguments m vs w = guarded (length vs == length m.parameters) (convert_all m.parameters vs) w

  -- into what a parameter of the catalog takes
  abbrev pub into_parameter : Parameter → Value → World → Result Value
  into_parameter (Required kind) v w = convert (static_type kind) v w
  into_parameter (Optional kind start) v w = convert (static_type kind) v w
  into_parameter Listener (value.Listener o m) w = Goes (value.Listener o m) w
  into_parameter Listener v w = Stuck w

  -- arguments from left to right, and behind them the values of parameters that are left out
  abbrev pub into_parameters : List Parameter → List Value → World → Result (List Value)
  into_parameters parameters [] w = Goes (left_out parameters) w
  into_parameters (parameter ∷ parameters) (v ∷ vs) w =
      bind (into_parameter parameter v w) (λ v1 w1. bind (into_parameters parameters vs w1) (λ vs1 w2. Goes (v1 ∷ vs1) w2))
  into_parameters [] (v ∷ vs) w = Stuck w

  -- the arguments of a native call, which are counted before they are converted
  abbrev pub native_arguments : List Parameter → List Value → World → Result (List Value)
  native_arguments parameters vs w = guarded (accepts parameters (length vs)) (into_parameters parameters vs) w

-- The types of what code computes, and what calls take.
use Rattle.std.specs.Prelude.{ℕ, List, map, length, Option, Some, None, Bool, true, false}
use Rattle.std.specs.List.{filter}
use Rattle.component_catalog.specs.declared.value.ValueType.TheVariants as kind
use Rattle.component_catalog.specs.declared.value.ValueType as catalog
use Rattle.component_catalog.specs.declared.method.Parameter.{Parameter}
use Rattle.component_catalog.specs.declared.method.Parameter.TheVariants as parameter
use Rattle.component_catalog.specs.declared.method.NativeMethod.{NativeMethod}
use Rattle.component_catalog.specs.Methods.{parameters_of, result_of}
use Rattle.flex_world.specs.declared.kind.Class.{Class}
use Rattle.flex_world.specs.declared.kind.Class.TheVariants as Class

-- the type of an expression, a variable, a parameter or a result
pub data ValueType : Type 0 where
  Int : ValueType
  Boolean : ValueType
  String : ValueType
  Array : ValueType
  Object : (class : Class) → ValueType
  -- `*`
  Any : ValueType
  -- of `null`
  Nothing : ValueType
  Void : ValueType
  -- of a parameter that takes a listener
  Listener : ValueType
  -- there is none, because another site fails
  Unknown : ValueType

-- a type of the catalog
abbrev pub native_type : catalog.ValueType → ValueType
native_type kind.Int = ValueType.Int
native_type kind.Boolean = ValueType.Boolean
native_type kind.String = ValueType.String
native_type (kind.Object class) = ValueType.Object (Class.Native class)
native_type kind.Any = ValueType.Any

-- what a call has to give, and what it gives back
pub record Signature : Type 0 where
  pub parameters : List ValueType
  -- so many of the last parameters may be left out
  pub optional : ℕ
  pub result : ValueType

abbrev pub parameter_type : Parameter → ValueType
parameter_type (parameter.Required type) = native_type type
parameter_type (parameter.Optional type value) = native_type type
parameter_type parameter.Listener = ValueType.Listener

abbrev pub may_be_left_out : Parameter → Bool
may_be_left_out (parameter.Optional type value) = true
may_be_left_out _ = false

abbrev pub result_type_of : Option catalog.ValueType → ValueType
result_type_of None = ValueType.Void
result_type_of (Some type) = native_type type

-- what a method of the catalog takes and gives
abbrev pub native_signature : NativeMethod → Signature
native_signature m =
    record {
      parameters = map parameter_type (parameters_of m);
      optional = length (filter may_be_left_out (parameters_of m));
      result = result_type_of (result_of m);
    }

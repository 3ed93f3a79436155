-- The methods of the native classes, with their parameters and results.
use Rattle.std.specs.Prelude.{ℕ, List, [], ◌∷◌, false, Option, Some, None, option_map, pos, codes}
use Rattle.std.specs.List.{find}
use Rattle.std.specs.Str.{bytes_eq}
use Rattle.component_catalog.specs.declared.class.NativeClass.{NativeClass}
use Rattle.component_catalog.specs.declared.class.NativeClass.TheVariants as class
use Rattle.component_catalog.specs.declared.value.ValueType.{ValueType}
use Rattle.component_catalog.specs.declared.value.ValueType.TheVariants.{Int, Boolean, String, Object}
use Rattle.component_catalog.specs.declared.value.StartValue.TheVariants as start
use Rattle.component_catalog.specs.declared.method.NativeMethod.{NativeMethod}
use Rattle.component_catalog.specs.declared.method.NativeMethod.TheVariants as method
use Rattle.component_catalog.specs.declared.method.Parameter.{Parameter}
use Rattle.component_catalog.specs.declared.method.Parameter.TheVariants.{Required, Optional, Listener}
use Rattle.component_catalog.specs.declared.method.MethodRow.{MethodRow}
use Rattle.component_catalog.specs.Classes.{lineage, nearest}

-- a row of the table without its name
pub record Row : Type 0 where
  pub method : NativeMethod
  pub parameters : List Parameter
  -- none is `void`
  pub result : Option ValueType

-- the row that the code has
abbrev pub row_of : MethodRow → Row
row_of m = record { method = m.method; parameters = m.parameters.now; result = m.result }

abbrev pub element : ValueType
element = Object class.UIComponent

-- a flag that is false where a call leaves it out
abbrev pub flag : Parameter
flag = Optional Boolean (start.Bool false)

abbrev pub parameters_of : NativeMethod → List Parameter
parameters_of method.AddEventListener = Required String ∷ Listener ∷ flag ∷ Optional Int (start.Int (pos 0)) ∷ []
parameters_of method.RemoveEventListener = Required String ∷ Listener ∷ flag ∷ []
parameters_of method.HasEventListener = Required String ∷ []
parameters_of method.DispatchEvent = Required (Object class.Event) ∷ []
parameters_of method.AddElement = Required element ∷ []
parameters_of method.RemoveElement = Required element ∷ []
parameters_of method.RemoveAllElements = []
parameters_of method.GetElementAt = Required Int ∷ []
parameters_of method.StopPropagation = []
parameters_of method.StopImmediatePropagation = []
parameters_of method.PreventDefault = []
parameters_of method.IsDefaultPrevented = []

abbrev pub result_of : NativeMethod → Option ValueType
result_of method.AddEventListener = None
result_of method.RemoveEventListener = None
result_of method.HasEventListener = Some Boolean
result_of method.DispatchEvent = Some Boolean
result_of method.AddElement = Some element
result_of method.RemoveElement = Some element
result_of method.RemoveAllElements = None
result_of method.GetElementAt = Some element
result_of method.StopPropagation = None
result_of method.StopImmediatePropagation = None
result_of method.PreventDefault = None
result_of method.IsDefaultPrevented = Some Boolean

abbrev pub row : NativeMethod → Row
row m = record { method = m; parameters = parameters_of m; result = result_of m }

pub record NamedMethod : Type 0 where
  pub name : List ℕ
  pub method : NativeMethod

abbrev pub named_method : List ℕ → NativeMethod → NamedMethod
named_method name m = record { name = name; method = m }

abbrev pub container_methods : List NamedMethod
container_methods =
    named_method (codes "addElement") method.AddElement
    ∷ named_method (codes "removeElement") method.RemoveElement
    ∷ named_method (codes "removeAllElements") method.RemoveAllElements
    ∷ named_method (codes "getElementAt") method.GetElementAt
    ∷ []

-- those that a class has beside those of its base
abbrev pub methods : NativeClass → List NamedMethod
methods class.EventDispatcher =
    named_method (codes "addEventListener") method.AddEventListener
    ∷ named_method (codes "removeEventListener") method.RemoveEventListener
    ∷ named_method (codes "hasEventListener") method.HasEventListener
    ∷ named_method (codes "dispatchEvent") method.DispatchEvent
    ∷ []
methods class.SkinnableContainer = container_methods
methods class.Group = container_methods
methods class.Event =
    named_method (codes "stopPropagation") method.StopPropagation
    ∷ named_method (codes "stopImmediatePropagation") method.StopImmediatePropagation
    ∷ named_method (codes "preventDefault") method.PreventDefault
    ∷ named_method (codes "isDefaultPrevented") method.IsDefaultPrevented
    ∷ []
methods _ = []

-- the method of this name that a class has itself
abbrev pub own_method : NativeClass → List ℕ → Option NativeMethod
own_method c name = option_map (λ (m : NamedMethod). m.method) (find (λ (m : NamedMethod). bytes_eq name m.name) (methods c))

-- the row of this name of the nearest class of the chain that has one
abbrev pub method_of : NativeClass → List ℕ → Option Row
method_of c name = option_map row (nearest (λ level. own_method level name) (lineage c))

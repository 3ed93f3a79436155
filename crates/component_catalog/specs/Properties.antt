-- The properties of the native classes, with their starting values.
use Rattle.std.specs.Prelude.{ℕ, List, [], ◌∷◌, ◌++◌, map, true, false, Option, option_map, pos, codes}
use Rattle.std.specs.List.{find}
use Rattle.std.specs.Str.{bytes_eq}
use Rattle.component_catalog.specs.declared.class.NativeClass.{NativeClass}
use Rattle.component_catalog.specs.declared.class.NativeClass.TheVariants as class
use Rattle.component_catalog.specs.declared.value.ValueType.{ValueType}
use Rattle.component_catalog.specs.declared.value.ValueType.TheVariants.{Int, Boolean, String, Object, Any}
use Rattle.component_catalog.specs.declared.value.StartValue.{StartValue}
use Rattle.component_catalog.specs.declared.value.StartValue.TheVariants as start
use Rattle.component_catalog.specs.declared.property.PropertyRow.{PropertyRow}
use Rattle.component_catalog.specs.Classes.{lineage, nearest}

-- a row of the table
pub record Property : Type 0 where
  pub name : List ℕ
  pub row : PropertyRow

-- of a property that code may write and bindings watch
abbrev pub bound : ValueType → StartValue → PropertyRow
bound kind value = record { kind = kind; start = value; read_only = false; bindable = true; public = true }

-- of a property that code can't write and bindings don't watch
abbrev pub fixed : ValueType → StartValue → PropertyRow
fixed kind value = record { kind = kind; start = value; read_only = true; bindable = false; public = true }

-- properties with such a row
abbrev pub each : PropertyRow → List (List ℕ) → List Property
each row names = map (λ name. record { name = name; row = row }) names

abbrev pub element_count : List Property
element_count = each (fixed Int (start.Int (pos 0))) (codes "numElements" ∷ [])

abbrev pub gap : List Property
gap = each (bound Int (start.Int (pos 6))) (codes "gap" ∷ [])

abbrev pub label : List Property
label = each (bound String start.EmptyText) (codes "label" ∷ [])

abbrev pub selected : List Property
selected = each (bound Boolean (start.Bool false)) (codes "selected" ∷ [])

-- those that a class has beside those of its base
abbrev pub properties : NativeClass → List Property
properties class.UIComponent =
    each (bound Boolean (start.Bool true)) (codes "visible" ∷ codes "enabled" ∷ [])
    ++ each (bound Int (start.Int (pos 0)))
    (codes "x" ∷ codes "y" ∷ codes "width" ∷ codes "height" ∷ codes "percentWidth" ∷ codes "percentHeight" ∷ codes "minWidth" ∷ codes "minHeight" ∷ [])
    ++ each (bound String start.Null) (codes "currentState" ∷ [])
    ++ each (fixed (Object class.UIComponent) start.Null) (codes "parent" ∷ [])
properties class.SkinnableContainer = element_count
properties class.Group = element_count
properties class.VGroup = gap
properties class.HGroup = gap
properties class.Panel = each (bound String start.EmptyText) (codes "title" ∷ [])
properties class.Label = each (bound String start.EmptyText) (codes "text" ∷ [])
properties class.Button = label
properties class.ToggleButton = label ++ selected
properties class.CheckBox = label ++ selected
properties class.TextInput = each (bound String start.EmptyText) (codes "text" ∷ []) ++ each (bound Boolean (start.Bool true)) (codes "editable" ∷ [])
properties class.State = each (bound String start.Null) (codes "name" ∷ codes "stateGroups" ∷ [])
properties class.Event =
    each (fixed String start.Null) (codes "type" ∷ [])
    ++ each (fixed Any start.Null) (codes "target" ∷ codes "currentTarget" ∷ [])
    ++ each (fixed Int (start.Int (pos 0))) (codes "eventPhase" ∷ [])
    ++ each (fixed Boolean (start.Bool false)) (codes "bubbles" ∷ codes "cancelable" ∷ [])
properties _ = []

-- the row of this name that a class has itself
abbrev pub own_property : NativeClass → List ℕ → Option PropertyRow
own_property c name = option_map (λ (p : Property). p.row) (find (λ (p : Property). bytes_eq name p.name) (properties c))

-- the row of this name of the nearest class of the chain that has one
abbrev pub property_of : NativeClass → List ℕ → Option PropertyRow
property_of c name = nearest (λ level. own_property level name) (lineage c)

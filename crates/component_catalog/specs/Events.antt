-- The events that the objects of the native classes send.
use Rattle.std.specs.Prelude.{ℕ, List, [], ◌∷◌, true, false, Option, option_map, codes}
use Rattle.std.specs.List.{find}
use Rattle.std.specs.Str.{bytes_eq}
use Rattle.component_catalog.specs.declared.class.NativeClass.{NativeClass}
use Rattle.component_catalog.specs.declared.class.NativeClass.TheVariants as class
use Rattle.component_catalog.specs.declared.event.EventRow.{EventRow}
use Rattle.component_catalog.specs.Classes.{lineage, nearest}

-- a row of the table
pub record Event : Type 0 where
  pub name : List ℕ
  pub row : EventRow

-- of an event that stays at its target and has no default action to prevent
abbrev pub plain : NativeClass → EventRow
plain c = record { «class» = c; bubbles = false; cancelable = false }

abbrev pub click : Event
click = record { name = codes "click"; row = record { «class» = class.MouseEvent; bubbles = true; cancelable = true } }

abbrev pub creation_complete : Event
creation_complete = record { name = codes "creationComplete"; row = plain class.FlexEvent }

abbrev pub current_state_change : Event
current_state_change = record { name = codes "currentStateChange"; row = plain class.Event }

abbrev pub change : Event
change = record { name = codes "change"; row = plain class.Event }

-- those that a class has beside those of its base
abbrev pub events : NativeClass → List Event
events class.UIComponent = click ∷ creation_complete ∷ current_state_change ∷ []
events class.ToggleButton = change ∷ []
events class.CheckBox = change ∷ []
events class.TextInput = change ∷ []
events _ = []

-- the row of this name that a class has itself
abbrev pub own_event : NativeClass → List ℕ → Option EventRow
own_event c name = option_map (λ (e : Event). e.row) (find (λ (e : Event). bytes_eq name e.name) (events c))

-- the row of this name of the nearest class of the chain that has one
abbrev pub event_of : NativeClass → List ℕ → Option EventRow
event_of c name = nearest (λ level. own_event level name) (lineage c)

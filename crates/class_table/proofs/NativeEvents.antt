-- The events that a class of the catalog has itself.
use Rattle.std.proofs.Common.{◌≡◌, ap, refl, Bool, true, false, cond, bytes_eq}
use Rattle.std.specs.Prelude.{Option, Some, None, option_map, is_some, if◌then◌else◌}
use Rattle.std.proofs.lemmas.Slice.Eq.{bytes_eq-Decides}
use Rattle.component_catalog.specs.Classes.{or_else}
use Rattle.component_catalog.specs.Events.{Event, change, event_of, own_event}
use Rattle.component_catalog.specs.declared.class.NativeClass.{NativeClass}
use Rattle.component_catalog.specs.declared.class.NativeClass.TheVariants as class
use Rattle.component_catalog.specs.declared.event.EventRow.{EventRow}
use Rattle.source_sites.specs.Texts.{Text}
use Rattle.class_table.specs.Sent.{inherits_event}

module _ (name : Text) where
  -- what the base has
  either : (y : Option EventRow) → (if is_some y then None else y) ≡ None
  either None = refl
  either (Some r) = refl

  alone : (x y : Option EventRow) → (is_some x ≡ true → y ≡ None) → (if is_some y then None else or_else x y) ≡ x
  alone None y h = either y
  alone (Some r) y h = ap (λ o. if is_some o then None else Some r) (h refl)

  only : (x : Option EventRow) → or_else x None ≡ x
  only None = refl
  only (Some r) = refl

  abbrev changed : Bool → Option EventRow
  changed b = option_map (λ (e : Event). e.row) (cond b (Some change) None)

  is_change : (b : Bool) → bytes_eq name change.name ≡ b → is_some (changed b) ≡ true → event_of class.UIComponent name ≡ None
  is_change true e some = ap (event_of class.UIComponent) ((bytes_eq-Decides name change.name).0 e)
  is_change false e some = absurd (cc)

  of_change : (if is_some (event_of class.UIComponent name) then None else or_else (own_event class.CheckBox name) (event_of class.UIComponent name)) ≡ own_event class.CheckBox name
  of_change = alone (own_event class.CheckBox name) (event_of class.UIComponent name) (is_change (bytes_eq name change.name) refl)

  pub its_own : (c : NativeClass) → (if inherits_event c name then None else event_of c name) ≡ own_event c name
  its_own class.EventDispatcher = refl
  its_own class.UIComponent = only (own_event class.UIComponent name)
  its_own class.SkinnableContainer = either (event_of class.UIComponent name)
  its_own class.Group = either (event_of class.UIComponent name)
  its_own class.VGroup = either (event_of class.UIComponent name)
  its_own class.HGroup = either (event_of class.UIComponent name)
  its_own class.Application = either (event_of class.UIComponent name)
  its_own class.Panel = either (event_of class.UIComponent name)
  its_own class.Label = either (event_of class.UIComponent name)
  its_own class.Button = either (event_of class.UIComponent name)
  its_own class.ToggleButton = of_change
  its_own class.CheckBox = of_change
  its_own class.TextInput = of_change
  its_own class.State = refl
  its_own class.Event = refl
  its_own class.MouseEvent = refl
  its_own class.FlexEvent = refl

-- Which classes of the catalog have a method themselves.
use Rattle.std.specs.Prelude.{Bool, true, false}
use Rattle.component_catalog.specs.declared.class.NativeClass.{NativeClass}
use Rattle.component_catalog.specs.declared.class.NativeClass.TheVariants as class
use Rattle.component_catalog.specs.declared.method.NativeMethod.{NativeMethod}
use Rattle.component_catalog.specs.declared.method.NativeMethod.TheVariants as method

abbrev pub is_of_dispatchers : NativeMethod → Bool
is_of_dispatchers method.AddEventListener = true
is_of_dispatchers method.RemoveEventListener = true
is_of_dispatchers method.HasEventListener = true
is_of_dispatchers method.DispatchEvent = true
is_of_dispatchers _ = false

abbrev pub is_of_containers : NativeMethod → Bool
is_of_containers method.AddElement = true
is_of_containers method.RemoveElement = true
is_of_containers method.RemoveAllElements = true
is_of_containers method.GetElementAt = true
is_of_containers _ = false

abbrev pub is_of_events : NativeMethod → Bool
is_of_events method.StopPropagation = true
is_of_events method.StopImmediatePropagation = true
is_of_events method.PreventDefault = true
is_of_events method.IsDefaultPrevented = true
is_of_events _ = false

abbrev pub declares_method : NativeClass → NativeMethod → Bool
declares_method class.EventDispatcher m = is_of_dispatchers m
declares_method class.SkinnableContainer m = is_of_containers m
declares_method class.Group m = is_of_containers m
declares_method class.Event m = is_of_events m
declares_method _ m = false

-- The classes one by one.
use Rattle.std.proofs.Common.{◌≡◌, ◌∷◌, Contains, refl, lit<}
use Rattle.component_catalog.specs.declared.class.NativeClass.{NativeClass}
use Rattle.component_catalog.specs.declared.class.NativeClass.TheVariants as class
use Rattle.component_catalog.specs.Classes.{classes, base_of, lineage, lineage_from}

-- a lineage is a class, and the lineage of its base
pub lineage_goes_up : (c : NativeClass) → lineage c ≡ c ∷ lineage_from (base_of c)
lineage_goes_up class.EventDispatcher = refl
lineage_goes_up class.UIComponent = refl
lineage_goes_up class.SkinnableContainer = refl
lineage_goes_up class.Group = refl
lineage_goes_up class.VGroup = refl
lineage_goes_up class.HGroup = refl
lineage_goes_up class.Application = refl
lineage_goes_up class.Panel = refl
lineage_goes_up class.Label = refl
lineage_goes_up class.Button = refl
lineage_goes_up class.ToggleButton = refl
lineage_goes_up class.CheckBox = refl
lineage_goes_up class.TextInput = refl
lineage_goes_up class.State = refl
lineage_goes_up class.Event = refl
lineage_goes_up class.MouseEvent = refl
lineage_goes_up class.FlexEvent = refl

-- each class is in the list
pub listed : (c : NativeClass) → Contains classes c
listed class.EventDispatcher = (0, lit< tt, refl)
listed class.UIComponent = (1, lit< tt, refl)
listed class.SkinnableContainer = (2, lit< tt, refl)
listed class.Group = (3, lit< tt, refl)
listed class.VGroup = (4, lit< tt, refl)
listed class.HGroup = (5, lit< tt, refl)
listed class.Application = (6, lit< tt, refl)
listed class.Panel = (7, lit< tt, refl)
listed class.Label = (8, lit< tt, refl)
listed class.Button = (9, lit< tt, refl)
listed class.ToggleButton = (10, lit< tt, refl)
listed class.CheckBox = (11, lit< tt, refl)
listed class.TextInput = (12, lit< tt, refl)
listed class.State = (13, lit< tt, refl)
listed class.Event = (14, lit< tt, refl)
listed class.MouseEvent = (15, lit< tt, refl)
listed class.FlexEvent = (16, lit< tt, refl)

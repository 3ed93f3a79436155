-- The classes of the catalog, by computation.
use Rattle.std.proofs.Common.{◌≡◌, ◌∷◌, map, refl}
use Rattle.std.specs.List.{flat_map}
use Rattle.component_catalog.specs.Classes.{base_of, lineage, lineage_from}
use Rattle.component_catalog.specs.Properties.{Property, properties}
use Rattle.component_catalog.specs.declared.class.NativeClass.{NativeClass}
use Rattle.component_catalog.specs.declared.class.NativeClass.TheVariants as class
use Rattle.flex_world.specs.Making.{native_fields}
use Rattle.avm2_resolver.specs.Natives.{fields_named}

-- the names of its own properties give the fields
pub fields_by_name : (c : NativeClass) → flat_map (fields_named c) (map (λ (p : Property). p.name) (properties c)) ≡ native_fields c
fields_by_name class.EventDispatcher = refl
fields_by_name class.UIComponent = refl
fields_by_name class.SkinnableContainer = refl
fields_by_name class.Group = refl
fields_by_name class.VGroup = refl
fields_by_name class.HGroup = refl
fields_by_name class.Application = refl
fields_by_name class.Panel = refl
fields_by_name class.Label = refl
fields_by_name class.Button = refl
fields_by_name class.ToggleButton = refl
fields_by_name class.CheckBox = refl
fields_by_name class.TextInput = refl
fields_by_name class.State = refl
fields_by_name class.Event = refl
fields_by_name class.MouseEvent = refl
fields_by_name class.FlexEvent = refl

-- above a class stand its base and what is above that
pub lineage_up : (c : NativeClass) → lineage c ≡ c ∷ lineage_from (base_of c)
lineage_up class.EventDispatcher = refl
lineage_up class.UIComponent = refl
lineage_up class.SkinnableContainer = refl
lineage_up class.Group = refl
lineage_up class.VGroup = refl
lineage_up class.HGroup = refl
lineage_up class.Application = refl
lineage_up class.Panel = refl
lineage_up class.Label = refl
lineage_up class.Button = refl
lineage_up class.ToggleButton = refl
lineage_up class.CheckBox = refl
lineage_up class.TextInput = refl
lineage_up class.State = refl
lineage_up class.Event = refl
lineage_up class.MouseEvent = refl
lineage_up class.FlexEvent = refl

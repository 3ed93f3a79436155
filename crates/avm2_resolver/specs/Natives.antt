-- The property that objects keep under a name, by a class of the catalog.
use Rattle.std.specs.Prelude.{List, None, Option, Some, [], if◌then◌else◌, ℕ, ◌∷◌}
use Rattle.component_catalog.specs.Properties.{property_of}
use Rattle.component_catalog.specs.declared.class.NativeClass.{NativeClass}
use Rattle.component_catalog.specs.declared.property.PropertyRow.{PropertyRow}
use Rattle.flex_world.specs.Making.{is_computed, native_field}
use Rattle.flex_world.specs.Objects.{Field}

abbrev pub fields_by : List ℕ → Option PropertyRow → List Field
fields_by name None = []
fields_by name (Some row) = native_field (record { name = name; row = row }) ∷ []

-- it, or nothing
abbrev pub fields_named : NativeClass → List ℕ → List Field
fields_named class name = if is_computed name then [] else fields_by name (property_of class name)

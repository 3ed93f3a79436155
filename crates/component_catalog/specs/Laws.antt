-- What holds of the whole table.
use Rattle.std.specs.Prelude.{◌≡◌, ℕ, List, [], ◌∷◌, ◌++◌, map, Bool, true, false, not, ◌&&◌, Some, Contains}
use Rattle.std.specs.List.{list_all, list_any, flat_map}
use Rattle.std.specs.Str.{bytes_eq}
use Rattle.component_catalog.specs.declared.class.NativeClass.{NativeClass}
use Rattle.component_catalog.specs.declared.class.NativeClass.TheVariants as class
use Rattle.component_catalog.specs.declared.value.ValueType.{ValueType}
use Rattle.component_catalog.specs.declared.value.ValueType.TheVariants.{Int, Boolean, String, Object, Any}
use Rattle.component_catalog.specs.declared.value.StartValue.{StartValue}
use Rattle.component_catalog.specs.declared.value.StartValue.TheVariants as start
use Rattle.component_catalog.specs.declared.method.Parameter.{Parameter}
use Rattle.component_catalog.specs.declared.method.Parameter.TheVariants.{Optional}
use Rattle.component_catalog.specs.Classes.{classes, name_of, base_of, lineage, lineage_from, class_named}
use Rattle.component_catalog.specs.Properties.{Property, properties}
use Rattle.component_catalog.specs.Events.{Event, events}
use Rattle.component_catalog.specs.Methods.{NamedMethod, methods, parameters_of}

-- no class is missing
abbrev pub IsListed : Type 0
IsListed = (c : NativeClass) → Contains classes c

-- each class is found by its name, so no two have one
abbrev pub IsFoundByName : Type 0
IsFoundByName = (c : NativeClass) → class_named (name_of c) ≡ Some c

-- a lineage is a class, and the lineage of its base: so the chain of bases ends, and none of it is missing
abbrev pub GoesUp : Type 0
GoesUp = (c : NativeClass) → lineage c ≡ c ∷ lineage_from (base_of c)

-- the names of all rows of a class and its ancestors
abbrev pub names_along : NativeClass → List (List ℕ)
names_along c =
    flat_map (λ level. map (λ (p : Property). p.name) (properties level) ++ map (λ (e : Event). e.name) (events level) ++ map (λ (m : NamedMethod). m.name) (methods level)) (lineage c)

abbrev pub are_distinct : List (List ℕ) → Bool
are_distinct [] = true
are_distinct (name ∷ others) = not (list_any (bytes_eq name) others) && are_distinct others

abbrev pub has_distinct_names : NativeClass → Bool
has_distinct_names c = are_distinct (names_along c)

-- whether a value is of a type
abbrev pub fits : StartValue → ValueType → Bool
fits (start.Int n) Int = true
fits (start.Bool b) Boolean = true
fits start.EmptyText String = true
fits start.Null String = true
fits start.Null (Object c) = true
fits start.Null Any = true
fits _ _ = false

abbrev pub has_fitting_default : Parameter → Bool
has_fitting_default (Optional kind value) = fits value kind
has_fitting_default _ = true

-- the starting values of its properties, and those of the parameters of its methods
abbrev pub has_fitting_values : NativeClass → Bool
has_fitting_values c =
    list_all (λ (p : Property). fits p.row.start p.row.kind) (properties c)
    && list_all (λ (m : NamedMethod). list_all has_fitting_default (parameters_of m.method)) (methods c)

abbrev pub is_event : NativeClass → Bool
is_event class.Event = true
is_event _ = false

-- the class of each of its events is Event, or extends it
abbrev pub sends_events : NativeClass → Bool
sends_events c = list_all (λ (e : Event). list_any is_event (lineage e.row.class)) (events c)

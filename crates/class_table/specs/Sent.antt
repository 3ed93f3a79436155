-- The events that objects of a class send, by the table that the code keeps.
use Rattle.std.specs.Prelude.{Bool, false, Option, Some, None, option_map, is_some}
use Rattle.component_catalog.specs.Classes.{base_of}
use Rattle.component_catalog.specs.Events as catalog
use Rattle.component_catalog.specs.declared.class.NativeClass.{NativeClass}
use Rattle.flex_world.specs.Classes as world
use Rattle.flex_world.specs.declared.kind.Class.{Class}
use Rattle.source_sites.specs.LookUps as look_ups
use Rattle.source_sites.specs.Members as members
use Rattle.source_sites.specs.Texts.{Text}
use Rattle.as3_types.specs.declared.table.ClassTable.{ClassTable}
use Rattle.as3_types.specs.Tables.{table_of}

abbrev pub class_in : Option members.Event → Option Class
class_in e = option_map (λ (e : members.Event). e.«class») e

module _ (table : ClassTable) (class : Class) (name : Text) where
  -- by the class itself, by the nearest class from it upward, and of objects that dispatch events
  abbrev pub event_declared_by : Option Class
  event_declared_by = class_in (look_ups.event_named name (look_ups.own_events (table_of table) class))

  abbrev pub event_above : Option Class
  event_above = class_in (look_ups.event_among (table_of table) name (world.lineage_in (table_of table).bases class))

  abbrev pub event_sent : Option Class
  event_sent = class_in (look_ups.event_of (table_of table) class name)

-- whether a class of the catalog has an event of this name
abbrev pub has_event : Text → Option NativeClass → Bool
has_event name None = false
has_event name (Some c) = is_some (catalog.event_of c name)

-- whether its base has one
abbrev pub inherits_event : NativeClass → Text → Bool
inherits_event c name = has_event name (base_of c)

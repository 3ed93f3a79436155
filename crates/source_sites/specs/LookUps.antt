-- Look-ups in the class table.
use Rattle.std.specs.Prelude.{List, [], ◌∷◌, ◌++◌, map, Bool, true, if◌then◌else◌, Option, Some, None, option_map, option_and_then, bytes_eq}
use Rattle.std.specs.List.{find}
use Rattle.as3_parser.specs.declared.tree.Modifier.{Modifier}
use Rattle.as3_parser.specs.declared.tree.Modifier.TheVariants as modifier
use Rattle.component_catalog.specs.declared.class.NativeClass.TheVariants as native
use Rattle.component_catalog.specs.Classes.{or_else}
use Rattle.component_catalog.specs.Properties as catalog_properties
use Rattle.component_catalog.specs.Properties.{properties}
use Rattle.component_catalog.specs.Events as catalog_events
use Rattle.component_catalog.specs.Events.{events}
use Rattle.component_catalog.specs.Methods.{NamedMethod, methods}
use Rattle.flex_world.specs.Classes.{same_class, lineage_in, descends, descends_from}
use Rattle.flex_world.specs.declared.kind.Class.{Class}
use Rattle.flex_world.specs.declared.kind.Class.TheVariants as Class
use Rattle.source_sites.specs.Texts.{Text}
use Rattle.source_sites.specs.Types.{native_type, native_signature}
use Rattle.source_sites.specs.Members.{Property, Kind, Owned, Found, Event, Table, A_property, A_method, nth_list}

abbrev pub native_member : catalog_properties.Property → Owned
native_member p =
    record {
      name = p.name;
      access = modifier.Public;
      kind = A_property (record { name = p.name; type = native_type p.row.kind; read_only = p.row.read_only; bindable = p.row.bindable; native = true });
    }

abbrev pub native_function : NamedMethod → Owned
native_function m =
    record { name = m.name; access = modifier.Public; kind = A_method (record { name = m.name; signature = native_signature m.method; native = true }) }

abbrev pub native_event : catalog_events.Event → Event
native_event e = record { name = e.name; class = Class.Native e.row.«class» }

abbrev pub property_in : Kind → Option Property
property_in (A_property p) = Some p
property_in (A_method m) = None

abbrev pub member_named : Text → List Owned → Option Owned
member_named name members = find (λ (m : Owned). bytes_eq m.name name) members

abbrev pub event_named : Text → List Event → Option Event
event_named name es = find (λ (e : Event). bytes_eq e.name name) es

module _ (t : Table) where
  abbrev pub own_members : Class → List Owned
  own_members (Class.Native class) = map native_member (properties class) ++ map native_function (methods class)
  own_members (Class.File k) = nth_list t.members k

  abbrev pub member_among : Text → List Class → Option Found
  member_among name [] = None
  member_among name (class ∷ classes) =
      or_else (option_map (λ (m : Owned). record { owner = class; member = m }) (member_named name (own_members class))) (member_among name classes)

  -- the member of the nearest class, from this one upward, that has the name
  abbrev pub member_of : Class → Text → Option Found
  member_of class name = member_among name (lineage_in t.bases class)

  -- a private member is seen in its class, a protected one in its class and descendants
  abbrev pub is_seen : Class → Modifier → Class → Bool
  is_seen owner modifier.Private from = same_class owner from
  is_seen owner modifier.Protected from = descends t.bases from owner
  is_seen owner _ from = true

  abbrev pub if_seen : Class → Option Found → Option Found
  if_seen from None = None
  if_seen from (Some f) = if is_seen f.owner f.member.access from then Some f else None

  -- the property that a name stands for in a class, where code of another may see it
  abbrev pub property_seen : Class → Class → Text → Option Property
  property_seen from class name = option_and_then (λ (f : Found). property_in f.member.kind) (if_seen from (member_of class name))

  abbrev pub own_events : Class → List Event
  own_events (Class.Native class) = map native_event (events class)
  own_events (Class.File k) = nth_list t.events k

  abbrev pub event_among : Text → List Class → Option Event
  event_among name [] = None
  event_among name (class ∷ classes) = or_else (event_named name (own_events class)) (event_among name classes)

  -- the nearest declaration of an event, for a class whose objects dispatch events
  abbrev pub event_of : Class → Text → Option Event
  event_of class name = if descends_from t.bases native.EventDispatcher class then event_among name (lineage_in t.bases class) else None

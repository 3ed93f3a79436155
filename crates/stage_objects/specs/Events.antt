-- Events and their listeners.
use Rattle.std.specs.Option.{option_map_or}
use Rattle.std.specs.Prelude.{Bool, List, Option, codes, false, if◌then◌else◌, option_map, ℕ}
use Rattle.flex_base.specs.declared.value.ObjId.{ObjId}
use Rattle.flex_base.specs.declared.value.Value.{Value}
use Rattle.flex_base.specs.declared.value.Value.TheVariants as value
use Rattle.flex_world.specs.Events.{closed_delivery, opened_delivery}
use Rattle.flex_world.specs.Objects.{Delivery, Object, Registration, count, is_true, property, with_value}
use Rattle.flex_objects.specs.Entities.{Entity}
use Rattle.stage_objects.specs.Entities.{change_in, object_in}

abbrev pub with_property : List ℕ → Value → Object → Object
with_property key v c = record c { fields = with_value key v c.fields }

abbrev pub with_delivery : (Delivery → Delivery) → Object → Object
with_delivery f c = record c { delivery = f c.delivery }

-- its type, and whether it bubbles and can be cancelled
abbrev pub initialised : List ℕ → Bool → Bool → Object → Object
initialised kind bubbles cancelable c =
    with_property (codes "cancelable") (value.Bool cancelable) (with_property (codes "bubbles") (value.Bool bubbles) (with_property (codes "type") (value.Text kind) c))

-- how far its dispatch has come
abbrev pub delivery_in : ObjId → List Entity → Option Delivery
delivery_in e entities = option_map (λ (c : Object). c.delivery) (object_in e entities)

abbrev pub dispatched_in : ObjId → List Entity → Bool
dispatched_in e entities = option_map_or (λ (d : Delivery). d.dispatched) (delivery_in e entities) false

abbrev pub is_cancelable : Object → Bool
is_cancelable c = is_true (property c (codes "cancelable"))

abbrev pub opened : ObjId → Object → Object
opened target c = with_property (codes "target") (value.Ref target) (with_delivery (opened_delivery (is_cancelable c)) c)

-- its dispatch at a target begins, unless it was dispatched before
abbrev pub started_in : ObjId → ObjId → List Entity → List Entity
started_in e target entities = if dispatched_in e entities then entities else change_in e (opened target) entities

abbrev pub arrived : Value → ℕ → Object → Object
arrived node phase c = with_property (codes "eventPhase") (count phase) (with_property (codes "currentTarget") node c)

abbrev pub closed : Object → Object
closed c = arrived value.Null 0 (with_delivery closed_delivery c)

abbrev pub with_listeners : (List Registration → List Registration) → Object → Object
with_listeners f c = record c { listeners = f c.listeners }

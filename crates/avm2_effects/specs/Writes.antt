-- What a write has to know of a property.
use Rattle.std.specs.Prelude.{Bool, List, None, Option, Some, if◌then◌else◌, not, option_map, ℕ, ◌||◌}
use Rattle.avm2_effects.specs.declared.targets.Target.{Target}
use Rattle.avm2_meaning.specs.Properties.{into_slot, store, store_field}
use Rattle.avm2_meaning.specs.Results.{Goes, Result, bind, choose, inside, need, on, or_fault, test}
use Rattle.avm2_meaning.specs.States.{request}
use Rattle.avm2_meaning.specs.declared.effect.Effect.{Effect}
use Rattle.avm2_meaning.specs.declared.heap.Heap.{Heap}
use Rattle.avm2_meaning.specs.declared.operand.Operand.{Operand}
use Rattle.avm2_program.specs.declared.file.Program.{Program}
use Rattle.flex_base.specs.declared.outcome.MachineFault.TheVariants as fault
use Rattle.flex_base.specs.declared.record.TraceItem.{TraceItem}
use Rattle.flex_base.specs.declared.record.TraceItem.TheVariants as trace
use Rattle.flex_base.specs.declared.value.ObjId.{ObjId}
use Rattle.flex_base.specs.declared.value.Value.{Value}
use Rattle.flex_world.specs.Objects.{Field, field_named, is_state_field}
use Rattle.flex_world.specs.declared.kind.StaticType.{StaticType}

-- the name of a public or bindable property, whose writes are recorded
abbrev pub recorded_text : Bool → Bool → List ℕ → Option (List ℕ)
recorded_text public bindable text = if public || bindable then Some text else None

abbrev pub target_of : Field → Target
target_of f = record { kind = f.type; read_only = f.read_only; is_state = is_state_field f; text = recorded_text f.public f.bindable f.text }

abbrev pub target : ObjId → List ℕ → Heap → Result Target
target o key h = on o h (λ c. or_fault fault.WrongKind (option_map target_of (field_named key c.fields)) h (λ t. Goes t h))

-- a property that has to be there
abbrev pub kept_target : ObjId → List ℕ → Heap → Result Target
kept_target o key h = on o h (λ c. need (option_map target_of (field_named key c.fields)) h (λ t. Goes t h))

-- writes a value to it, as it is
abbrev pub store_at : ObjId → List ℕ → Value → Heap → Result Effect
store_at o key v h = on o h (λ c. need (field_named key c.fields) h (λ f. store_field o f v h))

abbrev pub field_type : Field → StaticType
field_type f = f.type

abbrev pub hidden_type : ObjId → List ℕ → Heap → Result StaticType
hidden_type o key h = inside o h (λ i. need (option_map field_type (field_named key i.hidden)) h (λ type. Goes type h))

-- the record of a write, where it makes one
abbrev pub item_at : ObjId → Value → Option (List ℕ) → Option TraceItem
item_at o v text = option_map (λ t. trace.Written o t v) text

-- a property that asks for a state, or is stored
abbrev pub write_as : ObjId → List ℕ → Target → Value → Heap → Result Effect
write_as o key t v h = choose t.is_state (request o v) (store o key v (item_at o v t.text)) h

-- a value is converted, and then written; some properties can't be
abbrev pub write_target : Program → ObjId → List ℕ → Target → Operand → Heap → Result Effect
write_target p o key t v h =
    bind (test fault.WrongKind (not t.read_only) h) (λ _ h1. bind (into_slot p t.kind v h1) (λ v1 h2. write_as o key t v1 h2))

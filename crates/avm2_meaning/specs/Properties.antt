-- Reading and writing what a name is at a value.
use Rattle.std.specs.Option.{option_map_or}
use Rattle.std.specs.Prelude.{Bool, List, None, Option, Some, [], false, if◌then◌else◌, map, option_and_then, slice_get, true, ℕ, ◌||◌, ◌∷◌}
use Rattle.avm2_program.specs.declared.member.Member.{Member}
use Rattle.avm2_program.specs.declared.file.Program.{Program}
use Rattle.avm2_program.specs.declared.member.TraitPlace.{TraitPlace}
use Rattle.flex_base.specs.Lists.{changed_at}
use Rattle.flex_base.specs.Value.{length_of}
use Rattle.flex_base.specs.declared.outcome.MachineFault.TheVariants as fault
use Rattle.flex_base.specs.declared.record.TraceItem.{TraceItem}
use Rattle.flex_base.specs.declared.record.TraceItem.TheVariants as trace
use Rattle.flex_base.specs.declared.value.ObjId.{ObjId}
use Rattle.flex_base.specs.declared.value.Value.{Value}
use Rattle.flex_base.specs.declared.value.Value.TheVariants as value
use Rattle.flex_world.specs.declared.kind.StaticType.{StaticType}
use Rattle.flex_world.specs.Objects.{Field, Watcher, can_be_written, count, field_named, is_state_field, watcher}
use Rattle.ui_runtime.specs.Arrays.{array_length}
use Rattle.ui_runtime.specs.Properties.{reads, writes}
use Rattle.ui_runtime.specs.declared.writing.Written.{Written}
use Rattle.ui_runtime.specs.declared.writing.Written.TheVariants.{Changed, Equal, Silent}
use Rattle.avm2_meaning.specs.Conversions.{convert}
use Rattle.avm2_meaning.specs.Effects.{effect, nothing, silent}
use Rattle.avm2_meaning.specs.declared.effect.Effect.{Effect}
use Rattle.avm2_meaning.specs.declared.effect.Next.{Next}
use Rattle.avm2_meaning.specs.declared.effect.Next.TheVariants as Next
use Rattle.avm2_meaning.specs.declared.frame.Native.{Native}
use Rattle.avm2_meaning.specs.declared.frame.Native.TheVariants as Native
use Rattle.avm2_meaning.specs.Heap.{change_statics_of, has_place, is_written_in, statics_of}
use Rattle.avm2_meaning.specs.declared.heap.Heap.{Heap}
use Rattle.avm2_meaning.specs.declared.heap.Statics.{Statics}
use Rattle.avm2_meaning.specs.Operands.{class_value, file_type, is_class}
use Rattle.avm2_meaning.specs.declared.operand.Operand.{Operand}
use Rattle.avm2_meaning.specs.declared.operand.Operand.TheVariants.{ClassValue, Plain}
use Rattle.avm2_meaning.specs.Results.{Goes, Result, bind, choose, faults, inside, lacks, need, on, plain, test}
use Rattle.avm2_meaning.specs.States.{request}

-- the places for classes that were written at a value
abbrev pub is_written_at : Operand → TraitPlace → Heap → Bool
is_written_at (Plain (value.Ref o)) place h = is_written_in o place h.written
is_written_at holder place h = option_map_or (λ (s : Statics). has_place place s.written) (statics_of holder h) false

-- a place for a class holds null before it is written
abbrev pub class_at : ℕ → Bool → Operand
class_at class true = class_value class
class_at class false = Plain value.Null

abbrev pub read_property : List ℕ → Operand → Heap → Result Operand
read_property key (Plain (value.Ref o)) h = need (reads o key h.stage) h (λ v. Goes (Plain v) h)
read_property key _ h = lacks h

abbrev pub read_own_slot : ℕ → Operand → Heap → Result Operand
read_own_slot n holder h = need (option_and_then (λ (s : Statics). slice_get s.slots n) (statics_of holder h)) h (λ v. Goes (Plain v) h)

-- a method that is read as a property of an object
abbrev pub take_method : ℕ → Operand → Heap → Result Operand
take_method m (Plain (value.Ref o)) h = Goes (Plain (value.Listener o m)) h
take_method m _ h = faults fault.WrongKind h

abbrev pub length_of_array : Operand → Heap → Result Operand
length_of_array (Plain (value.Ref o)) h = on o h (λ _. Goes (Plain (value.Int (array_length o h.stage))) h)
length_of_array _ h = lacks h

abbrev pub length_of_text : Operand → Heap → Result Operand
length_of_text (Plain (value.Text text)) h = Goes (Plain (count (length_of text))) h
length_of_text _ h = lacks h

-- reads what a name is at a holder
abbrev pub read : Operand → Member → Heap → Result Operand
read holder (Member.Slot key) h = read_property key holder h
read holder (Member.HiddenSlot key) h = read_property key holder h
read holder (Member.OwnSlot n type) h = read_own_slot n holder h
read holder (Member.ClassTrait place class) h = Goes (class_at class (is_written_at holder place h)) h
read holder (Member.Written m) h = take_method m holder h
read holder Member.Unplayed h = faults fault.NotHere h
read holder Member.ArrayLength h = length_of_array holder h
read holder Member.TextLength h = length_of_text holder h
read holder (Member.ClassOf type) h = Goes (ClassValue type) h
read holder _ h = faults fault.WrongKind h

-- public and bindable properties are recorded
abbrev pub written_item : ObjId → Field → Value → Option TraceItem
written_item o f v = if f.public || f.bindable then Some (trace.Written o f.text v) else None

abbrev pub watcher_of : ObjId × ℕ → Watcher
watcher_of pair = watcher pair.0 pair.1

-- bindings are to start, if there are any
abbrev pub starting_all : List Watcher → Next
starting_all [] = Next.On
starting_all (b ∷ bindings) = Next.Opens (Native.Starts (record { running = None; bindings = b ∷ bindings }))

-- a value was written, or was there already: it is recorded, and then the affected bindings start
abbrev pub stored_as : Written → Option TraceItem → Effect
stored_as Equal item = silent Next.On
stored_as Silent item = effect Next.On item
stored_as (Changed bindings) item = effect (starting_all (map watcher_of bindings)) item

-- writes a property that an object keeps; a value that equals the old one by `===` changes nothing
abbrev pub store : ObjId → List ℕ → Value → Option TraceItem → Heap → Result Effect
store o key v item h = Goes (stored_as (writes o key v h.stage).0 item) (record h { stage = (writes o key v h.stage).1 })

abbrev pub store_field : ObjId → Field → Value → Heap → Result Effect
store_field o f v h = store o f.name v (written_item o f v) h

-- marks the place for a class as written
abbrev pub mark_written : Operand → TraitPlace → Heap → Heap
mark_written (Plain (value.Ref o)) place h = record h { written = record { object = o; place = place } ∷ h.written }
mark_written holder place h = change_statics_of holder (λ s. record s { written = place ∷ s.written }) h

-- a place for a class takes that class alone
abbrev pub write_class : Operand → TraitPlace → ℕ → Operand → Heap → Result Effect
write_class holder place class v h = bind (test fault.WrongKind (is_class (file_type class) v) h) (λ _ h1. nothing (mark_written holder place h1))

abbrev pub set_own_slot : Operand → ℕ → Value → Heap → Heap
set_own_slot holder n v h = change_statics_of holder (λ s. record s { slots = changed_at (λ _. v) s.slots n }) h

module _ (p : Program) where
  -- a value for a slot is converted into its type
  abbrev pub into_slot : StaticType → Operand → Heap → Result Value
  into_slot type v h = bind (convert p type v h) (λ v1 h1. plain v1 h1)

  -- a hidden slot makes no record
  abbrev pub write_hidden : Operand → List ℕ → Operand → Heap → Result Effect
  write_hidden (Plain (value.Ref o)) key v h =
      inside o h (λ i. need (field_named key i.hidden) h (λ f. bind (into_slot f.type v h) (λ v1 h1. store o key v1 None h1)))
  write_hidden _ key v h = lacks h

  -- slots of classes and scripts make no records
  abbrev pub write_own_slot : Operand → ℕ → StaticType → Operand → Heap → Result Effect
  write_own_slot holder n type v h = bind (into_slot type v h) (λ v1 h1. nothing (set_own_slot holder n v1 h1))

  -- `currentState` is asked for
  abbrev pub write_field : ObjId → Field → Value → Heap → Result Effect
  write_field o f v h = choose (is_state_field f) (request o v) (store_field o f v) h

  -- a property that isn't read-only
  abbrev pub write_kept : ObjId → Option Field → Operand → Heap → Result Effect
  write_kept o None v h = faults fault.WrongKind h
  write_kept o (Some f) v h =
      bind (test fault.WrongKind (can_be_written f) h) (λ _ h1. bind (into_slot f.type v h1) (λ v1 h2. write_field o f v1 h2))

  abbrev pub write_property : Operand → List ℕ → Operand → Heap → Result Effect
  write_property (Plain (value.Ref o)) key v h = on o h (λ c. write_kept o (field_named key c.fields) v h)
  write_property _ key v h = lacks h

  -- writes what a name is at a holder
  abbrev pub write : Operand → Member → Operand → Heap → Result Effect
  write holder (Member.Slot key) v h = write_property holder key v h
  write holder (Member.HiddenSlot key) v h = write_hidden holder key v h
  write holder (Member.OwnSlot n type) v h = write_own_slot holder n type v h
  write holder (Member.ClassTrait place class) v h = write_class holder place class v h
  write holder Member.Unplayed v h = faults fault.NotHere h
  write holder _ v h = faults fault.WrongKind h

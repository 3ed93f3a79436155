-- Properties are read and written by their keys.
use Rattle.std.specs.Prelude.{List, Option, Some, option_and_then, ℕ}
use Rattle.flex_base.specs.declared.value.ObjId.{ObjId}
use Rattle.flex_base.specs.declared.value.Value.{Value}
use Rattle.component_catalog.specs.declared.class.NativeClass.{NativeClass}
use Rattle.flex_world.specs.declared.kind.Class.{Class}
use Rattle.flex_world.specs.Objects.{object_class}
use Rattle.flex_objects.specs.Entities.{Inside, after_write_in, stored_in, value_of}
use Rattle.flex_objects.specs.declared.properties.Stored.{Stored}
use Rattle.flex_objects.specs.declared.properties.Stored.TheVariants as stored
use Rattle.watch_table.specs.Affected.{affected}
use Rattle.ui_runtime.specs.Stage.{Stage, change_entity, entity_at, held, inside_at, object_at}
use Rattle.ui_runtime.specs.declared.writing.Written.{Written}
use Rattle.ui_runtime.specs.declared.writing.Written.TheVariants.{Changed, Equal, Silent}

-- the value of the property of a key, hidden or not
abbrev pub reads : ObjId → List ℕ → Stage → Option Value
reads o key s = option_and_then (value_of key) (entity_at o s)

abbrev pub class_at : ObjId → Stage → Option Class
class_at o s = option_and_then object_class (object_at o s)

abbrev pub native_at : ObjId → Stage → Option NativeClass
native_at o s = option_and_then (λ (i : Inside). i.native) (inside_at o s)

-- what a write comes to: nothing where the value equals the old one by `===`; else it is stored, and the bindings that it affects are told
abbrev pub written_as : ObjId → List ℕ → Option Stored → Stage → Written
written_as o key (Some stored.Silent) s = Silent
written_as o key (Some stored.Watched) s = Changed (affected (held s) o key s.watched)
written_as o key _ s = Equal

abbrev pub with_written : ObjId → List ℕ → Value → Stage → Stage
with_written o key v s = change_entity o (after_write_in key v) s

-- the affected bindings are those of the stage in which the value is stored
abbrev pub writes : ObjId → List ℕ → Value → Stage → Written × Stage
writes o key v s = (written_as o key (option_and_then (stored_in key v) (entity_at o s)) (with_written o key v s), with_written o key v s)

-- Parts of a conversion into a type whose values are objects.
use Rattle.std.specs.Prelude.{option_map}
use Rattle.flex_base.specs.declared.value.ObjId.{ObjId}
use Rattle.flex_base.specs.declared.value.Value.{Value}
use Rattle.flex_world.specs.Conversions.{into_object, object_into}
use Rattle.flex_world.specs.Objects.{object_at}
use Rattle.flex_world.specs.declared.kind.StaticType.{StaticType}
use Rattle.ui_runtime.specs.Stage.{objects}
use Rattle.avm2_program.specs.declared.file.Program.{Program}
use Rattle.avm2_meaning.specs.Results.{Result, given, need}
use Rattle.avm2_meaning.specs.declared.heap.Heap.{Heap}

-- an object into a variable of a type
abbrev pub convert_object : Program → StaticType → ObjId → Heap → Result Value
convert_object p type o h = need (option_map (object_into p.bases type o) (object_at (objects h.stage) o)) h (λ r. given r h)

-- a value into a variable of a type whose values are objects
abbrev pub convert_into_object : Program → StaticType → Value → Heap → Result Value
convert_into_object p type v h = need (into_object p.bases (objects h.stage) type v) h (λ r. given r h)

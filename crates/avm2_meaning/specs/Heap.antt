-- What instructions and native moves change: the stage, and what classes and scripts keep.
use Rattle.std.specs.List.{list_any}
use Rattle.std.specs.Prelude.{Bool, List, None, Option, Some, option_and_then, option_map, slice_get, ℕ, ◌&&◌, ◌==◌}
use Rattle.avm2_program.specs.declared.member.TraitPlace.{TraitPlace}
use Rattle.flex_base.specs.Lists.{changed_at}
use Rattle.flex_base.specs.Value.{is_object}
use Rattle.flex_base.specs.declared.value.ObjId.{ObjId}
use Rattle.flex_base.specs.declared.value.Value.{Value}
use Rattle.flex_world.specs.declared.kind.Class.TheVariants as Class
use Rattle.flex_world.specs.declared.kind.StaticType.TheVariants as StaticType
use Rattle.ui_runtime.specs.Stage.{Stage}
use Rattle.avm2_meaning.specs.declared.operand.Operand.{Operand}
use Rattle.avm2_meaning.specs.declared.operand.Operand.TheVariants.{ClassValue, ScriptValue}
use Rattle.avm2_meaning.specs.declared.heap.ObjectPlace.{ObjectPlace}
use Rattle.avm2_meaning.specs.declared.heap.Statics.{Statics}
use Rattle.avm2_meaning.specs.declared.heap.MadeClass.{MadeClass}
use Rattle.avm2_meaning.specs.declared.heap.Heap.{Heap}

-- the heap with its stage changed
abbrev pub on_stage : (Stage → Stage) → Heap → Heap
on_stage f h = record h { stage = f h.stage }

abbrev pub same_place : TraitPlace → TraitPlace → Bool
same_place a b = (a.holder == b.holder) && (a.number == b.number)

abbrev pub has_place : TraitPlace → List TraitPlace → Bool
has_place place written = list_any (same_place place) written

abbrev pub is_written_in : ObjId → TraitPlace → List ObjectPlace → Bool
is_written_in o place written = list_any (λ w. is_object w.object o && same_place w.place place) written

abbrev pub made_class : ℕ → Heap → Option MadeClass
made_class k h = option_and_then (λ made. made) (slice_get h.classes k)

abbrev pub with_made : MadeClass → ℕ → Heap → Heap
with_made made k h = record h { classes = changed_at (λ _. Some made) h.classes k }

abbrev pub change_statics : (Statics → Statics) → MadeClass → MadeClass
change_statics f made = record made { statics = f made.statics }

abbrev pub change_class : ℕ → (Statics → Statics) → Heap → Heap
change_class k f h = record h { classes = changed_at (option_map (change_statics f)) h.classes k }

abbrev pub change_script : ℕ → (Statics → Statics) → Heap → Heap
change_script n f h = record h { scripts = changed_at f h.scripts n }

-- what a class value or a script value keeps for its own traits
abbrev pub statics_of : Operand → Heap → Option Statics
statics_of (ClassValue (StaticType.Object (Class.File k))) h = option_map (λ (made : MadeClass). made.statics) (made_class k h)
statics_of (ScriptValue n) h = slice_get h.scripts n
statics_of _ h = None

abbrev pub change_statics_of : Operand → (Statics → Statics) → Heap → Heap
change_statics_of (ClassValue (StaticType.Object (Class.File k))) f h = change_class k f h
change_statics_of (ScriptValue n) f h = change_script n f h
change_statics_of _ f h = h

-- The load: the script initialisers run in order, the main object is made, and it is complete.
use Rattle.std.specs.Prelude.{List, None, Option, Some, [], false, if◌then◌else◌, is_some, length, map, replicate, slice_get, suc, ℕ, ◌&&◌, ◌∷◌}
use Rattle.std.specs.Str.{bytes_eq}
use Rattle.avm2_program.specs.declared.class.FileClass.{FileClass}
use Rattle.avm2_program.specs.declared.file.Program.{Program}
use Rattle.avm2_program.specs.declared.file.Script.{Script}
use Rattle.component_catalog.specs.Classes.{classes}
use Rattle.component_catalog.specs.Events.{creation_complete}
use Rattle.flex_base.specs.declared.outcome.MachineFault.TheVariants as fault
use Rattle.flex_base.specs.declared.outcome.Outcome.TheVariants.{Fault}
use Rattle.flex_base.specs.declared.value.ObjId.{ObjId}
use Rattle.ui_runtime.specs.Stage.{empty_stage}
use Rattle.avm2_meaning.specs.Apply.{open_call, proceed, settled, with_heap}
use Rattle.avm2_meaning.specs.Calls.{initialiser}
use Rattle.avm2_meaning.specs.Effects.{Acted}
use Rattle.avm2_meaning.specs.declared.effect.Call.{Call}
use Rattle.avm2_meaning.specs.declared.frame.Frame.{Frame}
use Rattle.avm2_meaning.specs.declared.frame.Frame.TheVariants as Frame
use Rattle.avm2_meaning.specs.declared.frame.Native.{Native}
use Rattle.avm2_meaning.specs.declared.frame.Native.TheVariants as Native
use Rattle.avm2_meaning.specs.declared.heap.Heap.{Heap}
use Rattle.avm2_meaning.specs.declared.heap.MadeClass.{MadeClass}
use Rattle.avm2_meaning.specs.declared.heap.Statics.{Statics}
use Rattle.avm2_meaning.specs.Machine.{CompletesMain, Load, Loaded, Machine, MakesMain, Moved, Scripts, above, over_with, unseen}
use Rattle.avm2_meaning.specs.Making.{construct_file}
use Rattle.avm2_meaning.specs.declared.operand.Operand.TheVariants.{ScriptValue}
use Rattle.avm2_meaning.specs.Results.{Goes, Halts, Result}

abbrev pub numbers_from : {A : Type 0} → ℕ → List A → List ℕ
numbers_from n [] = []
numbers_from n (x ∷ xs) = n ∷ numbers_from (suc n) xs

abbrev pub script_statics : Script → Statics
script_statics script = record { slots = script.slots; written = [] }

-- the number of the first class that was made and has this full dotted name, from a number on
abbrev pub main_class : List ℕ → ℕ → List FileClass → List (Option MadeClass) → Option ℕ
main_class name k (class ∷ classes) (made ∷ others) =
    if is_some made && bytes_eq class.name name then Some k else main_class name (suc k) classes others
main_class name k _ _ = None

abbrev pub complete_main : Option ObjId → Machine → Machine
complete_main None m = over_with (Fault fault.NotHere) m
complete_main (Some main) m = above (Frame.Does (Native.Announces creation_complete main)) (record m { load = Loaded })

module _ (p : Program) where
  abbrev pub empty_heap : Heap
  empty_heap = record { stage = empty_stage; written = []; classes = replicate (length p.classes) None; scripts = map script_statics p.scripts }

  -- before the load, with so many turns
  abbrev pub start : ℕ → Machine
  start turns = record {
    frames = [];
    heap = empty_heap;
    level = 0;
    turns = turns;
    uninitialised = numbers_from 0 p.classes;
    load = Scripts 0;
    main = None;
    outcome = None;
  }

  -- an initialiser runs
  abbrev pub land_script : Result Call → Machine → Machine
  land_script (Goes c h) m = open_call p false c (with_heap h m)
  land_script (Halts o) m = over_with o m

  abbrev pub load_script : ℕ → Option Script → Machine → Machine
  load_script n None m = record m { load = MakesMain }
  load_script n (Some script) m = land_script (initialiser p script.initialiser (ScriptValue n) m.heap) (record m { load = Scripts (suc n) })

  abbrev pub land_main : Result (Acted ObjId) → Machine → Moved
  land_main (Goes a h) m = settled a.effect (proceed p a.effect.next (record m { heap = h; load = CompletesMain; main = Some a.work }))
  land_main (Halts o) m = unseen (over_with o m)

  abbrev pub make_main : Option ℕ → Machine → Moved
  make_main None m = unseen (over_with (Fault fault.NoName) m)
  make_main (Some k) m = land_main (construct_file p k [] m.heap) m

  -- the next thing of the load; the main class has this full dotted name
  abbrev pub load_on : List ℕ → Load → Machine → Moved
  load_on name (Scripts n) m = unseen (load_script n (slice_get p.scripts n) m)
  load_on name MakesMain m = make_main (main_class name 0 p.classes m.heap.classes) m
  load_on name CompletesMain m = unseen (complete_main m.main m)
  load_on name Loaded m = unseen m

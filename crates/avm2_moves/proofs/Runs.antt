-- The next binding runs by the method that is found for it.
use Rattle.std.proofs.Common.{Bool, List, ◌∷◌, ◌≡◌, cond, false, refl, true}
use Rattle.std.specs.Prelude.{None, Option, Some}
use Rattle.avm2_meaning.specs.Bindings.{is_busy, run_if_free, run_one, start_next, starting}
use Rattle.avm2_meaning.specs.Effects.{goes_on}
use Rattle.avm2_meaning.specs.Results.{Goes, bind, choose, need}
use Rattle.avm2_meaning.specs.declared.heap.Heap.{Heap}
use Rattle.avm2_moves.specs.Running.{free_method, next_method, run_with}
use Rattle.avm2_program.specs.declared.file.Program.{Program}
use Rattle.flex_objects.specs.Entities.{EnabledBinding, Inside}
use Rattle.flex_world.specs.Objects.{Keeping, Object, Watcher}
use Rattle.stage_objects.specs.Documents.{binding_numbered}
use Rattle.ui_runtime.specs.Stage.{inside_at, object_at}

module _ (p : Program) (w : Watcher) (ws : List Watcher) (h : Heap) where
  free : (k : Keeping) (found : Option EnabledBinding) → run_if_free p w ws k found h ≡ run_with p w ws (free_method k found) h
  free k None = refl
  free k (Some b) = by (is_busy k b)
    where
      by : (busy : Bool) → choose busy (goes_on (starting None ws)) (run_one p w ws b) h ≡ run_with p w ws (cond busy None (Some b.method)) h
      by true = refl
      by false = refl

  -- that is what the next binding comes to
  pub by_method : start_next p (w ∷ ws) h ≡ bind (next_method w h) (λ l h1. run_with p w ws l h1)
  by_method = by (object_at w.document h.stage) (inside_at w.document h.stage)
    where
      by : (d : Option Object) (i : Option Inside)
          → need d h (λ x. need i h (λ y. run_if_free p w ws x.keeping (binding_numbered w.number y.bindings) h))
          ≡ bind (need d h (λ x. need i h (λ y. Goes (free_method x.keeping (binding_numbered w.number y.bindings)) h))) (λ l h1. run_with p w ws l h1)
      by None i = refl
      by (Some d) None = refl
      by (Some d) (Some i) = free d.keeping (binding_numbered w.number i.bindings)

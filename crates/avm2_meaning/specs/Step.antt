-- One step.
use Rattle.std.specs.Prelude.{List, [], ℕ, ◌∷◌}
use Rattle.avm2_program.specs.declared.file.Program.{Program}
use Rattle.avm2_meaning.specs.Apply.{land}
use Rattle.avm2_meaning.specs.declared.frame.Frame.{Frame}
use Rattle.avm2_meaning.specs.declared.frame.Frame.TheVariants as Frame
use Rattle.avm2_meaning.specs.Load.{load_on}
use Rattle.avm2_meaning.specs.Machine.{Machine, Moved}
use Rattle.avm2_meaning.specs.Moves.{moves}

module _ (p : Program) where
  abbrev pub step_on : List ℕ → List Frame → Machine → Moved
  step_on name [] m = load_on p name m.load m
  step_on name (f ∷ frames) m = land p (moves p m.main f m.heap) (record m { frames = frames })

  -- one step: the next move of the top frame, or where none is open the next thing of the load
  abbrev pub step : List ℕ → Machine → Moved
  step name m = step_on name m.frames m

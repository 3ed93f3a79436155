-- Activities, turns and cells.
use Rattle.std.specs.Prelude.{[], if◌then◌else◌, nat_lt, suc, zero, ℕ, ◌++◌, ◌+◌, ◌-◌, ◌∷◌}
use Rattle.flex_base.specs.declared.outcome.Outcome.TheVariants.{TurnsSpent}
use Rattle.flex_base.specs.declared.outcome.Stop.TheVariants as stop
use Rattle.flex_base.specs.declared.value.ObjId.{ObjId}
use Rattle.flex_world.specs.Objects.{Object, next_object}
use Rattle.flex_meaning.specs.Results.{Goes, Halts, Result, bind, done, stops}
use Rattle.flex_meaning.specs.World.{World}

-- takes one turn
abbrev pub spend : ℕ → World → Result (Unit {0})
spend zero w = Halts TurnsSpent w
spend (suc turns) w = Goes tt (record w { turns = turns })

abbrev pub tick : World → Result (Unit {0})
tick w = spend w.turns w

-- an activity begins: it takes a level, of which there are 256, and a turn
abbrev pub enter : World → Result (Unit {0})
enter w = if nat_lt w.level 256 then bind (tick w) (λ _ w1. done (record w1 { level = suc w1.level })) else stops stop.Depth w

-- an activity is over, and gives its level back
abbrev pub leave : World → World
leave w = record w { level = w.level - 1 }

abbrev pub activity : {A : Type 0} → (World → Result A) → World → Result A
activity body w = bind (enter w) (λ _ w1. bind (body w1) (λ v w2. Goes v (leave w2)))

-- takes cells, of which there are 1,000,000
abbrev pub pay : ℕ → World → Result (Unit {0})
pay cost w = if nat_lt 1000000 (w.cells + cost) then stops stop.Cells w else done (record w { cells = w.cells + cost })

-- the next number, for an object that is made
abbrev pub take_number : Object → World → Result ObjId
take_number object w = Goes (next_object w.objects) (record w { objects = w.objects ++ object ∷ [] })

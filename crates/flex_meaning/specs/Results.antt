-- What a part of a play comes to, and parts one after another.
use Rattle.std.specs.Prelude.{Bool, Err, List, None, Ok, Option, Some, [], false, true, ◌∷◌}
use Rattle.std.specs.Prelude.{Result as Computed}
use Rattle.flex_base.specs.declared.outcome.Outcome.{Outcome}
use Rattle.flex_base.specs.declared.outcome.Outcome.TheVariants.{Stopped}
use Rattle.flex_base.specs.declared.outcome.Stop.{Stop}
use Rattle.flex_base.specs.declared.value.ObjId.{ObjId}
use Rattle.flex_world.specs.Objects.{Object, object_at}
use Rattle.flex_meaning.specs.World.{World}

-- goes on with a value, or the play is over
pub data Result (A : Type 0) : Type 0 where
  Goes : (v : A) (w : World) → Result A
  Halts : (o : Outcome) (w : World) → Result A
  -- a binding's own expression used a part of null: the run of the binding ends
  Ends : (w : World) → Result A
  -- something came up that the checks of a program exclude
  Stuck : (w : World) → Result A

abbrev pub bind : {A B : Type 0} → Result A → (A → World → Result B) → Result B
bind (Goes v w) f = f v w
bind (Halts o w) f = Halts o w
bind (Ends w) f = Ends w
bind (Stuck w) f = Stuck w

abbrev pub done : World → Result (Unit {0})
done w = Goes tt w

-- the value is dropped
abbrev pub dropped : {A : Type 0} → Result A → Result (Unit {0})
dropped r = bind r (λ _ w. done w)

-- the first where the test is true, else the second
abbrev pub choose : {A : Type 0} → Bool → (World → Result A) → (World → Result A) → World → Result A
choose true first second w = first w
choose false first second w = second w

-- one after another
abbrev pub each : {A : Type 0} → (A → World → Result (Unit {0})) → List A → World → Result (Unit {0})
each f [] w = Goes tt w
each f (x ∷ xs) w = bind (f x w) (λ _ w1. each f xs w1)

-- what has to be there
abbrev pub need : {A B : Type 0} → Option A → World → (A → Result B) → Result B
need None w f = Stuck w
need (Some x) w f = f x

abbrev pub stops : {A : Type 0} → Stop → World → Result A
stops cause w = Halts (Stopped cause) w

-- what is computed of values
abbrev pub given : {A : Type 0} → Computed A Stop → World → Result A
given (Ok v) w = Goes v w
given (Err cause) w = stops cause w

-- with the object of a number
abbrev pub on : {A : Type 0} → ObjId → World → (Object → Result A) → Result A
on o w f = need (object_at w.objects o) w f

-- goes on where a fact holds, which the checks of a program show
abbrev pub guarded : {A : Type 0} → Bool → (World → Result A) → World → Result A
guarded true f w = f w
guarded false f w = Stuck w

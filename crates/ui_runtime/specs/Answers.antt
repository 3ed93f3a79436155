-- What the calls of a stage answer, and what they leave. After want of memory it holds nothing, and wants memory at each later call.
use Rattle.std.specs.Prelude.{Err, None, Ok, Option, Result, Some, ⊤, ◌≡◌}
use Rattle.flex_base.specs.declared.memory.NoMemory.{NoMemory}
use Rattle.flex_base.specs.declared.outcome.RunRefusal.{RunRefusal}
use Rattle.flex_base.specs.declared.outcome.RunRefusal.TheVariants as refusal
use Rattle.flex_base.specs.declared.outcome.Stop.{Stop}
use Rattle.ui_runtime.specs.Stage.{Stage}

-- what a call does to a stage that has memory
abbrev pub Steps : {A : Type 0} → Stage → Result (A × Stage) Stop → Result A RunRefusal → Stage → Type 0
Steps s done (Ok v) after = done ≡ Ok (v, after)
Steps s done (Err (refusal.Stop cause)) after = (done ≡ Err cause) × (after ≡ s)
Steps s done (Err refusal.NoMemory) after = ⊤

-- the same, where it gives nothing
abbrev pub Comes : Stage → Result Stage Stop → Result (Unit {0}) RunRefusal → Stage → Type 0
Comes s done (Ok _) after = done ≡ Ok after
Comes s done (Err (refusal.Stop cause)) after = (done ≡ Err cause) × (after ≡ s)
Comes s done (Err refusal.NoMemory) after = ⊤

-- and to any stage
abbrev pub Does : {A : Type 0} → Option Stage → (Stage → Result (A × Stage) Stop) → Result A RunRefusal → Option Stage → Type 0
Does before f (Err refusal.NoMemory) after = after ≡ None
Does (Some s) f answer (Some after) = Steps s (f s) answer after
Does _ f answer after = ⊥

-- the same to any stage, where it gives nothing
abbrev pub Becomes : Option Stage → (Stage → Result Stage Stop) → Result (Unit {0}) RunRefusal → Option Stage → Type 0
Becomes before f (Err refusal.NoMemory) after = after ≡ None
Becomes (Some s) f answer (Some after) = Comes s (f s) answer after
Becomes _ f answer after = ⊥

-- what a call that doesn't stop does to a stage that has memory
abbrev pub Hands : {A : Type 0} → A × Stage → Result A NoMemory → Stage → Type 0
Hands done (Ok v) after = done ≡ (v, after)
Hands done (Err _) after = ⊤

-- and to any stage
abbrev pub Gives : {A : Type 0} → Option Stage → (Stage → A × Stage) → Result A NoMemory → Option Stage → Type 0
Gives before f (Err _) after = after ≡ None
Gives (Some s) f answer (Some after) = Hands (f s) answer after
Gives _ f answer after = ⊥

-- what a call that takes no memory does to a stage, unless it stops
abbrev pub Pays : Stage → Result Stage Stop → Result (Unit {0}) Stop → Stage → Type 0
Pays s paid (Ok _) after = paid ≡ Ok after
Pays s paid (Err cause) after = (paid ≡ Err cause) × (after ≡ s)

-- what is asked of a stage; after want of memory nothing is there
abbrev pub asked : {A : Type 0} → A → (Stage → A) → Option Stage → A
asked nothing f None = nothing
asked nothing f (Some s) = f s

abbrev pub kept_unless_refused : {A : Type 0} → Result A RunRefusal → Stage → Option Stage
kept_unless_refused (Err refusal.NoMemory) s = None
kept_unless_refused _ s = Some s

abbrev pub kept_if_given : {A : Type 0} → Result A NoMemory → Stage → Option Stage
kept_if_given (Err _) s = None
kept_if_given (Ok _) s = Some s

-- what a call does to a stage that wants memory and never stops
abbrev pub Changes : Option Stage → (Stage → Stage) → Result (Unit {0}) NoMemory → Option Stage → Type 0
Changes (Some s) f (Ok _) after = after ≡ Some (f s)
Changes None f (Ok _) after = ⊥
Changes _ f (Err _) after = after ≡ None

-- what a call gives that wants memory and leaves the stage alone
abbrev pub Tells : {A : Type 0} → Option Stage → (Stage → A) → Result A NoMemory → Type 0
Tells (Some s) f (Ok v) = v ≡ f s
Tells None f (Ok v) = ⊥
Tells _ f (Err _) = ⊤

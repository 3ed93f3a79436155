-- A SWF file that is read in pieces: what each of its calls does.
use Rattle.std.specs.Prelude.{◌≡◌, ℕ, List, Option, Some, None, Result, Ok, Err}
use Rattle.swf_tags.specs.Feeding.{Progress, at_end, early_fault, fed}
use Rattle.swf_tags.specs.declared.stage.Stage.{Stage}
use Rattle.swf_tags.specs.declared.stage.Stage.TheVariants as stage
use Rattle.swf_tags.specs.declared.types.Fault.{Fault}
use Rattle.swf_tags.specs.declared.types.Swf.{Swf}
use Rattle.swf_tags.specs.declared.types.SwfRefusal.{SwfRefusal}
use Rattle.swf_tags.specs.declared.types.SwfRefusal.TheVariants as refusal

-- the number of bytes that were taken, and how far they are read, but where memory was refused
pub record Push : Type 0 where
  pub taken : ℕ
  pub stage : Option Stage

-- how far a file is read of which these bytes were taken
abbrev pub push_of : Progress → Push
push_of progress = record { taken = progress.taken; stage = Some progress.stage }

-- so many bytes were taken, and then the first fault was answered
abbrev pub refused : ℕ → Stage → Push
refused taken failed = record { taken = taken; stage = Some failed }

-- so many bytes were taken, and then memory was refused
abbrev pub spent : ℕ → Push
spent taken = record { taken = taken; stage = None }

-- an answer for a piece that leads so far: it is taken exactly where no fault of the bytes so far is early, and otherwise refused with
-- that fault, and not taken; only want of memory is free
abbrev pub FeedsTo : ℕ → Progress → Result (Unit {0}) SwfRefusal → Push → Type 0
FeedsTo taken after (Ok _) new = (early_fault after.stage ≡ None) × (new ≡ push_of after)
FeedsTo taken after (Err (refusal.BadSwf place why)) new =
    (after.stage ≡ stage.Failed (record { place = place; reason = why })) × (new ≡ refused taken (stage.Failed (record { place = place; reason = why })))
FeedsTo taken after (Err refusal.NoMemory) new = new ≡ spent taken

-- the refusal that tells a fault
abbrev pub refusal_of : Fault → SwfRefusal
refusal_of fault = refusal.BadSwf fault.place fault.reason

-- where memory was refused before, or a fault was answered, that is answered again, and nothing changes
abbrev pub FeedsFrom : ℕ → Option Stage → List ℕ → Result (Unit {0}) SwfRefusal → Push → Type 0
FeedsFrom taken None piece result new = (result ≡ Err refusal.NoMemory) × (new ≡ spent taken)
FeedsFrom taken (Some (stage.Failed fault)) piece result new = (result ≡ Err (refusal_of fault)) × (new ≡ refused taken (stage.Failed fault))
FeedsFrom taken (Some s) piece result new = FeedsTo taken (fed (record { taken = taken; stage = s }) piece) result new

-- what a piece does
abbrev pub Feeds : Push → List ℕ → Result (Unit {0}) SwfRefusal → Push → Type 0
Feeds old piece result new = FeedsFrom old.taken old.stage piece result new

-- what the file says, or the refusal that tells its fault
abbrev pub answer_of : Result Swf Fault → Result Swf SwfRefusal
answer_of (Ok swf) = Ok swf
answer_of (Err fault) = Err (refusal_of fault)

-- the answer at the end of the file
abbrev pub end_of : ℕ → Option Stage → Result Swf SwfRefusal
end_of taken None = Err refusal.NoMemory
end_of taken (Some s) = answer_of (at_end taken s)

abbrev pub finish : Push → Result Swf SwfRefusal
finish push = end_of push.taken push.stage

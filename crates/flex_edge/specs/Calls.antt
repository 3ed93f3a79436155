-- What each call of the outside does to what the files or the sink mean.
use Rattle.std.specs.Prelude.{◌≡◌, ◌≢◌, ℕ, ◌<◌, ◌≤◌, List, [], ◌++◌, length, take, IsTrue, Some, None, MatchOption, Result, Ok, Err}
use Rattle.flex_edge.specs.declared.refused.Refused.{Refused}
use Rattle.flex_edge.specs.declared.refused.Refused.TheVariants as refused
use Rattle.flex_edge.specs.Outside.{Rose, FilesState, SinkState}

-- a fact for each answer of a call
abbrev pub Answers : {A : Type 0} → Result A Refused → (A → Type 0) → Type 0 → Type 0 → Type 0
Answers (Ok value) P failed no_memory = P value
Answers (Err refused.Failed) P failed no_memory = failed
Answers (Err refused.NoMemory) P failed no_memory = no_memory

-- each name has the bytes that it had
abbrev pub SameBytes : FilesState → FilesState → Type 0
SameBytes old new = (name : List ℕ) → new.bytes_of name ≡ old.bytes_of name

-- no other name's bytes changed
abbrev pub SameOthers : List ℕ → FilesState → FilesState → Type 0
SameOthers created old new = (name : List ℕ) → name ≢ created → new.bytes_of name ≡ old.bytes_of name

-- the file that is read stands where it stood
pub record SameReading (old new : FilesState) : Type 0 where
  pub begun : new.begun ≡ old.begun
  pub rest : new.rest ≡ old.rest

-- nothing that is told changed
pub record SameFiles (old new : FilesState) : Type 0 where
  pub bytes : SameBytes old new
  pub reading : SameReading old new
  pub created : new.created ≡ old.created

pub record SameCounts (old new : FilesState) : Type 0 where
  pub reads : new.read_faults ≡ old.read_faults
  pub writes : new.write_faults ≡ old.write_faults

-- only the count of reads rose
pub record ReadFault (old new : FilesState) : Type 0 where
  pub reads : Rose old.read_faults new.read_faults
  pub writes : new.write_faults ≡ old.write_faults

-- only the count of writes rose
pub record WriteFault (old new : FilesState) : Type 0 where
  pub reads : new.read_faults ≡ old.read_faults
  pub writes : Rose old.write_faults new.write_faults

-- a change of files: whether they tell stays, and the rest as said
pub record Changes (old new : FilesState) (Counted Told : Type 0) : Type 0 where
  pub tells : new.tells ≡ old.tells
  pub counts : Counted
  pub told : IsTrue old.tells → Told

-- a call that wanted memory changed nothing
abbrev pub Untouched : FilesState → FilesState → Type 0
Untouched old new = Changes old new (SameCounts old new) (SameFiles old new)

-- the file is there, and all of it is the rest
pub record HasBegun (name : List ℕ) (old new : FilesState) : Type 0 where
  pub there : old.bytes_of name ≡ Some new.rest
  pub begun : new.begun ≡ Some name
  pub bytes : SameBytes old new
  pub created : new.created ≡ old.created

-- the name is the last one given, and all else is as it was
pub record HasNamed (name : List ℕ) (old new : FilesState) : Type 0 where
  pub begun : new.begun ≡ Some name
  pub rest : new.rest ≡ old.rest
  pub bytes : SameBytes old new
  pub created : new.created ≡ old.created

abbrev pub Begins : FilesState → List ℕ → Result (Unit {0}) Refused → FilesState → Type 0
Begins old name result new =
    Answers result (λ _. Changes old new (SameCounts old new) (HasBegun name old new)) (Changes old new (ReadFault old new) (HasNamed name old new))
    (Untouched old new)

-- the first bytes of the rest stand in the buffer, and are no longer in the rest
pub record HasRead (buffer : List ℕ) (count : ℕ) (old new : FilesState) : Type 0 where
  pub rest : old.rest ≡ take count buffer ++ new.rest
  pub ends : count ≡ 0 → 0 < length buffer → old.rest ≡ []
  pub begun : new.begun ≡ old.begun
  pub bytes : SameBytes old new
  pub created : new.created ≡ old.created

abbrev pub Reads : FilesState → List ℕ → Result ℕ Refused → FilesState → Type 0
Reads old buffer result new =
    Answers result (λ count. (count ≤ length buffer) × Changes old new (SameCounts old new) (HasRead buffer count old new))
    (Changes old new (ReadFault old new) (SameFiles old new)) (Untouched old new)

-- the file is there and empty, and is the one created last
pub record HasCreated (name : List ℕ) (old new : FilesState) : Type 0 where
  pub empty : new.bytes_of name ≡ Some []
  pub others : SameOthers name old new
  pub created : new.created ≡ Some name
  pub reading : SameReading old new

abbrev pub Creates : FilesState → List ℕ → Result (Unit {0}) Refused → FilesState → Type 0
Creates old name result new =
    Answers result (λ _. Changes old new (SameCounts old new) (HasCreated name old new)) (Changes old new (WriteFault old new) (SameFiles old new))
    (Untouched old new)

-- the file has these bytes more; where it isn't there, there are none
pub record HasGrown (name piece : List ℕ) (old new : FilesState) : Type 0 where
  pub bytes : MatchOption (old.bytes_of name) ((piece ≡ []) × (new.bytes_of name ≡ None)) (λ before. new.bytes_of name ≡ Some (before ++ piece))
  pub others : SameOthers name old new

-- the file created last has these bytes more; where none was created, there are none
pub record HasAppended (piece : List ℕ) (old new : FilesState) : Type 0 where
  pub file : MatchOption old.created ((piece ≡ []) × SameBytes old new) (λ name. HasGrown name piece old new)
  pub created : new.created ≡ old.created
  pub reading : SameReading old new

-- the count of write faults after a piece of which so many bytes were taken
abbrev pub TakenCount : ℕ → List ℕ → ℕ → ℕ → Type 0
TakenCount count [] old new = new ≡ old
TakenCount count piece old new = (count ≡ 0 → Rose old new) × (0 < count → new ≡ old)

pub record AppendCounts (count : ℕ) (piece : List ℕ) (old new : FilesState) : Type 0 where
  pub reads : new.read_faults ≡ old.read_faults
  pub writes : TakenCount count piece old.write_faults new.write_faults

abbrev pub Appends : FilesState → List ℕ → Result ℕ Refused → FilesState → Type 0
Appends old piece result new =
    Answers result (λ count. (count ≤ length piece) × Changes old new (AppendCounts count piece old new) (HasAppended (take count piece) old new))
    (Changes old new (WriteFault old new) (SameFiles old new)) (Untouched old new)

-- a change of a sink: whether it tells stays, and the rest as said
pub record SinkChanges (old new : SinkState) (Counted Told : Type 0) : Type 0 where
  pub tells : new.tells ≡ old.tells
  pub faults : Counted
  pub told : IsTrue old.tells → Told

abbrev pub Writes : SinkState → List ℕ → Result ℕ Refused → SinkState → Type 0
Writes old piece result new =
    Answers result
    (λ count. (count ≤ length piece) × SinkChanges old new (TakenCount count piece old.write_faults new.write_faults) (new.taken ≡ old.taken ++ take count piece))
    (SinkChanges old new (Rose old.write_faults new.write_faults) (new.taken ≡ old.taken))
    (SinkChanges old new (new.write_faults ≡ old.write_faults) (new.taken ≡ old.taken))

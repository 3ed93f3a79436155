-- What a whole read, a whole write and a print do to what the files or the sink mean.
use Rattle.std.specs.Prelude.{◌≡◌, ℕ, ◌<◌, ◌≤◌, List, ◌++◌, length, Some, Result, Ok, Err, ◌⊎◌}
use Rattle.std.specs.Option.{IsSomeAnd}
use Rattle.flex_edge.specs.Outside.{Rose, FilesState, SinkState}
use Rattle.flex_edge.specs.Calls.{SameBytes, SameOthers, SameReading, SameCounts, ReadFault, WriteFault, Changes, SinkChanges}
use Rattle.flex_edge.specs.declared.refused.Refused.{Refused}
use Rattle.flex_edge.specs.declared.refused.Refused.TheVariants as refused
use Rattle.flex_edge.specs.declared.input.ReadRefusal.{ReadRefusal}
use Rattle.flex_edge.specs.declared.input.ReadRefusal.TheVariants as read

-- why a file wasn't read, where a call of the files answered a refusal
abbrev pub read_refusal : Refused → ReadRefusal
read_refusal refused.Failed = read.Failed
read_refusal refused.NoMemory = read.NoMemory

-- no file was made or changed
pub record MakesNone (old new : FilesState) : Type 0 where
  pub bytes : SameBytes old new
  pub created : new.created ≡ old.created

-- the name is the last one given, and no file was made or changed
pub record HasTried (name : List ℕ) (old new : FilesState) : Type 0 where
  pub begun : new.begun ≡ Some name
  pub only : MakesNone old new

-- the file is there, and has these bytes
pub record HasReadWhole (name bytes : List ℕ) (old new : FilesState) : Type 0 where
  pub there : old.bytes_of name ≡ Some bytes
  pub tried : HasTried name old new

-- the file is there, and has more than so many bytes
pub record HasFoundLong (most : ℕ) (name : List ℕ) (old new : FilesState) : Type 0 where
  pub long : IsSomeAnd (old.bytes_of name) (λ bytes. most < length bytes)
  pub tried : HasTried name old new

-- what the reading of a whole file of at most so many bytes does
abbrev pub ReadsFile : ℕ → FilesState → List ℕ → Result (List ℕ) ReadRefusal → FilesState → Type 0
ReadsFile most old name (Ok bytes) new = (length bytes ≤ most) × Changes old new (SameCounts old new) (HasReadWhole name bytes old new)
ReadsFile most old name (Err read.Failed) new = Changes old new (ReadFault old new) (HasTried name old new)
ReadsFile most old name (Err read.TooLong) new = Changes old new (SameCounts old new) (HasFoundLong most name old new)
ReadsFile most old name (Err read.NoMemory) new = Changes old new (SameCounts old new) (MakesNone old new)

-- the file has these bytes, and is the one created last
pub record HasWritten (name bytes : List ℕ) (old new : FilesState) : Type 0 where
  pub there : new.bytes_of name ≡ Some bytes
  pub others : SameOthers name old new
  pub created : new.created ≡ Some name
  pub reading : SameReading old new

-- the file has a first part of these bytes
pub record HasPart (name bytes : List ℕ) (new : FilesState) : Type 0 where
  pub part : List ℕ
  pub left : List ℕ
  pub whole : bytes ≡ part ++ left
  pub there : new.bytes_of name ≡ Some part
  pub created : new.created ≡ Some name

-- the file wasn't made, or has a first part of these bytes
pub record IsPart (name bytes : List ℕ) (old new : FilesState) : Type 0 where
  pub file : MakesNone old new ⊎ HasPart name bytes new
  pub others : SameOthers name old new
  pub reading : SameReading old new

-- what the writing of a whole file does
abbrev pub WritesFile : FilesState → List ℕ → List ℕ → Result (Unit {0}) Refused → FilesState → Type 0
WritesFile old name bytes (Ok done) new = Changes old new (SameCounts old new) (HasWritten name bytes old new)
WritesFile old name bytes (Err refused.Failed) new = Changes old new (WriteFault old new) (IsPart name bytes old new)
WritesFile old name bytes (Err refused.NoMemory) new = Changes old new (SameCounts old new) (IsPart name bytes old new)

-- the sink took a first part of these bytes
pub record HasTaken (bytes : List ℕ) (old new : SinkState) : Type 0 where
  pub part : List ℕ
  pub left : List ℕ
  pub whole : bytes ≡ part ++ left
  pub taken : new.taken ≡ old.taken ++ part

-- what the printing of bytes does
abbrev pub Prints : SinkState → List ℕ → Result (Unit {0}) Refused → SinkState → Type 0
Prints old bytes (Ok done) new = SinkChanges old new (new.write_faults ≡ old.write_faults) (new.taken ≡ old.taken ++ bytes)
Prints old bytes (Err refused.Failed) new = SinkChanges old new (Rose old.write_faults new.write_faults) (HasTaken bytes old new)
Prints old bytes (Err refused.NoMemory) new = SinkChanges old new (new.write_faults ≡ old.write_faults) (HasTaken bytes old new)

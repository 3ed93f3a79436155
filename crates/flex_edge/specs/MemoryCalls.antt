-- What each call does to what files or a sink in memory hold, exactly.
use Rattle.std.specs.Prelude.{Result, ◌≡◌, ℕ, zero, suc, List, [], ◌∷◌, ◌++◌, length, take, drop, min, Option, None, Some, option_and_then, ◌⊎◌}
use Rattle.flex_edge.specs.declared.refused.Refused.{Refused}
use Rattle.flex_edge.specs.Calls.{Answers}
use Rattle.flex_edge.specs.Memory.{NamedFiles, bytes_of, files_after_growth, files_after_create, next_count, IsListed, MemoryState, MemorySinkState}

-- the call's number isn't listed, and the file is there: all of it is the rest
pub record BeginsFile (name : List ℕ) (old new : MemoryState) : Type 0 where
  pub unlisted : ¬ IsListed old.fails old.calls
  pub there : bytes_of old.files name ≡ Some new.rest
  pub after : new ≡ record old { begun = Some name; rest = new.rest; calls = next_count old.calls }

-- the call's number is listed, or the file isn't there: of what is told only the name changed
pub record MissesFile (name : List ℕ) (old new : MemoryState) : Type 0 where
  pub why : IsListed old.fails old.calls ⊎ (bytes_of old.files name ≡ None)
  pub after : new ≡ record old { begun = Some name; calls = next_count old.calls; read_faults = next_count old.read_faults }

-- what a `begin` of this name is to read, or that it fails
abbrev pub IsRestToBegin : MemoryState → List ℕ → Option (List ℕ) → Type 0
IsRestToBegin s name None = IsListed s.fails s.calls ⊎ (bytes_of s.files name ≡ None)
IsRestToBegin s name (Some rest) = (¬ IsListed s.fails s.calls) × (bytes_of s.files name ≡ Some rest)

abbrev pub MemoryBegins : MemoryState → List ℕ → Result (Unit {0}) Refused → MemoryState → Type 0
MemoryBegins old name result new = Answers result (λ _. BeginsFile name old new) (MissesFile name old new) (new ≡ old)

-- the call's number isn't listed: the first bytes of the rest, as many as there are and fit, stand in the buffer, before what stood there
pub record GivesRest (given : ℕ) (before buffer_after : List ℕ) (old new : MemoryState) : Type 0 where
  pub unlisted : ¬ IsListed old.fails old.calls
  pub count : given ≡ min (length before) (length old.rest)
  pub buffer : buffer_after ≡ take given old.rest ++ drop given before
  pub after : new ≡ record old { rest = drop given old.rest; calls = next_count old.calls }

-- the call's number is listed: of what is told nothing changed
pub record FailsToRead (old new : MemoryState) : Type 0 where
  pub listed : IsListed old.fails old.calls
  pub after : new ≡ record old { calls = next_count old.calls; read_faults = next_count old.read_faults }

-- the buffer before the call, and after it; no memory is wanted
abbrev pub MemoryReads : MemoryState → List ℕ → List ℕ → Result ℕ Refused → MemoryState → Type 0
MemoryReads old before buffer_after result new = Answers result (λ given. GivesRest given before buffer_after old new) (FailsToRead old new) ⊥

-- the call's number isn't listed: the file is there and empty
pub record CreatesFile (name : List ℕ) (old new : MemoryState) : Type 0 where
  pub unlisted : ¬ IsListed old.fails old.calls
  pub after : new ≡ record old { files = files_after_create old.files name; created = Some name; calls = next_count old.calls }

-- the call's number is listed: of what is told nothing changed
pub record FailsToWrite (old new : MemoryState) : Type 0 where
  pub listed : IsListed old.fails old.calls
  pub after : new ≡ record old { calls = next_count old.calls; write_faults = next_count old.write_faults }

abbrev pub MemoryCreates : MemoryState → List ℕ → Result (Unit {0}) Refused → MemoryState → Type 0
MemoryCreates old name result new = Answers result (λ _. CreatesFile name old new) (FailsToWrite old new) (new ≡ old)

-- the bytes of the file created last, where there is one
abbrev pub created_bytes : MemoryState → Option (List ℕ)
created_bytes s = option_and_then (bytes_of s.files) s.created

-- how many of so many bytes a file takes: none where it isn't there
abbrev pub taken_count : Option (List ℕ) → ℕ → ℕ
taken_count None count = 0
taken_count (Some bytes) count = count

-- the files after the file with this name took these bytes
abbrev pub files_after_append : NamedFiles → Option (List ℕ) → List ℕ → NamedFiles
files_after_append files None part = files
files_after_append files (Some name) part = files_after_growth files name part

-- how many bytes of a piece are taken where a call takes at most so many: none where no file takes any
abbrev pub IsTakenCount : NamedFiles → Option (List ℕ) → ℕ → List ℕ → ℕ → Type 0
IsTakenCount files created most piece taken = taken ≡ taken_count (option_and_then (bytes_of files) created) (min most (length piece))

-- the files after the first bytes of a piece, so many, were taken
abbrev pub TakesFirst : NamedFiles → Option (List ℕ) → List ℕ → NamedFiles → ℕ → Type 0
TakesFirst old created piece new taken = new ≡ files_after_append old created (take taken piece)

-- the count of write faults after a piece of which so many bytes were taken
abbrev pub faults_after : ℕ → List ℕ → ℕ → ℕ
faults_after taken [] faults = faults
faults_after zero (byte ∷ bytes) faults = next_count faults
faults_after (suc taken) (byte ∷ bytes) faults = faults

-- the call's number isn't listed: so many bytes of the piece stand behind the file created last
pub record AppendsPart (taken : ℕ) (piece : List ℕ) (old new : MemoryState) : Type 0 where
  pub unlisted : ¬ IsListed old.fails old.calls
  pub count : taken ≡ taken_count (created_bytes old) (min old.most (length piece))
  pub after : new ≡ record old {
    files = files_after_append old.files old.created (take taken piece);
    calls = next_count old.calls;
    write_faults = faults_after taken piece old.write_faults;
  }

abbrev pub MemoryAppends : MemoryState → List ℕ → Result ℕ Refused → MemoryState → Type 0
MemoryAppends old piece result new = Answers result (λ taken. AppendsPart taken piece old new) (FailsToWrite old new) (new ≡ old)

-- the call's number isn't listed: so many bytes of the piece were taken
pub record TakesPart (taken : ℕ) (piece : List ℕ) (old new : MemorySinkState) : Type 0 where
  pub unlisted : ¬ IsListed old.fails old.calls
  pub count : taken ≡ min old.most (length piece)
  pub after : new ≡ record old { taken = old.taken ++ take taken piece; calls = next_count old.calls }

-- the call's number is listed: no byte was taken
pub record FailsToTake (old new : MemorySinkState) : Type 0 where
  pub listed : IsListed old.fails old.calls
  pub after : new ≡ record old { calls = next_count old.calls; write_faults = next_count old.write_faults }

abbrev pub MemoryWrites : MemorySinkState → List ℕ → Result ℕ Refused → MemorySinkState → Type 0
MemoryWrites old piece result new = Answers result (λ taken. TakesPart taken piece old new) (FailsToTake old new) (new ≡ old)

-- What files and a sink in memory hold.
use Rattle.std.specs.Prelude.{ℕ, ◌+◌, List, [], ◌∷◌, ◌++◌, true, Option, None, Some, min, Contains, if◌then◌else◌}
use Rattle.std.specs.Str.{bytes_eq}
use Rattle.flex_edge.specs.Outside.{count_end, FilesState, SinkState}

-- files in order, each with its name and its bytes
abbrev pub NamedFiles : Type 0
NamedFiles = List (List ℕ × List ℕ)

-- the bytes of the first file with this name
abbrev pub bytes_of : NamedFiles → List ℕ → Option (List ℕ)
bytes_of [] name = None
bytes_of (file ∷ files) name = if bytes_eq file.0 name then Some file.1 else bytes_of files name

-- the files, of which the first with this name, if there is one, has other bytes
abbrev pub files_after_change : (List ℕ → List ℕ) → NamedFiles → List ℕ → NamedFiles
files_after_change change [] name = []
files_after_change change (file ∷ files) name =
    if bytes_eq file.0 name then (file.0, change file.1) ∷ files else file ∷ files_after_change change files name

-- the files, of which the first with this name has these bytes more
abbrev pub files_after_growth : NamedFiles → List ℕ → List ℕ → NamedFiles
files_after_growth files name part = files_after_change (λ bytes. bytes ++ part) files name

-- the files, of which the first with this name is empty; where there is none, it is added at the end
abbrev pub files_after_create : NamedFiles → List ℕ → NamedFiles
files_after_create [] name = (name, []) ∷ []
files_after_create (file ∷ files) name = if bytes_eq file.0 name then (file.0, []) ∷ files else file ∷ files_after_create files name

-- one more than a count, which stands still at its end
abbrev pub next_count : ℕ → ℕ
next_count count = min (count + 1) count_end

-- after so many calls the next one, by its number, is listed to fail
abbrev pub IsListed : List ℕ → ℕ → Type 0
IsListed fails calls = Contains fails (next_count calls)

-- what files in memory hold
pub record MemoryState : Type 0 where
  pub files : NamedFiles
  -- the name given to the last `begin`
  pub begun : Option (List ℕ)
  -- what is still to be read of the file begun last
  pub rest : List ℕ
  -- the name of the file created last
  pub created : Option (List ℕ)
  -- the number of the last call, from 1
  pub calls : ℕ
  pub read_faults : ℕ
  pub write_faults : ℕ
  -- the numbers of the calls that fail
  pub fails : List ℕ
  -- the greatest number of bytes that an `append` takes
  pub most : ℕ

-- what those files mean
abbrev pub files_state : MemoryState → FilesState
files_state s = record {
  tells = true;
  bytes_of = bytes_of s.files;
  begun = s.begun;
  rest = s.rest;
  created = s.created;
  read_faults = s.read_faults;
  write_faults = s.write_faults;
}

-- files in memory before the first call
abbrev pub new_memory : NamedFiles → List ℕ → ℕ → MemoryState
new_memory files fails most = record {
  files = files;
  begun = None;
  rest = [];
  created = None;
  calls = 0;
  read_faults = 0;
  write_faults = 0;
  fails = fails;
  most = most;
}

-- what a sink in memory holds
pub record MemorySinkState : Type 0 where
  -- all bytes taken so far
  pub taken : List ℕ
  -- the number of the last call, from 1
  pub calls : ℕ
  pub write_faults : ℕ
  -- the numbers of the calls that fail
  pub fails : List ℕ
  -- the greatest number of bytes that a `write` takes
  pub most : ℕ

-- what that sink means
abbrev pub sink_state : MemorySinkState → SinkState
sink_state s = record { tells = true; taken = s.taken; write_faults = s.write_faults }

-- a sink in memory before the first call
abbrev pub new_memory_sink : List ℕ → ℕ → MemorySinkState
new_memory_sink fails most = record { taken = []; calls = 0; write_faults = 0; fails = fails; most = most }

-- What the files and the standard output of the system mean: counts of faults, and nothing that is told.
use Rattle.std.specs.Prelude.{◌≡◌, ℕ, [], Bool, true, false, None, Result}
use Rattle.flex_edge.specs.declared.refused.Refused.{Refused}
use Rattle.flex_edge.specs.Outside.{FilesState, SinkState}
use Rattle.flex_edge.specs.Calls.{Answers}

-- whether a file is begun and one is created, and the counts of faults
pub record HostState : Type 0 where
  pub begun : Bool
  pub created : Bool
  pub read_faults : ℕ
  pub write_faults : ℕ

-- the system's files before the first call
abbrev pub new_host : HostState
new_host = record { begun = false; created = false; read_faults = 0; write_faults = 0 }

abbrev pub host_state : HostState → FilesState
host_state s = record {
  tells = false;
  bytes_of = λ _. None;
  begun = None;
  rest = [];
  created = None;
  read_faults = s.read_faults;
  write_faults = s.write_faults;
}

-- a file is begun after a `begin` that answered `Ok`; one that failed leaves the one before
abbrev pub HostBegins : HostState → Result (Unit {0}) Refused → HostState → Type 0
HostBegins old result new = (new.created ≡ old.created) × Answers result (λ _. new.begun ≡ true) (new.begun ≡ old.begun) ⊥

-- a file is created after a `create` that answered `Ok`; one that failed leaves the one before
abbrev pub HostCreates : HostState → Result (Unit {0}) Refused → HostState → Type 0
HostCreates old result new = (new.begun ≡ old.begun) × Answers result (λ _. new.created ≡ true) (new.created ≡ old.created) ⊥

-- the same file is begun, and the same one created
pub record SameFilesOpen (old new : HostState) : Type 0 where
  pub begun : new.begun ≡ old.begun
  pub created : new.created ≡ old.created

abbrev pub host_sink_state : ℕ → SinkState
host_sink_state write_faults = record { tells = false; taken = []; write_faults = write_faults }

-- What files and a sink mean.
use Rattle.std.specs.Prelude.{ℕ, ◌<◌, ◌≤◌, List, Bool, Option, length}

-- the last value of a count of faults, at which it stands still
abbrev pub count_end : ℕ
count_end = 18446744073709551615

-- bytes that are handed over at once: 1 to 4,096
pub record IsPiece (bytes : List ℕ) : Type 0 where
  pub some : 0 < length bytes
  pub fits : length bytes ≤ 4096

-- a count is greater than before, or stands at its last value
pub record Rose (old new : ℕ) : Type 0 where
  pub never_falls : old ≤ new
  pub rises : old < count_end → old < new

-- what files mean; the fields between `tells` and the counts say something only where `tells` is true
pub record FilesState : Type 0 where
  pub tells : Bool
  -- the bytes of each name that is there
  pub bytes_of : List ℕ → Option (List ℕ)
  -- the name given to the last `begin`
  pub begun : Option (List ℕ)
  -- what is still to be read of the file begun last
  pub rest : List ℕ
  -- the name of the file created last
  pub created : Option (List ℕ)
  pub read_faults : ℕ
  pub write_faults : ℕ

-- what a sink means; `taken` says something only where `tells` is true
pub record SinkState : Type 0 where
  pub tells : Bool
  -- all bytes taken so far
  pub taken : List ℕ
  pub write_faults : ℕ

-- What the feeding of a file to a consumer does.
use Rattle.std.specs.Prelude.{◌≡◌, ℕ, ◌<◌, ◌≤◌, List, [], ◌++◌, length, Some, Result, Ok, Err, ◌⊎◌}
use Rattle.flex_edge.specs.Outside.{IsPiece, FilesState}
use Rattle.flex_edge.specs.Calls.{SameCounts, ReadFault, Changes}
use Rattle.flex_edge.specs.Whole.{MakesNone, HasTried, HasReadWhole}
use Rattle.flex_edge.specs.declared.refused.Refused.TheVariants as refused
use Rattle.flex_edge.specs.declared.consumer.FeedRefusal.{FeedRefusal}
use Rattle.flex_edge.specs.declared.consumer.FeedRefusal.TheVariants as feed
use Rattle.flex_edge.specs.declared.input.Collector.{Collector}
use Rattle.flex_edge.specs.declared.input.ReadRefusal.{ReadRefusal}
use Rattle.flex_edge.specs.declared.input.ReadRefusal.TheVariants as read

-- a consumer took these bytes, in order, cut into pieces of 1 to 4,096 bytes
pub data IsFed {C E : Type 0} (takes : C → List ℕ → Result (Unit {0}) E → C → Type 0) (old : C) : List ℕ → C → Type 0 where
  Fed_nothing : IsFed takes old [] old
  Fed_piece :
      (bytes piece : List ℕ) (mid new : C) (fed : IsFed takes old bytes mid) (is : IsPiece piece) (taken : takes mid piece (Ok tt) new)
      → IsFed takes old (bytes ++ piece) new

-- the file is there, and begins with these bytes
pub record HasFirst (name bytes : List ℕ) (files : FilesState) : Type 0 where
  pub left : List ℕ
  pub there : files.bytes_of name ≡ Some (bytes ++ left)

-- the consumer took all bytes of the file
pub record FeedsWhole {C E : Type 0} (takes : C → List ℕ → Result (Unit {0}) E → C → Type 0) (name : List ℕ) (old : FilesState) (before : C) (new : FilesState) (after : C) : Type 0 where
  pub bytes : List ℕ
  pub fed : IsFed takes before bytes after
  pub changes : Changes old new (SameCounts old new) (HasReadWhole name bytes old new)

-- the consumer took nothing, or a first part of the file
pub record FeedsPart {C E : Type 0} (takes : C → List ℕ → Result (Unit {0}) E → C → Type 0) (name : List ℕ) (old : FilesState) (before : C) (new : FilesState) (after : C) (Counted Told : Type 0) : Type 0 where
  pub bytes : List ℕ
  pub fed : IsFed takes before bytes after
  pub changes : Changes old new Counted (((bytes ≡ []) ⊎ HasFirst name bytes old) × Told)

-- the consumer took a first part of the file, and refused the piece behind it
pub record FeedsRefused {C E : Type 0} (takes : C → List ℕ → Result (Unit {0}) E → C → Type 0) (name : List ℕ) (old : FilesState) (before : C) (refusal : E) (new : FilesState) (after : C) : Type 0 where
  pub bytes : List ℕ
  pub piece : List ℕ
  pub mid : C
  pub fed : IsFed takes before bytes mid
  pub is : IsPiece piece
  pub refuses : takes mid piece (Err refusal) after
  pub changes : Changes old new (SameCounts old new) (HasFirst name (bytes ++ piece) old × HasTried name old new)

-- what the feeding of a file to a consumer does
abbrev pub Feeds : {C E : Type 0} → (C → List ℕ → Result (Unit {0}) E → C → Type 0) → List ℕ → FilesState → C → Result (Unit {0}) (FeedRefusal E) → FilesState → C → Type 0
Feeds takes name old before (Ok done) new after = FeedsWhole takes name old before new after
Feeds takes name old before (Err (feed.Files refused.Failed)) new after = FeedsPart takes name old before new after (ReadFault old new) (HasTried name old new)
Feeds takes name old before (Err (feed.Files refused.NoMemory)) new after = FeedsPart takes name old before new after (SameCounts old new) (MakesNone old new)
Feeds takes name old before (Err (feed.Consumer refusal)) new after = FeedsRefused takes name old before refusal new after

-- what a collector does with a piece: it keeps it behind the bytes that it has, unless these are too many then
abbrev pub Collects : Collector → List ℕ → Result (Unit {0}) ReadRefusal → Collector → Type 0
Collects old piece (Ok done) new = (new ≡ record old { bytes = old.bytes ++ piece }) × (length new.bytes ≤ new.most)
Collects old piece (Err read.TooLong) new = (new ≡ old) × (old.most < length (old.bytes ++ piece))
Collects old piece (Err read.NoMemory) new = new ≡ old
Collects old piece (Err read.Failed) new = ⊥

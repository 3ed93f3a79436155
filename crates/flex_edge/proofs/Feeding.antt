-- The feeding of a file, call by call, and the collecting of its bytes.
use Rattle.std.proofs.Common.{◌≡◌, ℕ, ◌<◌, ◌≤◌, List, [], ◌++◌, length, take, Some, Result, Ok, Err, inl, refl, sym, ap, ◌∙◌, arith, append_assoc, length-append}
use Rattle.std.proofs.lemmas.List.{append-nil}
use Rattle.flex_edge.specs.Outside.{IsPiece, FilesState}
use Rattle.flex_edge.specs.Calls.{SameCounts, Changes, Begins, Reads}
use Rattle.flex_edge.specs.Whole.{HasTried, ReadsFile}
use Rattle.flex_edge.specs.Feeding.{IsFed, Fed_nothing, Fed_piece, Feeds, Collects}
use Rattle.flex_edge.specs.declared.refused.Refused.{Refused}
use Rattle.flex_edge.specs.declared.refused.Refused.TheVariants as refused
use Rattle.flex_edge.specs.declared.consumer.FeedRefusal.TheVariants as feed
use Rattle.flex_edge.specs.declared.input.Collector.{Collector}
use Rattle.flex_edge.specs.declared.input.ReadRefusal.{ReadRefusal}
use Rattle.flex_edge.specs.declared.input.ReadRefusal.TheVariants as read

-- of the file these bytes are read, and the rest is to come
pub record HasReadPart (name bytes : List ℕ) (old new : FilesState) : Type 0 where
  pub there : old.bytes_of name ≡ Some (bytes ++ new.rest)
  pub tried : HasTried name old new

-- the feeding of a file after some of its bytes
pub record IsFeeding {C E : Type 0} (takes : C → List ℕ → Result (Unit {0}) E → C → Type 0) (name : List ℕ) (old : FilesState) (before : C) (new : FilesState) (after : C) : Type 0 where
  pub bytes : List ℕ
  pub fed : IsFed takes before bytes after
  pub changes : Changes old new (SameCounts old new) (HasReadPart name bytes old new)

module _ {C E : Type 0} (takes : C → List ℕ → Result (Unit {0}) E → C → Type 0) (name : List ℕ) (old : FilesState) (before : C) where
  pub feeding_begins : (new : FilesState) → Begins old name (Ok tt) new → IsFeeding takes name old before new before
  feeding_begins new h = record {
    bytes = [];
    fed = Fed_nothing;
    changes = record {
      tells = h.tells;
      counts = h.counts;
      told = λ t. let told = h.told t in
          record { there = told.there; tried = record { begun = told.begun; only = record { bytes = told.bytes; created = told.created } } };
    };
  }

  -- the file could not be begun
  pub beginning_fails : (why : Refused) (new : FilesState) → Begins old name (Err why) new → Feeds takes name old before (Err (feed.Files why)) new before
  beginning_fails refused.Failed new h = record {
    bytes = [];
    fed = Fed_nothing;
    changes = record {
      tells = h.tells;
      counts = h.counts;
      told = λ t. let told = h.told t in (inl refl, record { begun = told.begun; only = record { bytes = told.bytes; created = told.created } });
    };
  }
  beginning_fails refused.NoMemory new h = record {
    bytes = [];
    fed = Fed_nothing;
    changes = record {
      tells = h.tells;
      counts = h.counts;
      told = λ t. let told = h.told t in (inl refl, record { bytes = told.bytes; created = told.created });
    };
  }

  module _ (mid new : FilesState) (at : C) (buffer : List ℕ) (h : IsFeeding takes name old before mid at) where
    -- what is told of the file, after its next bytes were read
    read_on : (count : ℕ) → Reads mid buffer (Ok count) new → Changes old new (SameCounts old new) (HasReadPart name (h.bytes ++ take count buffer) old new)
    read_on count k = record {
      tells = k.1.tells ∙ h.changes.tells;
      counts = record { reads = k.1.counts.reads ∙ h.changes.counts.reads; writes = k.1.counts.writes ∙ h.changes.counts.writes };
      told = λ t.
          let had = h.changes.told t in
          let told = k.1.told (h.changes.tells ∙ t) in
          record {
            there = had.there ∙ ap Some (ap (λ rest. h.bytes ++ rest) told.rest ∙ sym (append_assoc h.bytes (take count buffer) new.rest));
            tried = record {
              begun = told.begun ∙ had.tried.begun;
              only = record { bytes = λ other. told.bytes other ∙ had.tried.only.bytes other; created = told.created ∙ had.tried.only.created };
            };
          };
    }

    pub feeding_goes_on : (piece : List ℕ) (count : ℕ) (after : C) → Reads mid buffer (Ok count) new → piece ≡ take count buffer → IsPiece piece
        → takes at piece (Ok tt) after → IsFeeding takes name old before new after
    feeding_goes_on piece count after k first is taken = record {
      bytes = h.bytes ++ piece;
      fed = Fed_piece h.bytes piece at after h.fed is taken;
      changes = rw first (read_on count k);
    }

-- a collector has these bytes behind those that it had, and not too many
pub record HasCollected (old : Collector) (more : List ℕ) (after : Collector) : Type 0 where
  pub bytes : after.bytes ≡ old.bytes ++ more
  pub most : after.most ≡ old.most
  pub fits : length after.bytes ≤ old.most

pub fed-collected : (old : Collector) (more : List ℕ) (after : Collector) → length old.bytes ≤ old.most → IsFed Collects old more after → HasCollected old more after
fed-collected old more after fits Fed_nothing = record { bytes = sym (append-nil old.bytes); most = refl; fits = fits }
fed-collected old more after fits (Fed_piece had piece mid last fed is taken) =
    let before = fed-collected old had mid fits fed in
    let bytes : after.bytes ≡ mid.bytes ++ piece = ap (λ (c : Collector). c.bytes) taken.0 in
    let most : after.most ≡ mid.most = ap (λ (c : Collector). c.most) taken.0 in
    record {
      bytes = bytes ∙ ap (λ l. l ++ piece) before.bytes ∙ append_assoc old.bytes had piece;
      most = most ∙ before.most;
      fits = omega (arith, taken.1, most, before.most);
    }

module _ (name : List ℕ) (old new : FilesState) (before after : Collector) (empty : before.bytes ≡ []) where
  -- what a collector that was empty has
  has_all : (bytes : List ℕ) (last : Collector) → IsFed Collects before bytes last → HasCollected before bytes last × (last.bytes ≡ bytes)
  has_all bytes last fed =
      let within : length before.bytes ≤ before.most = rw empty (omega arith) in
      let had = fed-collected before bytes last within fed in
      (had, had.bytes ∙ ap (λ l. l ++ bytes) empty)

  pub reads_whole : Feeds Collects name old before (Ok tt) new after → ReadsFile before.most old name (Ok after.bytes) new
  reads_whole h = let had = has_all h.bytes after h.fed in (had.0.fits, rw had.1 h.changes)

  pub reads_part : (why : ReadRefusal) → Feeds Collects name old before (Err (feed.Consumer why)) new after → ReadsFile before.most old name (Err why) new
  reads_part read.Failed h = absurd h.refuses
  reads_part read.NoMemory h = record { tells = h.changes.tells; counts = h.changes.counts; told = λ t. (h.changes.told t).1.only }
  reads_part read.TooLong h =
      let had = has_all h.bytes h.mid h.fed in
      let long : before.most < length (h.bytes ++ h.piece) =
      rw (← had.1) (omega (arith, h.refuses.1, had.0.most)) in
      record {
        tells = h.changes.tells;
        counts = h.changes.counts;
        told = λ t.
            let told = h.changes.told t in
            record {
              long = rw told.0.there (omega (arith, long, length-append (h.bytes ++ h.piece) told.0.left));
              tried = told.1;
            };
      }

-- A whole write and a print, after some of their calls.
use Rattle.std.proofs.Common.{◌≡◌, ℕ, ◌<◌, ◌≤◌, List, [], ◌∷◌, ◌++◌, length, take, drop, None, Some, Ok, refl, sym, ap, ◌∙◌, arith, append_assoc}
use Rattle.std.proofs.lemmas.List.{take-append-drop, take-take, length-take}
use Rattle.std.proofs.lemmas.Option.{MatchOption-at_some}
use Rattle.flex_edge.specs.Outside.{FilesState, SinkState}
use Rattle.flex_edge.specs.Calls.{SameCounts, Changes, SinkChanges, TakenCount, Writes, Creates, Appends, HasAppended, HasGrown, SameBytes}
use Rattle.flex_edge.specs.Whole.{HasWritten}

-- the writing of a file after a first part of its bytes
pub record IsWriting (name bytes left : List ℕ) (old new : FilesState) : Type 0 where
  pub part : List ℕ
  pub whole : bytes ≡ part ++ left
  pub changes : Changes old new (SameCounts old new) (HasWritten name part old new)

-- the printing of bytes after a first part of them
pub record IsPrinting (bytes left : List ℕ) (old new : SinkState) : Type 0 where
  pub part : List ℕ
  pub whole : bytes ≡ part ++ left
  pub changes : SinkChanges old new (new.write_faults ≡ old.write_faults) (new.taken ≡ old.taken ++ part)

-- a piece of which some bytes were taken left the count as it was
same_taken : (count : ℕ) (piece : List ℕ) (old new : ℕ) → 0 < count → TakenCount count piece old new → new ≡ old
same_taken count [] old new some h = h
same_taken count (byte ∷ piece) old new some h = h.1 some

-- the bytes of a first piece that were taken, and those that are left
taken_and_left : (left piece : List ℕ) (most count : ℕ) → piece ≡ take most left → count ≤ length piece → take count piece ++ drop count left ≡ left
taken_and_left left piece most count first fits =
    let within : count ≤ most = omega (arith, ap length first, length-take most left) in
    rw (first, take-take count most left within) (take-append-drop count left)

-- all bytes, after some of a first piece of those left were taken
split_on : (bytes part left piece : List ℕ) (most count : ℕ) → bytes ≡ part ++ left → piece ≡ take most left → count ≤ length piece
    → bytes ≡ (part ++ take count piece) ++ drop count left
split_on bytes part left piece most count whole first fits =
    whole ∙ ap (λ l. part ++ l) (sym (taken_and_left left piece most count first fits)) ∙ sym (append_assoc part (take count piece) (drop count left))

-- a call of the sink that took some bytes of a first piece
pub printing_goes_on : (bytes left piece rest : List ℕ) (most count : ℕ) (old mid new : SinkState) → IsPrinting bytes left old mid → Writes mid piece (Ok count) new
    → piece ≡ take most left → rest ≡ drop count left → 0 < count → IsPrinting bytes rest old new
printing_goes_on bytes left piece rest most count old mid new h k first drops some = record {
  part = h.part ++ take count piece;
  whole = rw drops (split_on bytes h.part left piece most count h.whole first k.0);
  changes = record {
    tells = k.1.tells ∙ h.changes.tells;
    faults = same_taken count piece mid.write_faults new.write_faults some k.1.faults ∙ h.changes.faults;
    told = λ t. k.1.told (h.changes.tells ∙ t) ∙ ap (λ taken. taken ++ take count piece) (h.changes.told t) ∙ append_assoc old.taken h.part (take count piece);
  };
}

-- a call that made the file
pub writing_begins : (name bytes : List ℕ) (old new : FilesState) → Creates old name (Ok tt) new → IsWriting name bytes bytes old new
writing_begins name bytes old new h = record {
  part = [];
  whole = refl;
  changes = record {
    tells = h.tells;
    counts = h.counts;
    told = λ t. let made = h.told t in record { there = made.empty; others = made.others; created = made.created; reading = made.reading };
  };
}

-- the bytes of the file created last, after a call that added some
grown_since : (name part piece : List ℕ) (old mid new : FilesState) → HasWritten name part old mid → HasAppended piece mid new → HasGrown name piece mid new
grown_since name part piece old mid new h k =
    MatchOption-at_some ((piece ≡ []) × SameBytes mid new) (λ created. HasGrown created piece mid new) name h.created k.file

-- what is told, after a call that added some bytes to the file created last
written_since : (name part piece : List ℕ) (old mid new : FilesState) → HasWritten name part old mid → HasAppended piece mid new
    → HasWritten name (part ++ piece) old new
written_since name part piece old mid new h k =
    let after = grown_since name part piece old mid new h k in
    record {
      there = MatchOption-at_some ((piece ≡ []) × (new.bytes_of name ≡ None)) (λ before. new.bytes_of name ≡ Some (before ++ piece)) part h.there after.bytes;
      others = λ other differs. after.others other differs ∙ h.others other differs;
      created = k.created ∙ h.created;
      reading = record { begun = k.reading.begun ∙ h.reading.begun; rest = k.reading.rest ∙ h.reading.rest };
    }

-- a call that added some bytes of a first piece to the file
pub writing_goes_on : (name bytes left piece rest : List ℕ) (most count : ℕ) (old mid new : FilesState) → IsWriting name bytes left old mid
    → Appends mid piece (Ok count) new → piece ≡ take most left → rest ≡ drop count left → 0 < count → IsWriting name bytes rest old new
writing_goes_on name bytes left piece rest most count old mid new h k first drops some = record {
  part = h.part ++ take count piece;
  whole = rw drops (split_on bytes h.part left piece most count h.whole first k.0);
  changes = record {
    tells = k.1.tells ∙ h.changes.tells;
    counts = record {
      reads = k.1.counts.reads ∙ h.changes.counts.reads;
      writes = same_taken count piece mid.write_faults new.write_faults some k.1.counts.writes ∙ h.changes.counts.writes;
    };
    told = λ t. written_since name h.part (take count piece) old mid new (h.changes.told t) (k.1.told (h.changes.tells ∙ t));
  };
}

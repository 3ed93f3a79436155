-- What the files mean after they took a part of a piece.
use Rattle.std.proofs.Common.{◌≡◌, ℕ, ◌≤◌, List, [], ◌++◌, min, Option, None, Some, option_map, option_and_then, MatchOption, refl, arith, sym, ◌∙◌}
use Rattle.flex_edge.specs.Outside.{FilesState}
use Rattle.flex_edge.specs.Calls.{SameBytes, SameReading, HasGrown, HasAppended}
use Rattle.flex_edge.specs.Memory.{NamedFiles, bytes_of, files_after_growth}
use Rattle.flex_edge.specs.MemoryCalls.{files_after_append, taken_count}
use Rattle.flex_edge.proofs.NamedFiles.{bytes_of-files_after_change, bytes_of-files_after_change-other}

-- no part is taken where no file takes one
pub taken_none : (found : Option (List ℕ)) (count taken : ℕ) → taken ≡ taken_count found count → found ≡ None → taken ≡ 0
taken_none found count taken e none = rw none at e

pub taken_within : (found : Option (List ℕ)) (most count taken : ℕ) → taken ≡ taken_count found (min most count) → taken ≤ count
taken_within None most count taken e = omega arith
taken_within (Some bytes) most count taken e = omega arith

-- a file took a part, or it isn't there and took none
has_grown : (old new : FilesState) (files : NamedFiles) (name part : List ℕ) → ((other : List ℕ) → old.bytes_of other ≡ bytes_of files other) →
    ((other : List ℕ) → new.bytes_of other ≡ bytes_of (files_after_growth files name part) other) → (bytes_of files name ≡ None → part ≡ []) → HasGrown name part old new
has_grown old new files name part before after empty = record {
  bytes = rw (before, after, bytes_of-files_after_change (λ bytes. bytes ++ part) files name)
      (elim (bytes_of files name) as (λ found. (found ≡ None → part ≡ []) → MatchOption found ((part ≡ []) × (option_map (λ bytes. bytes ++ part) found ≡ None)) (λ had. option_map (λ bytes. bytes ++ part) found ≡ Some (had ++ part)))
      [ None ↦ λ none. (none refl, refl) | Some had ↦ λ none. refl ] empty);
  others = λ other differs. rw (before, after) (bytes_of-files_after_change-other (λ bytes. bytes ++ part) files name other differs);
}

-- the file created last took a part, or none was created and none was taken
pub has_appended : (old new : FilesState) (files : NamedFiles) (part : List ℕ) → ((name : List ℕ) → old.bytes_of name ≡ bytes_of files name) →
    ((name : List ℕ) → new.bytes_of name ≡ bytes_of (files_after_append files old.created part) name) → (option_and_then (bytes_of files) old.created ≡ None → part ≡ []) →
    new.created ≡ old.created → SameReading old new → HasAppended part old new
has_appended old new files part before after empty created reading = record {
  file = elim old.created as (λ created. ((name : List ℕ) → new.bytes_of name ≡ bytes_of (files_after_append files created part) name) → (option_and_then (bytes_of files) created ≡ None → part ≡ []) →
      MatchOption created ((part ≡ []) × SameBytes old new) (λ name. HasGrown name part old new))
      [ None ↦ λ same none. (none refl, λ name. same name ∙ sym (before name)) | Some name ↦ λ grew none. has_grown old new files name part before grew none ] after empty;
  created = created;
  reading = reading;
}

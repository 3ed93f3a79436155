use Rattle.std.proofs.Common.{◌≡◌, length, option_and_then, refl, arith}
use Rattle.std.proofs.lemmas.List.{with_items_is}
use Rattle.flex_edge.specs.Memory.{bytes_of}
use Rattle.flex_edge.proofs.Told.{has_appended, taken_none, taken_within}
use Rattle.flex_edge.proofs.memory_files.MemoryFilesFiles.append.Goals as goal

pub returns-clause-told : goal.returns-clause-told
returns-clause-told c =
    let files = c.self.inside.files.items in
    let found = option_and_then (bytes_of files) c.self.inside.created in
    let count = rw c.deref_mut.ensures.value at c.in_ok-taken.ensures.count in
    let after = rw c.deref_mut.ensures.value at c.in_ok-taken.ensures.after in
    let kept : length c.append_to_created.new.files ≡ c.self.inside.files.len = omega arith in
    rw (← c.self.view_is) (
      taken_within found _ _ _ count,
      record {
        tells = refl;
        counts = record { reads = refl; writes = c.faults_after-self-inside.ensures.rose };
        told = λ _. has_appended _ _ files _ (λ name. refl) (λ name. rw (with_items_is c.self.inside.files _ kept, after) refl) (λ none. rw (taken_none found _ _ count none) refl) refl (record { begun = refl; rest = refl });
      },
    )

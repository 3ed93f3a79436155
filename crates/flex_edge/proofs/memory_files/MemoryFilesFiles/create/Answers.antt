use Rattle.std.proofs.Common.{refl}
use Rattle.flex_edge.proofs.NamedFiles.{bytes_of-files_after_create, bytes_of-files_after_create-other}
use Rattle.flex_edge.proofs.memory_files.MemoryFilesFiles.create.Goals as goal

pub returns-clause-told : goal.returns-clause-told
returns-clause-told c =
    let files = c.in_ok-empty_file.ensures.ok in
    let made = c.in_ok-created.ensures in
    rw (← c.self.view_is) (record {
      tells = refl;
      counts = record { reads = refl; writes = refl };
      told = λ _. record {
        empty = rw (files, made) (bytes_of-files_after_create c.self.inside.files.items c.args.name.now);
        others = λ other differs. rw (files, made) (bytes_of-files_after_create-other c.self.inside.files.items c.args.name.now other differs);
        created = rw made refl;
        reading = record { begun = refl; rest = refl };
      };
    })

use Rattle.std.proofs.Common.{◌≡◌, map, take}
use Rattle.named_sources.specs.Named.{class_named}
use Rattle.named_sources.proofs.named.classes_of.Given as goal

abbrev pub invariant-loop-file : goal.invariant-loop-file
invariant-loop-file l = l.classes ≡ map class_named (take l.file-index l.files)

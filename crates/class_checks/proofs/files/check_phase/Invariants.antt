use Rattle.std.proofs.Common.{◌≡◌, ◌+◌, length}
use Rattle.source_sites.specs.Sites.{first_broken}
use Rattle.source_sites.specs.Sources.{SourceFiles}
use Rattle.as3_types.specs.Tables.{table_of}
use Rattle.member_checks.specs.AllReaders.{KnowsIdentifiers}
use Rattle.class_checks.specs.CodeSites.{rules_in}
use Rattle.class_checks.proofs.files.check_phase.Given as goal

abbrev pub invariant-loop-file : goal.invariant-loop-file
invariant-loop-file l =
    ((s : SourceFiles) → KnowsIdentifiers s.readers → first_broken (rules_in s (table_of l.fn.table) l.fn.phase 0 l.fn.table.classes l.fn.files) ≡ first_broken (rules_in s (table_of l.fn.table) l.fn.phase l.number l.classes l.rest))
    × (l.number + length l.classes ≡ length l.fn.table.classes)

abbrev pub decreases-loop-file : goal.decreases-loop-file
decreases-loop-file l = length l.rest

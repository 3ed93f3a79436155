use Rattle.std.proofs.Common.{◌≡◌, ◌+◌, length}
use Rattle.std.specs.List.{sum_by}
use Rattle.source_reading.specs.ClassTexts.{import_tokens, tokens_before}
use Rattle.source_reading.proofs.class_files.tokens_before.Given as goal

abbrev pub invariant-loop-import : goal.invariant-loop-import
invariant-loop-import l = l.number + sum_by import_tokens l.rest ≡ tokens_before l.fn.file

abbrev pub decreases-loop-import : goal.decreases-loop-import
decreases-loop-import l = length l.rest

use Rattle.std.proofs.Common.{◌≡◌, ◌++◌, drop}
use Rattle.source_sites.specs.Texts.{split}
use Rattle.member_checks.specs.Dots.{begun}
use Rattle.member_checks.proofs.event_types.names_between_dots.Given as goal

abbrev pub invariant-loop-byte : goal.invariant-loop-byte
invariant-loop-byte l = l.names ++ begun l.name (split 46 (drop l.byte-index l.written)) ≡ split 46 l.fn.written

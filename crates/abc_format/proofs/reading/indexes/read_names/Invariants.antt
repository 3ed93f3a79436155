use Rattle.std.proofs.Common.{◌≡◌, ◌-◌}
use Rattle.abc_format.proofs.Lists.{after}
use Rattle.abc_format.specs.Fields.{times, read_index}
use Rattle.abc_format.proofs.reading.indexes.read_names.Given as goal

abbrev pub invariant-loop-index : goal.invariant-loop-index
invariant-loop-index l =
    after l.names (times (read_index l.rule) (l.fn.count - l._index) l.unread) ≡ times (read_index l.rule) l.fn.count l.fn.unread

use Rattle.std.proofs.Common.{◌≡◌, ◌-◌}
use Rattle.abc_format.proofs.Lists.{after}
use Rattle.abc_format.specs.Fields.{times}
use Rattle.abc_format.proofs.reading.lists.read_times.Given as goal

abbrev pub invariant-loop-index : goal.invariant-loop-index
invariant-loop-index g l =
    after l.items (times (g.T.Readable.reading l.tables) (l.fn.count - l._index) l.unread) ≡ times (g.T.Readable.reading l.tables) l.fn.count l.fn.unread

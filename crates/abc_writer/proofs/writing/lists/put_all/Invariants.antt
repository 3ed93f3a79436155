use Rattle.std.proofs.Common.{◌≡◌, ◌++◌, take}
use Rattle.std.specs.List.{flat_map}
use Rattle.abc_writer.proofs.writing.lists.put_all.Given as goal

abbrev pub invariant-loop-item : goal.invariant-loop-item
invariant-loop-item g l = l.bytes ≡ l.initial.bytes ++ flat_map g.T.Written.spelling (take l.item-index l.items)

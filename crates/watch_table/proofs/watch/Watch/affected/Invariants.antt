use Rattle.std.proofs.Common.{◌≡◌, ◌+◌, ◌≤◌, length, sum_by, take}
use Rattle.watch_table.specs.Affected.{affected}
use Rattle.watch_table.proofs.watch.Watch.affected.Given as goal

abbrev pub invariant-loop-watched : goal.invariant-loop-watched
invariant-loop-watched g l = record {
  found : l.pairs ≡ affected (g.W.Fields.held l.world) l.object l.property (take l.watched-index l.watched-items);
  few : l.steps ≤ l.initial.steps + sum_by (λ w. 1 + length w.chain) (take l.watched-index l.watched-items);
}

use Rattle.std.proofs.Common.{◌≡◌, ◌+◌, ◌≤◌, drop}
use Rattle.std.specs.Prelude.{Some}
use Rattle.flex_world.specs.Watching.{reaches}
use Rattle.watch_table.proofs.walk.reaches.Given as goal

abbrev pub invariant-loop-name : goal.invariant-loop-name
invariant-loop-name g l = record {
  same : reaches (g.W.Fields.held l.world) l.object l.property (drop l.name-index l.chain) (Some l.at) ≡ reaches (g.W.Fields.held l.world) l.object l.property l.chain (Some l.fn.document);
  few : l.steps ≤ l.initial.steps + l.name-index;
}

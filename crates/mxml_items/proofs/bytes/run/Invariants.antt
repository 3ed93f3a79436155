use Rattle.std.proofs.Common.{◌≡◌, take, true}
use Rattle.std.specs.List.{list_all}
use Rattle.mxml_items.specs.Runs.{takes}
use Rattle.mxml_items.proofs.bytes.run.Given as goal

abbrev pub invariant-loop-i : goal.invariant-loop-i
invariant-loop-i l = list_all (takes l.kind) (take l.i l.text) ≡ true

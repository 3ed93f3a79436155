use Rattle.std.proofs.Common.{◌≡◌, ◌++◌, map, take}
use Rattle.source_sites.specs.Trees.{step_name}
use Rattle.named_sources.proofs.imports.add_steps.Given as goal

abbrev pub invariant-loop-step : goal.invariant-loop-step
invariant-loop-step l = l.names ≡ l.fn.names ++ map step_name (take l.step-index l.steps)

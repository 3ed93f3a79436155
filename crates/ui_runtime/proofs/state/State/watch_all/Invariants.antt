use Rattle.std.proofs.Common.{◌≡◌, drop}
use Rattle.ui_runtime.specs.Documents.{watching}
use Rattle.ui_runtime.proofs.state.State.watch_all.Given as goal

-- the chains from here on are still to be watched
abbrev pub invariant-loop-chain : goal.invariant-loop-chain
invariant-loop-chain l = watching l.document l.binding (drop l.chain-index l.chains) l.self ≡ watching l.document l.binding l.chains l.fn.self

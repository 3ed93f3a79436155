use Rattle.avm2_verify.specs.Known.{IsBegun}
use Rattle.avm2_verify.proofs.walk.Walk.begin.Given as goal

abbrev pub invariant-loop-place : goal.invariant-loop-place
invariant-loop-place l = IsBegun l.place l.start (record { table = l.table.items; work = l.work.items })

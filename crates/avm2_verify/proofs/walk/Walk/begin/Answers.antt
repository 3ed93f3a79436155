use Rattle.std.proofs.Common.{rules, ◌≡◌, ◌<◌, [], ◌∷◌, ◌++◌, Some, None, arith}
use Rattle.avm2_verify.proofs.KnownLaws.{begun_at, begun_more}
use Rattle.avm2_verify.proofs.walk.Walk.begin.Goals as goal
use Rattle.avm2_verify.proofs.walk.Walk.begin.Goals.{then-place-eq0+in_ok-push+in_ok-push-2, else-place-eq0+in_ok-push-3}

pub loop-place-preserved : goal.loop-place-preserved
loop-place-preserved c = elim c.if-place-eq0.branch [
  | then-place-eq0+in_ok-push+in_ok-push-2 w ↦
      let table : c.if-place-eq0.table.items ≡ c.loop-place.table.items ++ Some c.args.start ∷ [] = search rules in
      let work : c.if-place-eq0.work.items ≡ c.loop-place.work.items ++ 0 ∷ [] = search rules in
      begun_at c.loop-place.place c.args.start _ _ w.if-place-eq0.true c.loop-place.invariant table work
  | else-place-eq0+in_ok-push-3 w ↦
      let table : c.if-place-eq0.table.items ≡ c.loop-place.table.items ++ None ∷ [] = search rules in
      let work : c.if-place-eq0.work.items ≡ c.loop-place.work.items = search rules in
      let ne = w.if-place-eq0.false in
      let some : 0 < c.loop-place.place = omega arith in
      begun_more c.loop-place.place c.args.start _ _ some c.loop-place.invariant table work
]

use Rattle.std.proofs.Common.{◌≡◌, ◌++◌, subst}
use Rattle.as3_parser.specs.Here.{row_list}
use Rattle.as3_parser.proofs.Rows.{gathers, gathers_none, gathered_row}
use Rattle.as3_parser.proofs.table.push_row.Goals as goal

pub loop-at-init : goal.loop-at-init
loop-at-init c = gathers_none _ _ _

pub loop-at-preserved : goal.loop-at-preserved
loop-at-preserved c = gathers _ _ _ _ _ _ _ c.loop-at.invariant c.loop-at-test.true c.symbol-b.ensures c.in_ok-push.ensures

pub returns : goal.returns
returns c =
    subst (λ r. c.loop-at.stack ≡ row_list r ++ c.args.stack.now) c.from-row.ensures (gathered_row c.from-row.result c.end-from.result c.end-to.result c.loop-at.at c.args.stack.now c.loop-at.stack c.loop-at.invariant c.end-from.ensures c.end-to.ensures c.loop-at-test.false c.loop-at.auto.at-end)

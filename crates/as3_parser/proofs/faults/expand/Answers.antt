use Rattle.as3_parser.proofs.Rows.{took, refused}
use Rattle.as3_parser.proofs.faults.expand.Goals as goal

pub returns : goal.returns
returns c = took _ _ _ _ _ c.row_at-row.ensures c.if-row.false c.in_ok-push_row.ensures

pub returns-then-row : goal.returns-then-row
returns-then-row c = refused _ _ _ c.row_at-row.ensures c.if-row.true
